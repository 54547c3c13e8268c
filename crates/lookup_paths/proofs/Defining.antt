-- What an image defines, by its IDs and the `contents` of its manifest, and that a room without clash defines an alias for one object.
-- Assumes nothing.
use Prim.Native.Nat.{ℕ}
use mathlib.Core.Path.{◌≡◌, refl, sym, ap, subst, ◌∙◌}
use mathlib.Core.Logic.{◌↔◌, ◌⊎◌, inl, inr, ⊎_elim}
use mathlib.Core.Bool.{Bool, false, not, ◌&&◌}
use mathlib.Core.List.Memᴰ
use mathlib.Core.List.{List, [], ◌∷◌, Memᴰ as In}
use borrow.Author.Tests.{eq-eqb}
use Rattle.laws.specs.Any.{any_of, any_pair}
use Rattle.laws.specs.Order.{same}
use Rattle.laws.proofs.Any.{or_none, none_passes, passed_by_none}
use Rattle.laws.proofs.Order.{same_refl}
use Rattle.reference_digests.specs.Algorithms.{byte_of}
use Rattle.reference_digests.specs.declared.algorithm.Algorithm.{Algorithm}
use Rattle.reference.specs.References.{Layer, layer_alias, layer_text, Id, image_id, no_id}
use Rattle.manifest.specs.Manifest.{Alias, contents}
use Rattle.manifest.specs.Names.{differ, conflict}
use Rattle.manifest_objects.proofs.Agreement.{one_object, agreed}
use Rattle.store_record.specs.Image.{Image}
use Rattle.store_keys.specs.Keys.{Key, LayerKey, image_keys, layer_keys_under, layer_keys_of, layer_keys}
use Rattle.store_keys.specs.Clash.{is_same_key, disagree, clash, any_clash}
use Rattle.lookup_paths.specs.Path.{alias_of, Defines, by_image}

-- the layer key of an alias under an algorithm and a signer
abbrev keyed : Algorithm → List ℕ → Alias → LayerKey
keyed a s x = record { key = record { algorithm = a; signer = s; name = x.name }; object = x.object }

-- an ID of an image and an alias of its `contents` that make up a layer key
record Made (is : List Id) (xs : List Alias) (k : LayerKey) : Type 0 where
  algorithm : Algorithm
  signer : List ℕ
  digest : List ℕ
  named : Alias
  id : In (image_id algorithm signer digest) is
  stands : In named xs
  key : keyed algorithm signer named ≡ k

made_later : {i : Id} {is : List Id} {xs : List Alias} {k : LayerKey} → Made is xs k → Made (i ∷ is) xs k
made_later m =
    record {
      algorithm = m.algorithm;
      signer = m.signer;
      digest = m.digest;
      named = m.named;
      id = In.tail m.id;
      stands = m.stands;
      key = m.key;
    }

made_here : (i : Id) (is : List Id) (xs : List Alias) {k : LayerKey} → In k (layer_keys_under i xs) → Made (i ∷ is) xs k
unfolding layer_keys_under
made_here no_id is xs m = absurd (Memᴰ.not-nil m)
made_here (image_id a s d) is xs m =
    let w = Memᴰ.of_map (keyed a s) xs m in
    record { algorithm = a; signer = s; digest = d; named = w.0; id = In.head refl; stands = w.1; key = w.2 }

made_of : (is : List Id) (xs : List Alias) {k : LayerKey} → In k (layer_keys_of is xs) → Made is xs k
unfolding layer_keys_of
made_of [] xs m = absurd (Memᴰ.not-nil m)
made_of (i ∷ is) xs {k} m =
    ⊎_elim (made_here i is xs) (λ (q : In k (layer_keys_of is xs)). made_later (made_of is xs q)) (Memᴰ.append_cases (layer_keys_under i xs) m)

-- every ID and every alias make one up
key_made :
    {xs : List Alias} {a : Algorithm} {s d : List ℕ} {is : List Id} {x : Alias} → In (image_id a s d) is → In x xs
    → In (keyed a s x) (layer_keys_of is xs)
unfolding layer_keys_of layer_keys_under
key_made {xs = xs} {a} {s} {d} {x = x} (In.head {x = i} {xs = is} e) m =
    Memᴰ.append_left (layer_keys_of is xs) (subst (λ (j : Id). In (keyed a s x) (layer_keys_under j xs)) e (Memᴰ.map (keyed a s) m))
key_made {xs = xs} (In.tail {x = i} n) m = Memᴰ.append_right (layer_keys_under i xs) (key_made n m)

-- an image of the room that defines an alias, by one of its IDs and a name of its `contents`
pub record Defined (room : List Image) (a : Algorithm) (s n : List ℕ) (m : Layer) : Type 0 where
  pub image : Image
  pub loaded : In image room
  pub digest : List ℕ
  pub id : In (image_id a s digest) image.ids
  pub stands : In (record { name = n; object = m }) (contents image.text)

module _ (room : List Image) where
  -- an alias that is defined is a reference by an alias
  record Named (l m : Layer) : Type 0 where
    algorithm : Algorithm
    signer : List ℕ
    name : List ℕ
    defined : Defined room algorithm signer name m
    is : layer_alias algorithm signer name ≡ l

  named : {l m : Layer} → Defines room l m → Named l m
  unfolding layer_keys
  named (by_image {x = x} {k = k} h i) =
      let w = made_of x.ids (contents x.text) i in
      let o : w.named.object ≡ k.object = ap (λ (j : LayerKey). j.object) w.key in
      record {
        algorithm = w.algorithm;
        signer = w.signer;
        name = w.named.name;
        defined = record {
          image = x;
          loaded = h;
          digest = w.digest;
          id = w.id;
          stands = Memᴰ.cast (λ j. record { name = w.named.name; object = sym o j }) w.stands;
        };
        is = ap (λ (j : LayerKey). alias_of j.key) w.key;
      }

  module _ (a : Algorithm) (s n : List ℕ) (m : Layer) where
    by_name : Defines room (layer_alias a s n) m → Defined room a s n m
    by_name h =
        let w = named h in
        let e = w.is in
        let p : w.algorithm ≡ a = cc in
        let q : w.signer ≡ s = cc in
        let r : w.name ≡ n = cc in
        subst (λ (b : Algorithm). Defined room b s n m) p
        (subst (λ (t : List ℕ). Defined room w.algorithm t n m) q (subst (λ (u : List ℕ). Defined room w.algorithm w.signer u m) r w.defined))

    by_its_image : Defined room a s n m → Defines room (layer_alias a s n) m
    unfolding layer_keys
    by_its_image w = by_image w.loaded (key_made w.id w.stands)

    -- An alias is defined for an object exactly if some image has an ID with its algorithm and signer, and its name, all bytes, with that object in `contents`.
    pub defines_exactly : Defines room (layer_alias a s n) m ↔ Defined room a s n m
    defines_exactly = (by_name, by_its_image)

-- where no two elements pass a test, two are one or do not pass it in one order
asked :
    {A : Type 0} (p : A → A → Bool) {x y : A} {xs : List A} → any_pair p xs ≡ false → In x xs → In y xs
    → (x ≡ y) ⊎ ((p x y ≡ false) ⊎ (p y x ≡ false))
unfolding any_pair
asked p e (In.head f) (In.head g) = inl (f ∙ sym g)
asked p {y = y} e (In.head {x = z} {xs = zs} f) (In.tail k) =
    inr (inl (ap (λ u. p u y) f ∙ none_passes (p z) (or_none (any_of (p z) zs) (any_pair p zs) e).0 k))
asked p {x = x} e (In.tail k) (In.head {x = z} {xs = zs} f) =
    inr (inr (ap (λ u. p u x) f ∙ none_passes (p z) (or_none (any_of (p z) zs) (any_pair p zs) e).0 k))
asked p e (In.tail {x = z} {xs = zs} j) (In.tail k) = asked p (or_none (any_of (p z) zs) (any_pair p zs) e).1 j k

-- under one ID keys disagree where their aliases differ
disagree_keyed : (a : Algorithm) (s : List ℕ) (u v : Alias) → disagree (keyed a s u) (keyed a s v) ≡ differ u v
unfolding disagree is_same_key differ
disagree_keyed a s u v =
    λ i. (eq-eqb (byte_of a) (byte_of a) refl i && (same_refl s i && same u.name v.name)) && not (same (layer_text u.object) (layer_text v.object))

-- images of one signer that do not clash have no name of a layer for different objects
unconflicted :
    (x y : Image) {a : Algorithm} {s d e : List ℕ} → clash x y ≡ false → In (image_id a s d) x.ids → In (image_id a s e) y.ids
    → conflict (contents x.text) (contents y.text) ≡ false
unfolding clash conflict layer_keys
unconflicted x y {a} {s} c i j =
    let own = any_of (λ (k : Key). any_of (is_same_key k) (image_keys y)) (image_keys x) in
    let f = (or_none own (any_of (λ (k : LayerKey). any_of (disagree k) (layer_keys y)) (layer_keys x)) c).1 in
    passed_by_none _ (contents x.text)
    (λ u p. passed_by_none (differ u) (contents y.text)
    (λ v q. sym (disagree_keyed a s u v) ∙ none_passes (disagree (keyed a s u)) (none_passes _ f (key_made i p)) (key_made j q)))

module _ {room : List Image} (c : any_clash room ≡ false) where
  one_defined : {a : Algorithm} {s n : List ℕ} {l m : Layer} → Defined room a s n l → Defined room a s n m → l ≡ m
  unfolding any_clash
  one_defined {a} {s} {n} {l} {m} u v =
      ⊎_elim
      (λ (e : u.image ≡ v.image).
      one_object v.image.text (subst (λ (x : Image). In (record { name = n; object = l }) (contents x.text)) e u.stands) v.stands refl)
      (⊎_elim
      (λ (e : clash u.image v.image ≡ false).
      agreed u.image.text v.image.text (unconflicted u.image v.image e u.id v.id) u.stands v.stands refl)
      (λ (e : clash v.image u.image ≡ false).
      sym (agreed v.image.text u.image.text (unconflicted v.image u.image e v.id u.id) v.stands u.stands refl)))
      (asked clash c u.loaded v.loaded)

  -- A room without clash defines an alias for one object.
  pub one_object_defined : {l m n : Layer} → Defines room l m → Defines room l n → m ≡ n
  one_object_defined {l} {m} {n} h k =
      let w = named room h in
      one_defined w.defined
      (by_name room w.algorithm w.signer w.name n (subst (λ (x : Layer). Defines room x n) (sym w.is) k))
