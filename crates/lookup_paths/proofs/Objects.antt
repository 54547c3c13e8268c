-- The object that is computed for an alias is the one that the room defines it for, and it is one of the images' objects. Assumes nothing.
use Rattle.std.specs.Prelude.{Option, None, Some}
use Prim.Native.Nat.{ℕ, ◌+◌}
use mathlib.Core.Path.{◌≡◌, refl, sym, ap, subst, ◌∙◌}
use mathlib.Core.Logic.{◌↔◌, ⊎_elim}
use mathlib.Core.Bool.{true, false, ◌&&◌, and-eq-true_iff}
use mathlib.Core.List.Memᴰ
use mathlib.Core.List.{List, [], ◌∷◌, Memᴰ as In}
use native.Mathlib.Omega.{arith}
use lib.Dec.{eqb}
use lib.ListN.{length, length-append}
use borrow.Author.Tests.{eq-eqb, eqb-true}
use Rattle.laws.specs.Order.{same}
use Rattle.laws.proofs.Order.{by_test, same_eq, same_refl}
use Rattle.reference_digests.specs.Algorithms.{byte_of}
use Rattle.reference_digests.proofs.Digests.{byte_same}
use Rattle.reference.specs.References.{Layer, layer_digest, layer_alias, no_layer}
use Rattle.manifest.specs.Names.{objects}
use Rattle.manifest_objects.proofs.Agreement.{object_listed}
use Rattle.store_record.specs.Image.{Image}
use Rattle.store_keys.specs.Keys.{Key, LayerKey, layer_keys}
use Rattle.store_keys.specs.Clash.{is_same_key, any_clash}
use Rattle.lookup_paths.specs.Path.{alias_of, Defines, by_image}
use Rattle.lookup_paths.specs.Follow.{keys_in, object_in, aliased_object, objects_of, object_count}
use Rattle.lookup_paths.proofs.Defining.{defines_exactly, one_object_defined}

-- An option holds something or nothing, and the equation stays at hand.
pub by_option : {A C : Type 0} (o : Option A) → (o ≡ None → C) → ((a : A) → o ≡ Some a → C) → C
by_option None f g = f refl
by_option (Some a) f g = g a refl

-- An option that holds nothing does not hold something.
pub none_some : {A C : Type 0} {a : A} → ◌≡◌ {A = Option A} None (Some a) → C
none_some e = let z : ◌≡◌ {A = ℕ} 0 1 = cc in absurd (omega arith)

-- keys that are the same are one alias
same_alias : (k l : Key) → is_same_key k l ≡ true → alias_of k ≡ alias_of l
unfolding is_same_key
same_alias k l e =
    let p = (and-eq-true_iff (eqb (byte_of k.algorithm) (byte_of l.algorithm)) (same k.signer l.signer && same k.name l.name)).0 e in
    let q = (and-eq-true_iff (same k.signer l.signer) (same k.name l.name)).0 p.1 in
    let a = byte_same k.algorithm l.algorithm (eqb-true (byte_of k.algorithm) (byte_of l.algorithm) p.0) in
    let s = same_eq k.signer l.signer q.0 in
    let n = same_eq k.name l.name q.1 in
    λ i. layer_alias (a i) (s i) (n i)

same_itself : (k : Key) → is_same_key k k ≡ true
unfolding is_same_key
same_itself k = rw (eq-eqb (byte_of k.algorithm) (byte_of k.algorithm) refl, same_refl k.signer, same_refl k.name)

-- a layer key that has an object
record Holds (k : Key) (ls : List LayerKey) (m : Layer) : Type 0 where
  held : LayerKey
  stands : In held ls
  is : is_same_key held.key k ≡ true
  object : held.object ≡ m

found : (k : Key) (ls : List LayerKey) (m : Layer) → object_in k ls ≡ Some m → Holds k ls m
unfolding object_in
found k [] m e = none_some e
found k (l ∷ ls) m e =
    by_test (is_same_key l.key k)
    (λ f. let g : Some l.object ≡ Some m = rw (f, object_in) at e in
    let h : l.object ≡ m = cc in
    record { held = l; stands = Memᴰ.head refl; is = f; object = h })
    (λ f. let w = found k ls m (rw (f, object_in) at e) in
    record { held = w.held; stands = Memᴰ.tail w.stands; is = w.is; object = w.object })

not_found : (k : Key) {l : LayerKey} {ls : List LayerKey} → object_in k ls ≡ None → In l ls → is_same_key l.key k ≡ true → ⊥
unfolding object_in
not_found k e (Memᴰ.head {x = x} {xs = xs} q) f =
    let g : is_same_key x.key k ≡ true = ap (λ (j : LayerKey). is_same_key j.key k) (sym q) ∙ f in none_some (sym (rw (g, object_in) at e))
not_found k e (Memᴰ.tail {x = x} {xs = xs} m) f =
    by_test (is_same_key x.key k) (λ g. none_some (sym (rw (g, object_in) at e))) (λ g. not_found k (rw (g, object_in) at e) m f)

-- the image that has a key of the room
key_image : (room : List Image) {k : LayerKey} → In k (keys_in room) → (x : Image) × In x room × In k (layer_keys x)
unfolding keys_in
key_image [] m = absurd (Memᴰ.not-nil m)
key_image (x ∷ xs) {k} m =
    ⊎_elim
    (λ (q : In k (layer_keys x)). (x, Memᴰ.head refl, q))
    (λ (q : In k (keys_in xs)). let w = key_image xs q in (w.0, Memᴰ.tail w.1, w.2))
    (Memᴰ.append_cases (layer_keys x) m)

image_key : {x : Image} {room : List Image} {k : LayerKey} → In x room → In k (layer_keys x) → In k (keys_in room)
unfolding keys_in
image_key {k = k} (Memᴰ.head {x = y} {xs = ys} e) m = Memᴰ.append_left (keys_in ys) (subst (λ (z : Image). In k (layer_keys z)) e m)
image_key (Memᴰ.tail {x = y} n) m = Memᴰ.append_right (layer_keys y) (image_key n m)

module _ (room : List Image) where
  -- A layer key of the room defines the aliases that have the same key.
  pub key_defines : (k : LayerKey) (j : Key) → In k (keys_in room) → is_same_key k.key j ≡ true → Defines room (alias_of j) k.object
  key_defines k j m e =
      let x = key_image room m in subst (λ (l : Layer). Defines room l k.object) (same_alias k.key j e) (by_image x.1 x.2)

  by_key : (k : Key) (m : Layer) → object_in k (keys_in room) ≡ Some m → Defines room (alias_of k) m
  by_key k m e =
      let w = found k (keys_in room) m e in
      subst (λ (n : Layer). Defines room (alias_of k) n) w.object (key_defines w.held k w.stands w.is)

  -- The object that is computed for an alias is one that the room defines it for.
  pub object_defined : (l m : Layer) → aliased_object room l ≡ Some m → Defines room l m
  unfolding aliased_object
  object_defined (layer_alias a s n) m e = by_key (record { algorithm = a; signer = s; name = n }) m e
  object_defined (layer_digest a d) m e = none_some e
  object_defined no_layer m e = none_some e

  -- An alias for which no object is computed is not defined.
  pub object_undefined : {l m : Layer} → aliased_object room l ≡ None → Defines room l m → ⊥
  unfolding aliased_object
  object_undefined e (by_image {x = x} {k = k} i j) = not_found k.key e (image_key i j) (same_itself k.key)

  module _ (c : any_clash room ≡ false) {l m : Layer} where
    defined_object : Defines room l m → aliased_object room l ≡ Some m
    defined_object h =
        by_option (aliased_object room l)
        (λ e. absurd (object_undefined e h))
        (λ n e. e ∙ ap Some (one_object_defined c (object_defined l n e) h))

    -- In a room without clash the object of an alias is what the room defines it for.
    pub object_exactly : (aliased_object room l ≡ Some m) ↔ Defines room l m
    object_exactly = (object_defined l m, defined_object)

  -- There is no object exactly if the room does not define the alias.
  pub no_object_exactly : (l : Layer) → (aliased_object room l ≡ None) ↔ ((m : Layer) → Defines room l m → ⊥)
  no_object_exactly l = (λ e m h. object_undefined e h, λ u. by_option (aliased_object room l) (λ e. e) (λ m e. absurd (u m (object_defined l m e))))

-- There are as many objects as `object_count` counts.
pub objects_counted : (room : List Image) → length (objects_of room) ≡ object_count room
unfolding objects_of object_count
objects_counted [] = refl
objects_counted (x ∷ xs) = length-append (objects x.text) (objects_of xs) ∙ ap (λ (n : ℕ). length (objects x.text) + n) (objects_counted xs)

of_image : {x : Image} {room : List Image} {m : Layer} → In x room → In m (objects x.text) → In m (objects_of room)
unfolding objects_of
of_image {m = m} (Memᴰ.head {x = y} {xs = ys} e) i = Memᴰ.append_left (objects_of ys) (subst (λ (z : Image). In m (objects z.text)) e i)
of_image (Memᴰ.tail {x = y} n) i = Memᴰ.append_right (objects y.text) (of_image n i)

-- The object of an alias is one of the images' objects.
pub object_of_room : (room : List Image) (l m : Layer) → aliased_object room l ≡ Some m → In m (objects_of room)
unfolding aliased_object
object_of_room room (layer_alias a s n) m e =
    let w = (defines_exactly room a s n m).0 (object_defined room (layer_alias a s n) m e) in
    of_image w.loaded (object_listed w.image.text w.stands)
object_of_room room (layer_digest a d) m e = none_some e
object_of_room room no_layer m e = none_some e
