-- What the loops over a store's images ask of one image. Assumes nothing.
use Prim.Native.Nat.{ℕ, zero, suc}
use mathlib.Core.Path.{◌≡◌, refl, sym, ap, subst, ◌∙◌}
use mathlib.Core.Bool.{Bool, true, false, ◌&&◌, ◌||◌, or-false}
use mathlib.Core.List.{List, [], ◌∷◌, map}
use lib.Dec.{eqb}
use lib.ListN.{take, drop}
use lib.Seq.{drop-nil}
use Rattle.laws.specs.Any.{any_of, any_pair}
use Rattle.laws.proofs.Any.{or_none, any_or}
use Rattle.laws.specs.Order.{same}
use Rattle.reference_digests.specs.Algorithms.{byte_of}
use Rattle.reference_digests.specs.declared.algorithm.Algorithm.{Algorithm}
use Rattle.manifest_heads.specs.Contents.{share_name}
use Rattle.manifest.specs.Manifest.{self_names, contents}
use Rattle.manifest.specs.Names.{conflict, SelfSorted, ContentsSorted}
use Rattle.manifest_heads.specs.Placed.{SomeNames}
use Rattle.manifest.proofs.Groups.{some_names, contents_names}
use Rattle.store_record.specs.Image.{Image}
use Rattle.store_record.specs.Reading.{between, held_in, images_in}
use Rattle.store_record.specs.declared.Record.{Record}
use Rattle.store_record.specs.declared.Survey.{Survey}
use Rattle.store_names.specs.Shared.{signed_as, have_shared}
use Rattle.laws.proofs.Pairs.{pair_map, pair_or}
use Rattle.store_keys.specs.Clash.{clash, any_clash}
use Rattle.store_keys.specs.Signed.{one, signed_by, is_signed, shares_with, conflicts_with, names_clash, layers_clash}
use Rattle.store_conflict.specs.Asked.{SortedAliases, clashes_in}
use Rattle.store_conflict.specs.declared.Aliases.{Aliases}
use Rattle.store_conflict.specs.declared.Aliases.TheVariants.{Own, Layers}
use Rattle.store_conflict.proofs.Clashing.{single, clash_split, clash_parts, names_ones, layers_one}

-- The sorted aliases that are asked about are some sorted names, as filling in their heads requires them.
pub asked_names : (w : Aliases) (s names keys : List ℕ) → SortedAliases w s names keys → SomeNames s names
asked_names Own s names keys m = some_names m
asked_names Layers s names keys m = contents_names m

module _ {w : Aliases} {s names : List ℕ} (keys : List ℕ) where
  -- The sorted aliases of the image itself are those that are asked about, where it is these,
  pub own_asked : w ≡ Own → SelfSorted s names → SortedAliases w s names keys
  own_asked e m = subst (λ (x : Aliases). SortedAliases x s names keys) (sym e) m

  -- and those of its layers, where it is those.
  pub layers_asked : w ≡ Layers → ContentsSorted s names keys → SortedAliases w s names keys
  layers_asked e m = subst (λ (x : Aliases). SortedAliases x s names keys) (sym e) m

module _ (b : List ℕ) (r : Record) (a : Algorithm) (signer : List ℕ) where
  -- A record's image is signed by a signer, if the record's ID is.
  pub signed_is : (eqb (byte_of a) (byte_of r.algorithm) && same signer (between b r.signer r.manifest)) ≡ is_signed a signer (held_in b r)
  unfolding is_signed held_in signed_by any_of
  signed_is = sym (or-false _)

  module _ (s : List ℕ) where
    -- Of an image of another signer nothing more is asked.
    pub not_asked : (w : Aliases) → is_signed a signer (held_in b r) ≡ false → clashes_in w a signer s (held_in b r) ≡ false
    unfolding shares_with conflicts_with
    not_asked Own e = rw e
    not_asked Layers e = rw e

    -- Of one of the same signer its own names decide, if they are asked about,
    pub sharing : {w : Aliases} → w ≡ Own → is_signed a signer (held_in b r) ≡ true → clashes_in w a signer s (held_in b r)
        ≡ share_name (self_names (between b r.text r.end)) (self_names s)
    unfolding shares_with held_in
    sharing o e = rw o (ap (λ (t : Bool). t && share_name (self_names (between b r.text r.end)) (self_names s)) e)

    -- and else the aliases of its layers.
    pub conflicting : {w : Aliases} → w ≡ Layers → is_signed a signer (held_in b r) ≡ true → clashes_in w a signer s (held_in b r)
        ≡ conflict (contents (between b r.text r.end)) (contents s)
    unfolding conflicts_with held_in
    conflicting l e = rw l (ap (λ (t : Bool). t && conflict (contents (between b r.text r.end)) (contents s)) e)

-- tests that agree on what a list is mapped to
any_mapped : {A B : Type 0} (f : A → B) (p q : B → Bool) → ((x : A) → p (f x) ≡ q (f x)) → (xs : List A) (k : ℕ)
    → any_of p (drop k (map f xs)) ≡ any_of q (drop k (map f xs))
unfolding any_of
any_mapped f p q e [] k = rw drop-nil
any_mapped f p q e (x ∷ xs) zero = λ i. e x i || any_mapped f p q e xs zero i
any_mapped f p q e (x ∷ xs) (suc k) = any_mapped f p q e xs k

-- what is asked only of those that pass no test is asked of none
any_guarded : {A : Type 0} (p g : A → Bool) (xs : List A) → any_of p xs ≡ false → any_of (λ (x : A). p x && g x) xs ≡ false
unfolding any_of
any_guarded p g [] e = refl
any_guarded p g (x ∷ xs) e =
    let k = or_none (p x) (any_of p xs) e in
    rw k.0 (any_guarded p g xs k.1)

module _ (b : List ℕ) (v : Survey) (k : ℕ) where
  module _ (a : Algorithm) (signer s : List ℕ) where
    split : any_of (clash (one a signer s)) (drop k (images_in b v))
        ≡ (any_of (shares_with a signer s) (drop k (images_in b v)) || any_of (conflicts_with a signer s) (drop k (images_in b v)))
    unfolding images_in held_in
    split =
        any_mapped (held_in b) (clash (one a signer s)) (λ (y : Image). shares_with a signer s y
        || conflicts_with a signer s y) (λ r. clash_split a signer s single) (take v.count v.records) k
        ∙ any_or (shares_with a signer s) (conflicts_with a signer s) (drop k (images_in b v))

    -- Where a name is shared, the image clashes.
    pub clash_shared : any_of (shares_with a signer s) (drop k (images_in b v)) ≡ true → any_of (clash (one a signer s)) (drop k (images_in b v)) ≡ true
    clash_shared e = split ∙ rw e

    -- Else the aliases of layers decide.
    pub clash_layers : any_of (shares_with a signer s) (drop k (images_in b v)) ≡ false
        → any_of (clash (one a signer s)) (drop k (images_in b v)) ≡ any_of (conflicts_with a signer s) (drop k (images_in b v))
    clash_layers e = split ∙ rw e

    -- Where no image is of the signer, none has an alias of a layer for another object,
    pub layers_none : any_of (is_signed a signer) (drop k (images_in b v)) ≡ false → any_of (conflicts_with a signer s) (drop k (images_in b v)) ≡ false
    unfolding conflicts_with
    layers_none e = any_guarded (is_signed a signer) (λ (y : Image). conflict (contents y.text) (contents s)) (drop k (images_in b v)) e

    -- and none clashes.
    pub clash_none : any_of (is_signed a signer) (drop k (images_in b v)) ≡ false → any_of (clash (one a signer s)) (drop k (images_in b v)) ≡ false
    unfolding shares_with
    clash_none e =
        clash_layers (any_guarded (is_signed a signer) (λ (y : Image). share_name (self_names y.text) (self_names s)) (drop k (images_in b v)) e) ∙ layers_none e

  -- The layer keys of a record's image are compared by its signer and its manifest.
  pub layers_held : (r : Record)
      → any_of (layers_clash (held_in b r)) (drop k (images_in b v))
      ≡ any_of (conflicts_with r.algorithm (between b r.signer r.manifest) (between b r.text r.end)) (drop k (images_in b v))
  unfolding images_in held_in
  layers_held r = any_mapped (held_in b) _ _ (λ q. layers_one _ _ _ _ single) (take v.count v.records) k

-- the images of two records have an image key in common
held_names : (b : List ℕ) (q r : Record) → names_clash (held_in b q) (held_in b r) ≡ have_shared b q r
unfolding held_in signed_as
held_names b q r = names_ones q.algorithm _ _ _ r.algorithm _ _ _

-- Some two images of a store clash exactly if two of one signer share a name of their own, or two have one layer key for different objects.
pub any_clash_is : (b : List ℕ) (v : Survey)
    → any_clash (images_in b v) ≡ (any_pair (have_shared b) (take v.count v.records) || any_pair layers_clash (images_in b v))
unfolding any_clash images_in
any_clash_is b v =
    let rs = take v.count v.records in
    let p : Record → Record → Bool = λ q r. layers_clash (held_in b q) (held_in b r) in
    pair_map (held_in b) clash (λ (q r : Record). have_shared b q r || p q r)
    (λ q r. clash_parts (held_in b q) (held_in b r) ∙ ap (λ (x : Bool). x || p q r) (held_names b q r)) rs
    ∙ pair_or (have_shared b) p rs
    ∙ ap (λ (x : Bool). any_pair (have_shared b) rs || x) (sym (pair_map (held_in b) layers_clash p (λ q r. refl) rs))
