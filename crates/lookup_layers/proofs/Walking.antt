-- How far a walk over a layer list has come: the answer for the bytes from position i on is the answer for all.
use Rattle.std.specs.Prelude.{Option, None, Some}
use Prim.Native.Nat.{ℕ, ◌-◌, ◌≤◌, ◌<◌}
use mathlib.Core.Path.{◌≡◌, refl, sym, ap, ◌∙◌}
use mathlib.Core.Bool.{Bool, true, false, ◌&&◌, ◌||◌}
use mathlib.Core.List.{List, [], ◌∷◌}
use native.Mathlib.Omega.{arith}
use lib.ListN.{length, take, drop, length-drop, drop_of_length-le}
use borrow.Author.Tests.{eq-eqb, ne_eqb}
use Rattle.laws.specs.Any.{any_of}
use Rattle.laws.specs.Order.{same}
use Rattle.laws.proofs.Order.{same_sym}
use Rattle.reference_digests.specs.Algorithms.{digest_bytes, byte_of}
use Rattle.reference_digests.specs.declared.algorithm.Algorithm.{Algorithm}
use Rattle.lookup_layers.specs.Layers.{LayerDigest, no_entry, first_of, and_then, layers_in, is_given, is_list, same_layer, is_listed}
use Rattle.lookup_layers.specs.Reading.{EntryAt, SomeList}
use Rattle.lookup_layers.proofs.Listing.{layers_end, layers_entry, layers_none}

-- the layer of an entry whose digest begins at position d
abbrev pub layer_at : List ℕ → Algorithm → ℕ → LayerDigest
layer_at s a d = record { algorithm = a; bytes = take (digest_bytes a) (drop d s) }

given_more : (d : LayerDigest) (o : Option (List LayerDigest)) → is_given (and_then d o) ≡ is_given o
unfolding is_given and_then
given_more d None = refl
given_more d (Some ds) = refl

listed_more : (d x : LayerDigest) (ds : List LayerDigest) → is_listed d (x ∷ ds) ≡ (same_layer d x || is_listed d ds)
unfolding is_listed any_of
listed_more d x ds = refl

module _ (s : List ℕ) (i : ℕ) where
  -- No bytes left are a list.
  pub list_done : length s ≤ i → is_list (drop i s) ≡ true
  unfolding is_list is_given
  list_done h = ap is_list (drop_of_length-le s {i = i} h) ∙ ap is_given layers_end

  -- Bytes left that begin with no entry are none.
  pub list_broken : i < length s → first_of (drop i s) ≡ no_entry → is_list (drop i s) ≡ false
  unfolding is_list is_given
  list_broken h e = ap is_given (layers_none (drop i s) (omega (arith, length-drop i s)) e)

  -- After an entry the rest decides.
  pub list_next : (a : Algorithm) (d e : ℕ) → EntryAt s i a d e → is_list (drop i s) ≡ is_list (drop e s)
  unfolding is_list
  list_next a d e h = ap is_given (layers_entry (drop i s) (layer_at s a d) (drop e s) h.reads) ∙ given_more (layer_at s a d) (layers_in (drop e s))

module _ (x y : LayerDigest) where
  other_algorithm : (byte_of y.algorithm ≡ byte_of x.algorithm → ⊥) → same_layer x y ≡ false
  unfolding same_layer
  other_algorithm n =
      ap (λ (b : Bool). b && same x.bytes y.bytes) (ne_eqb (byte_of x.algorithm) (byte_of y.algorithm) (λ e. n (sym e)))

  by_digest : byte_of y.algorithm ≡ byte_of x.algorithm → same_layer x y ≡ same y.bytes x.bytes
  unfolding same_layer
  by_digest e =
      ap (λ (b : Bool). b && same x.bytes y.bytes) (eq-eqb (byte_of x.algorithm) (byte_of y.algorithm) (sym e))
      ∙ same_sym x.bytes y.bytes

-- A layer is listed in s exactly if it is in the layers from position i on.
pub record Left (s : List ℕ) (x : LayerDigest) (i : ℕ) : Type 0 where
  pub layers : List LayerDigest
  pub left : layers_in (drop i s) ≡ Some layers
  pub answer : (ds : List LayerDigest) → layers_in s ≡ Some ds → is_listed x layers ≡ is_listed x ds
  pub within : i ≤ length s

one_list : (o : Option (List LayerDigest)) (ds es : List LayerDigest) → o ≡ Some ds → o ≡ Some es → ds ≡ es
one_list o ds es e f = let g : Some ds ≡ Some es = sym e ∙ f in cc

-- At the start all layers are left.
pub all_left : (s : List ℕ) (x : LayerDigest) → SomeList s → Left s x 0
all_left s x h =
    record { layers = h.layers; left = h.is; answer = λ ds e. ap (is_listed x) (one_list (layers_in s) h.layers ds h.is e); within = omega arith }

module _ (s : List ℕ) (x : LayerDigest) (i : ℕ) (h : Left s x i) where
  -- Where no bytes are left the layer is not listed.
  pub not_left : length s ≤ i → (ds : List LayerDigest) → layers_in s ≡ Some ds → false ≡ is_listed x ds
  unfolding is_listed any_of
  not_left l ds e =
      let n : [] ≡ h.layers = one_list (layers_in (drop i s)) [] h.layers (ap layers_in (drop_of_length-le s {i = i} l) ∙ layers_end) h.left in
      ap (is_listed x) n ∙ h.answer ds e

  -- What is left of a layer list begins with an entry.
  pub no_break : {C : Type 0} → i < length s → first_of (drop i s) ≡ no_entry → C
  no_break l e =
      let f : None ≡ Some h.layers = sym (layers_none (drop i s) (omega (arith, length-drop i s)) e) ∙ h.left in
      let z : ◌≡◌ {A = ℕ} 0 1 = cc in absurd (omega arith)

  -- an entry stands there
  module _ (a : Algorithm) (d e : ℕ) (here : EntryAt s i a d e) where
    -- the layers after it
    record After : Type 0 where
      rest : List LayerDigest
      reads : layers_in (drop e s) ≡ Some rest
      all : h.layers ≡ layer_at s a d ∷ rest

    after : After
    unfolding and_then
    after = by_rest (layers_in (drop e s)) refl
      where
        by_rest : (o : Option (List LayerDigest)) → layers_in (drop e s) ≡ o → After
        by_rest None q =
            let f : None ≡ Some h.layers = sym (layers_entry (drop i s) (layer_at s a d) (drop e s) here.reads ∙ ap (and_then (layer_at s a d)) q)
            ∙ h.left in
            let z : ◌≡◌ {A = ℕ} 0 1 = cc in absurd (omega arith)
        by_rest (Some ds) q =
            record {
              rest = ds;
              reads = q;
              all =
                  one_list (layers_in (drop i s)) h.layers (layer_at s a d ∷ ds) h.left
                  (layers_entry (drop i s) (layer_at s a d) (drop e s) here.reads ∙ ap (and_then (layer_at s a d)) q);
            }

    asked : is_listed x h.layers ≡ (same_layer x (layer_at s a d) || is_listed x after.rest)
    asked = ap (is_listed x) after.all ∙ listed_more x (layer_at s a d) after.rest

    first_is : (b : Bool) → same_layer x (layer_at s a d) ≡ b → (ds : List LayerDigest) → layers_in s ≡ Some ds
        → (b || is_listed x after.rest) ≡ is_listed x ds
    first_is b q ds f = sym (asked ∙ ap (λ (t : Bool). t || is_listed x after.rest) q) ∙ h.answer ds f

    other : same_layer x (layer_at s a d) ≡ false → Left s x e
    other q = record { layers = after.rest; left = after.reads; answer = first_is false q; within = here.within }

    -- After an entry by another algorithm the rest decides.
    pub other_here : (byte_of a ≡ byte_of x.algorithm → ⊥) → Left s x e
    other_here n = other (other_algorithm x (layer_at s a d) n)

    -- the entry is by the layer's algorithm, and its digest was compared with the layer's
    module _ (one : byte_of a ≡ byte_of x.algorithm) (r : Bool) (compared : r ≡ same (take (e - d) (drop d s)) x.bytes) where
      answered : same_layer x (layer_at s a d) ≡ r
      answered =
          let n : digest_bytes a ≡ e - d = omega (arith, here.end) in
          by_digest x (layer_at s a d) one ∙ ap (λ (m : ℕ). same (take m (drop d s)) x.bytes) n ∙ sym compared

      -- Where the digests are equal the layer is listed.
      pub found_here : r ≡ true → (ds : List LayerDigest) → layers_in s ≡ Some ds → true ≡ is_listed x ds
      found_here t = first_is true (answered ∙ t)

      -- Where they differ the rest decides.
      pub not_here : r ≡ false → Left s x e
      not_here t = other (answered ∙ t)
