-- What was read of a reference, case by case: whether it is an alias of an algorithm and a signer. Assumes nothing.
use Rattle.std.specs.Prelude.{Option, Some, None}
use Prim.Native.Nat.{ℕ}
use mathlib.Core.Path.{◌≡◌, sym, ap, subst, ◌∙◌}
use mathlib.Core.List.{List}
use mathlib.Core.Bool.{Bool, false, ◌&&◌}
use borrow.Author.Tests.{eq-eqb, ne_eqb}
use lib.Dec.{eqb}
use Rattle.laws.specs.Order.{same}
use Rattle.laws.proofs.Order.{same_sym}
use Rattle.text_strings.specs.InString.{content_from}
use Rattle.reference_digests.specs.Algorithms.{byte_of}
use Rattle.reference_digests.specs.declared.algorithm.Algorithm.{Algorithm}
use Rattle.reference.specs.Readings.{LayerReads}
use Rattle.reference.specs.References.{Layer, layer, layer_alias}
use Rattle.reference.specs.declared.layer.Layer.{Layer as ReadLayer}
use Rattle.reference.specs.declared.layer.Layer.TheVariants.{Digest, Alias}
use Rattle.manifest_objects.specs.Objects.{StandsAt, is_alias_of}

-- an alias stands there, with the bytes d of its signer
module _ (b : List ℕ) (k : ℕ) (a c : Algorithm) (g d n : List ℕ) (r : layer (content_from b k) ≡ layer_alias c d n) (l : Layer) (h : StandsAt b k l) where
  its_test : is_alias_of a g l ≡ (eqb (byte_of a) (byte_of c) && same g d)
  unfolding is_alias_of
  its_test = ap (is_alias_of a g) (sym h.is ∙ r)

  -- An alias of another algorithm is none of that signer.
  pub other_algorithm : (byte_of c ≡ byte_of a → ⊥) → false ≡ is_alias_of a g l
  other_algorithm m = sym (its_test ∙ rw (ne_eqb (byte_of a) (byte_of c) (λ f. m (sym f))))

  -- One of the same algorithm is, where the digests are equal.
  pub same_algorithm : byte_of c ≡ byte_of a → (t : Bool) → t ≡ same d g → t ≡ is_alias_of a g l
  same_algorithm f t s = s ∙ same_sym d g ∙ sym (its_test ∙ rw (eq-eqb (byte_of a) (byte_of c) (sym f)))

module _ (b : List ℕ) (k : ℕ) (x : Option ReadLayer) (r : LayerReads b k x) where
  -- What was read as an alias holds the positions of its parts.
  pub as_alias : (c : Algorithm) (p q : ℕ) → x ≡ Some (Alias c p q) → LayerReads b k (Some (Alias c p q))
  as_alias c p q e = subst (LayerReads b k) e r

  module _ (a : Algorithm) (g : List ℕ) (l : Layer) (h : StandsAt b k l) where
    -- What was read as a digest is no alias.
    pub is_digest : (c : Algorithm) (p : ℕ) → x ≡ Some (Digest c p) → false ≡ is_alias_of a g l
    unfolding is_alias_of
    is_digest c p e = sym (ap (is_alias_of a g) (sym h.is ∙ (subst (LayerReads b k) e r).1))

    -- What was read as no reference is no alias.
    pub is_none : x ≡ None → false ≡ is_alias_of a g l
    unfolding is_alias_of
    is_none e = sym (ap (is_alias_of a g) (sym h.is ∙ subst (LayerReads b k) e r))
