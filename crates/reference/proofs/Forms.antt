-- What the definitions of aliases, layer references, rules and Image IDs say, case by case.
-- Assumes nothing.
use Rattle.std.specs.Prelude.{Option}
use Prim.Native.Nat.{ℕ}
use mathlib.Core.Path.{◌≡◌, refl, ap, ◌∙◌}
use mathlib.Core.List.{List, [], ◌∷◌}
use Rattle.laws.specs.Order.{same}
use Rattle.reference_parts.specs.Parts.{parts}
use Rattle.reference_parts.proofs.Parts.{some_part}
use Rattle.reference_digests.specs.Algorithms.{named}
use Rattle.reference.specs.References.{no_layer, digest_layer, alias_layer, signer_word, layer_of, layer, no_rule, rule_under, rule_of, rule, no_id, id_under}
use Rattle.reference.specs.References.{id_of, image_id_of}
use Rattle.reference_digests.specs.declared.algorithm.Algorithm.{Algorithm}

-- layer references by their parts
module _ (c : List ℕ) where
  -- A text of one part is no layer reference.
  pub layer_one : parts c ≡ c ∷ [] → layer c ≡ no_layer
  unfolding layer layer_of
  layer_one e = rw (e, layer)

  -- A text of two parts is read as the name of an algorithm and the digest of a layer.
  pub layer_two : (h d : List ℕ) → parts c ≡ h ∷ d ∷ [] → layer c ≡ digest_layer (named h) d
  unfolding layer layer_of
  layer_two h d e = rw (e, layer)

  -- A text of three parts is no layer reference.
  pub layer_three : (w h s : List ℕ) → parts c ≡ w ∷ h ∷ s ∷ [] → layer c ≡ no_layer
  unfolding layer layer_of
  layer_three w h s e = rw (e, layer)

  -- A text of four parts is read as the word `signer`, the name of an algorithm, a signer and an alias.
  pub layer_four : (w h s n : List ℕ) → parts c ≡ w ∷ h ∷ s ∷ n ∷ [] → layer c ≡ alias_layer (same w signer_word) (named h) s n
  unfolding layer layer_of
  layer_four w h s n e = rw (e, layer)

  -- A text of more than four parts is no layer reference.
  pub layer_five : (w h s n d : List ℕ) → parts c ≡ w ∷ h ∷ s ∷ n ∷ parts d → layer c ≡ no_layer
  unfolding layer layer_of
  layer_five w h s n d e =
      let q = some_part d in
      rw (e ∙ ap (λ (x : List (List ℕ)). w ∷ h ∷ s ∷ n ∷ x) q.2, layer)

-- What is read of a text by its parts: nothing of one, of two and of more than three, and of three what `under` says of them.
pub record ByThree {A : Type 0} (read : List ℕ → A) (none : A) (under : Option Algorithm → List ℕ → List ℕ → A) (c : List ℕ) : Type 0 where
  pub one : parts c ≡ c ∷ [] → read c ≡ none
  pub two : (h s : List ℕ) → parts c ≡ h ∷ s ∷ [] → read c ≡ none
  pub three : (h s m : List ℕ) → parts c ≡ h ∷ s ∷ m ∷ [] → read c ≡ under (named h) s m
  pub four : (h s m d : List ℕ) → parts c ≡ h ∷ s ∷ m ∷ parts d → read c ≡ none

by_three : {A : Type 0} (of : List (List ℕ) → A) (none : A) (under : Option Algorithm → List ℕ → List ℕ → A) → ((h : List ℕ) → of (h ∷ []) ≡ none)
    → ((h s : List ℕ) → of (h ∷ s ∷ []) ≡ none) → ((h s m : List ℕ) → of (h ∷ s ∷ m ∷ []) ≡ under (named h) s m)
    → ((h s m p : List ℕ) (ps : List (List ℕ)) → of (h ∷ s ∷ m ∷ p ∷ ps) ≡ none) → (c : List ℕ) → ByThree (λ (x : List ℕ). of (parts x)) none under c
by_three of none under f g k l c =
    record {
      one = λ e. ap of e ∙ f c;
      two = λ h s e. ap of e ∙ g h s;
      three = λ h s m e. ap of e ∙ k h s m;
      four = λ h s m d e. let q = some_part d in ap of (e ∙ ap (λ (x : List (List ℕ)). h ∷ s ∷ m ∷ x) q.2) ∙ l h s m q.0 q.1;
    }

-- A text of three parts is read as the name of an algorithm, the SIGNER and the MANIFEST of a rule, and no other text is a rule.
pub rule_parts : (c : List ℕ) → ByThree rule no_rule rule_under c
unfolding rule rule_of
rule_parts = by_three rule_of no_rule rule_under (λ h. refl) (λ h s. refl) (λ h s m. refl) (λ h s m p ps. refl)

-- A text of three parts is read as the name of an algorithm, the signer and the manifest digest of an Image ID, and no other text is one.
pub id_parts : (c : List ℕ) → ByThree image_id_of no_id id_under c
unfolding image_id_of id_of
id_parts = by_three id_of no_id id_under (λ h. refl) (λ h s. refl) (λ h s m. refl) (λ h s m p ps. refl)
