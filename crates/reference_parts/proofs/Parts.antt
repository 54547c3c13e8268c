-- The parts of a reference, one after the other.
-- Assumes nothing.
use Prim.Native.Nat.{ℕ}
use mathlib.Core.Path.{◌≡◌, refl, ap, sym, ◌∙◌}
use mathlib.Core.List.{List, [], ◌∷◌}
use mathlib.Core.Bool.{Bool, true, false}
use lib.Dec.{eqb}
use borrow.Author.Tests.{not-true, not-false}
use Rattle.laws.proofs.Order.{by_test, false_true}
use Rattle.reference_parts.specs.Readings.{Counts}
use Rattle.reference_parts.specs.declared.part.Part.{Part}
use Rattle.reference_parts.specs.Parts.{is_divided, first_part, after_part, longer, parts}

-- the last part
pub parts_last : (c : List ℕ) → is_divided c ≡ false → parts c ≡ c ∷ []
unfolding is_divided parts longer
parts_last [] e = refl
parts_last (b ∷ c) e =
    by_test (eqb b 0x2F)
    (λ f. let z : ◌≡◌ {A = Bool} false true = sym e ∙ rw (f, is_divided) in false_true z)
    (λ f. rw (f, parts) (rw (parts_last c (rw (f, is_divided) at e))))

-- a part, and those after it
pub parts_more : (c : List ℕ) → is_divided c ≡ true → parts c ≡ first_part c ∷ parts (after_part c)
unfolding is_divided parts longer first_part after_part
parts_more [] e = false_true e
parts_more (b ∷ c) e =
    by_test (eqb b 0x2F)
    (λ f. rw (f, parts) (rw (f, first_part)))
    (λ f. rw (f, parts) (rw (f, first_part) (rw (parts_more c (rw (f, is_divided) at e)))))

-- there is some part
pub some_part : (c : List ℕ) → (p : List ℕ) × (ps : List (List ℕ)) × (parts c ≡ p ∷ ps)
some_part c = by_test (is_divided c) (λ e. (first_part c, parts (after_part c), parts_more c e)) (λ e. (c, [], parts_last c e))

-- by what is counted of a part

module _ (c : List ℕ) (p : Part) (k : Counts c p) where
  -- A content whose first part is counted as the last has no `/`.
  pub is_last : p.last ≡ true → is_divided c ≡ false
  is_last e = not-true (is_divided c) (sym k.last ∙ e)

  -- A content whose first part is counted as not the last has a `/`.
  pub is_not_last : p.last ≡ false → is_divided c ≡ true
  is_not_last e = not-false (is_divided c) (sym k.last ∙ e)

  -- A content whose first part is counted as the last has one part, which is the content.
  pub last_parts : p.last ≡ true → parts c ≡ c ∷ []
  last_parts e = parts_last c (is_last e)

  -- A content whose first part is counted as not the last has that part and the parts of what is after it.
  pub more_parts : (d : List ℕ) → d ≡ after_part c → p.last ≡ false → parts c ≡ first_part c ∷ parts d
  more_parts d r e = parts_more c (is_not_last e) ∙ ap (λ (x : List ℕ). first_part c ∷ parts x) (sym r)

-- a part before what is known of the others
pub before : (c d h : List ℕ) (ps : List (List ℕ)) → parts c ≡ h ∷ parts d → parts d ≡ ps → parts c ≡ h ∷ ps
before c d h ps e f = e ∙ ap (λ (x : List (List ℕ)). h ∷ x) f
