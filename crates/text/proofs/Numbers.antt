-- The number that checking answers is the lowest of the questions that apply.
use Rattle.std.specs.Prelude.{Result, Ok, Err}
use Prim.Native.Nat.{ℕ}
use mathlib.Core.Path.{◌≡◌, refl, sym, ◌∙◌}
use mathlib.Core.List.{List}
use mathlib.Core.Bool.{Bool, true, false}
use native.Mathlib.Omega.{arith}
use lib.Dec.{ltb}
use Rattle.laws.proofs.Order.{by_test}
use Rattle.text_utf8.specs.Utf8.{utf8, verdict}
use Rattle.text_utf8.proofs.Place.{verdict_well_formed}
use Rattle.text_json.specs.Syntax.{Syntax}
use Rattle.text_json.specs.Read.{Read, found, stuck, read_text}
use Rattle.text_content.specs.Fault.{string_fault, number_fault, key_fault}
use Rattle.text.specs.Question.{is_too_long, not_utf8, is_stuck, not_json, faulty, bad_string, bad_number, same_keys, questions, lowest, text_number}
use Rattle.text.specs.Answer.{by_faults, by_tree, by_verdict, checked, number_of}

-- the questions on the tree, in their order
by_questions : Bool → Bool → Bool → Bool → ℕ
by_questions a b c d = elim a [ true ↦ 3 | false ↦ elim b [ true ↦ 4 | false ↦ elim c [ true ↦ 5 | false ↦ elim d [ true ↦ 6 | false ↦ 0 ] ] ] ]

tree_number : (s : List ℕ) (x : Read Syntax) → number_of (by_tree s x) ≡ by_questions (is_stuck x) (faulty string_fault x) (faulty number_fault x) (faulty key_fault x)
unfolding by_tree by_faults by_questions is_stuck faulty
tree_number s (stuck r) = refl
tree_number s (found t r) =
    by_test (ltb 0 (string_fault t)) (λ e. rw (e, by_faults)) (λ e. rw (e, by_faults)
    (by_test (ltb 0 (number_fault t)) (λ f. rw f) (λ f. rw f
    (by_test (ltb 0 (key_fault t)) (λ g. rw g) (λ g. rw g)))))

number_after : (s : List ℕ) → is_too_long s ≡ false → not_utf8 s ≡ false → text_number s ≡ by_questions (not_json s) (bad_string s) (bad_number s) (same_keys s)
unfolding text_number questions lowest by_questions
number_after s e f = rw (e, lowest) (rw (f, lowest))

number_long : (s : List ℕ) → is_too_long s ≡ true → text_number s ≡ 1
unfolding text_number questions lowest
number_long s e = rw (e, lowest)

number_utf8 : (s : List ℕ) → is_too_long s ≡ false → not_utf8 s ≡ true → text_number s ≡ 2
unfolding text_number questions lowest
number_utf8 s e f = rw (e, lowest) (rw (f, lowest))

is_utf8 : (s : List ℕ) → utf8 s ≡ true → not_utf8 s ≡ false
unfolding not_utf8
is_utf8 s e = rw e

is_not_utf8 : (s : List ℕ) (k : ℕ) → verdict s ≡ Err k → not_utf8 s ≡ true
unfolding not_utf8
is_not_utf8 s k e =
    by_test (utf8 s) (λ f. let g = (verdict_well_formed s).1 f in let z : ◌≡◌ {A = ℕ} 0 1 = cc in absurd (omega arith)) (λ f. rw f)

-- The number that checking answers is the lowest of the questions that apply to the text, or 0 where none does.
pub number_checked : (s : List ℕ) → number_of (checked s) ≡ text_number s
unfolding checked by_verdict not_json bad_string bad_number same_keys
number_checked s = by_test (is_too_long s) (λ e. rw (e, checked) (sym (number_long s e))) (λ e. rw (e, checked) (go (verdict s) refl e))
  where
    go : (v : Result (Unit {0}) ℕ) → verdict s ≡ v → is_too_long s ≡ false → number_of (by_verdict s v) ≡ text_number s
    go (Ok tt) e f = tree_number s (read_text 8 s) ∙ sym (number_after s f (is_utf8 s ((verdict_well_formed s).0 e)))
    go (Err k) e f = sym (number_utf8 s f (is_not_utf8 s k e))
