-- What is known of a text that gets the number 0.
use Prim.Native.Nat.{ℕ, ◌<◌, ◌≤◌}
use mathlib.Core.Path.{◌≡◌, refl, sym, ap, ◌∙◌}
use mathlib.Core.List.{List, []}
use mathlib.Core.Bool.{Bool, true, false}
use native.Mathlib.Omega.{arith}
use borrow.Author.Tests.{ltb-false}
use lib.Dec.{ltb}
use lib.ListN.{length}
use Rattle.laws.proofs.Order.{by_test, false_true}
use Rattle.text_json.specs.Syntax.{Syntax}
use Rattle.text_json.specs.Grammar.{Text}
use Rattle.text_json.specs.Read.{Read, found, stuck, read_text}
use Rattle.text_json.proofs.Grammar.Agree.{text_agrees, text_rest}
use Rattle.text_content.specs.Value.{content}
use Rattle.text_content.specs.Canonical.{canonical}
use Rattle.text_content.specs.Fault.{string_fault, number_fault, key_fault}
use Rattle.text_content.proofs.NotLonger.{not_longer}
use Rattle.text.specs.Question.{is_too_long, not_utf8, is_stuck, not_json, faulty, bad_string, bad_number, same_keys, questions, lowest, text_number}
use Rattle.text.specs.Answer.{form_of, form}

-- a first question that does not apply
not_first : (a : Bool) (n m : ℕ) → ◌≡◌ {A = ℕ} (elim a [ true ↦ n | false ↦ m ]) 0 → 0 < n → (a ≡ false) × (m ≡ 0)
not_first true n m e h = absurd (omega arith)
not_first false n m e h = (refl, e)

pub record Taken (s : List ℕ) : Type 0 where
  pub tree : Syntax
  pub short : length s ≤ 16384
  pub reads : read_text 8 s ≡ found tree []
  pub strings : string_fault tree ≡ 0
  pub numbers : number_fault tree ≡ 0
  pub keys : key_fault tree ≡ 0

-- A text with the number 0 has at most 16384 bytes and is read whole, without a string, number or key fault.
pub taken : (s : List ℕ) → text_number s ≡ 0 → Taken s
unfolding text_number questions lowest is_too_long not_json bad_string bad_number same_keys is_stuck faulty
taken s e =
    let a = not_first (is_too_long s) 1 _ e (omega arith) in
    let b = not_first (not_utf8 s) 2 _ a.1 (omega arith) in
    let c = not_first (not_json s) 3 _ b.1 (omega arith) in
    let d = not_first (bad_string s) 4 _ c.1 (omega arith) in
    let f = not_first (bad_number s) 5 _ d.1 (omega arith) in
    let g = not_first (same_keys s) 6 _ f.1 (omega arith) in
    go (read_text 8 s) refl (ltb-false 16384 (length s) a.0) c.0 d.0 f.0 g.0
  where
    none : (n : ℕ) → ltb 0 n ≡ false → n ≡ 0
    none n h = let l = ltb-false 0 n h in omega arith

    go : (x : Read Syntax) → read_text 8 s ≡ x → length s ≤ 16384 → is_stuck x ≡ false → faulty string_fault x ≡ false → faulty number_fault x ≡ false
        → faulty key_fault x ≡ false → Taken s
    go (found t r) q h c d f g =
        record {
          tree = t;
          short = h;
          reads = q ∙ ap (found t) (text_rest 8 s t r q);
          strings = none (string_fault t) d;
          numbers = none (number_fault t) f;
          keys = none (key_fault t) g;
        }
    go (stuck r) q h c d f g = false_true (sym c)

-- A text that is taken is a text of the grammar, with its tree, nested at most 8 deep.
pub taken_text : (s : List ℕ) (p : Taken s) → Text 8 s p.tree
taken_text s p = (text_agrees 8 s p.tree).1 p.reads

-- The form of a text that is taken is the canonical form of the content of its tree.
pub taken_form : (s : List ℕ) (p : Taken s) → form s ≡ canonical (content p.tree)
unfolding form form_of
taken_form s p = ap form_of p.reads

-- the form is never longer than the text
pub form_short : (s : List ℕ) → Taken s → length (form s) ≤ length s
form_short s p = rw (taken_form s p) (not_longer (taken_text s p))

-- the numbers are small
pub text_small : (s : List ℕ) → text_number s ≤ 6
unfolding text_number questions lowest
text_small s =
    by_test (is_too_long s) (λ e. rw (e, lowest) (omega arith)) (λ e. rw (e, lowest)
    (by_test (not_utf8 s) (λ f. rw (f, lowest) (omega arith)) (λ f. rw (f, lowest)
    (by_test (not_json s) (λ g. rw (g, lowest) (omega arith)) (λ g. rw (g, lowest)
    (by_test (bad_string s) (λ h. rw (h, lowest) (omega arith)) (λ h. rw (h, lowest)
    (by_test (bad_number s) (λ i. rw (i, lowest) (omega arith)) (λ i. rw (i, lowest)
    (by_test (same_keys s) (λ j. rw (j, lowest) (omega arith)) (λ j. rw (j, lowest) (omega arith))))))))))))
