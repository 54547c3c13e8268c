-- What a scan of the text says of questions 3 to 6.
use Rattle.std.specs.Prelude.{Result, Err}
use Prim.Native.Nat.{ℕ, ◌-◌, ◌<◌, ◌≤◌}
use mathlib.Core.Path.{◌≡◌, sym, ap, ◌∙◌}
use mathlib.Core.List.{List}
use mathlib.Core.Bool.{Bool, true, false, ◌&&◌}
use native.Mathlib.Omega.{arith}
use borrow.Author.Tests.{lt-ltb, le-ltb, ltb-false, eq-eqb, ne_eqb, eqb-true}
use lib.Dec.{ltb, eqb}
use lib.ListN.{length, drop, length-drop}
use Rattle.laws.specs.Order.{same}
use Rattle.laws.proofs.Order.{by_test, same_eq, same_ne}
use Rattle.text_utf8.proofs.Ranges.{and_both}
use Rattle.text_utf8.specs.Utf8.{verdict}
use Rattle.text_json.specs.Syntax.{Syntax}
use Rattle.text_json.specs.Grammar.{Text}
use Rattle.text_json.specs.Read.{Read, found, stuck, read_text}
use Rattle.text_json.proofs.Grammar.Agree.{text_agrees, text_rest}
use Rattle.text_content.specs.Value.{content}
use Rattle.text_content.specs.Canonical.{canonical, ordered}
use Rattle.text_content.specs.Fault.{string_fault, number_fault, key_fault}
use Rattle.text_content.proofs.OwnForm.{own_form, is_own_form}
use Rattle.text_tokens.specs.Summary.{summary}
use Rattle.text_tokens.specs.declared.Summary.{Summary}
use Rattle.text_tokens.specs.declared.ScannedValue.{ScannedValue}
use Rattle.text_scan.proofs.Results.{IsValue}
use Rattle.text.specs.Question.{is_too_long}
use Rattle.text.specs.Answer.{by_faults, by_tree, by_verdict, checked, is_form}
use Rattle.text.specs.declared.Fault.TheVariants.{TooLong, NotJson, BadString, BadNumber, SameKeys}
use Rattle.text.specs.Accepted.{accepted_text}
use Rattle.text.specs.declared.Accepted.{Accepted}
use Rattle.text.specs.declared.Fault.{Fault}

-- A text whose reading is stuck at a position is refused as no JSON text at that position.
pub stuck_at : (s : List ℕ) (x : Read Syntax) (e : ℕ) → (e ≤ length s) × (x ≡ stuck (drop e s)) → Err (NotJson e) ≡ by_tree s x
unfolding by_tree
stuck_at s x e p =
    let q = p.0 in
    let m : e ≡ length s - length (drop e s) = omega (arith, length-drop e s) in
    ap (λ (k : ℕ). Err (NotJson k)) m ∙ sym (ap (by_tree s) p.1)

-- what the scan found is the summary of the tree t
module _ (sum : Summary) (t : Syntax) (p : sum ≡ summary t) (n : ℕ) where
  string_of : sum.string ≡ string_fault t
  unfolding summary
  string_of = ap (λ (y : Summary). y.string) p

  number_of : sum.number ≡ number_fault t
  unfolding summary
  number_of = ap (λ (y : Summary). y.number) p

  key_of : sum.key ≡ key_fault t
  unfolding summary
  key_of = ap (λ (y : Summary). y.key) p

  size_of : sum.size ≡ length (canonical (content t))
  unfolding summary
  size_of = ap (λ (y : Summary). y.size) p

  -- the text is as long as its form and its keys are in order, or it is not
  pub other_size : (sum.size ≡ n → ⊥) → false ≡ is_form n t
  unfolding is_form
  other_size h = sym (rw (ne_eqb (length (canonical (content t))) n (λ e. h (size_of ∙ e))))

  -- If the form is as long as the text, the order of the keys tells whether the text passes as its own form.
  pub same_size : sum.size ≡ n → sum.ordered ≡ is_form n t
  unfolding is_form summary
  same_size e = ap (λ (y : Summary). y.ordered) p ∙ sym (rw (eq-eqb (length (canonical (content t))) n (sym size_of ∙ e)))

  -- the answer, where c is the flag of a text that is taken
  module _ (c : Bool) where
    -- A text with a string fault is refused for its first bad string, at that string's position.
    pub bad_string : (k : ℕ) → k ≡ n - sum.string → 0 < sum.string → Err (BadString k) ≡ by_faults n c t
    unfolding by_faults
    bad_string k e h =
        let a : ltb 0 (string_fault t) ≡ true = lt-ltb 0 _ (rw string_of at h) in
        sym (rw (a, by_faults) (ap (λ (m : ℕ). Err (BadString m)) (sym (e ∙ ap (λ (m : ℕ). n - m) string_of))))

    module _ (g : sum.string ≤ 0) where
      no_string : ltb 0 (string_fault t) ≡ false
      no_string = le-ltb 0 _ (rw string_of at g)

      -- A text with a number fault and no string fault is refused for its first bad number, at that number's position.
      pub bad_number : (k : ℕ) → k ≡ n - sum.number → 0 < sum.number → Err (BadNumber k) ≡ by_faults n c t
      unfolding by_faults
      bad_number k e h =
          let a : ltb 0 (number_fault t) ≡ true = lt-ltb 0 _ (rw number_of at h) in
          sym (rw (no_string, by_faults) (rw a (ap (λ (m : ℕ). Err (BadNumber m)) (sym (e ∙ ap (λ (m : ℕ). n - m) number_of)))))

      module _ (h : sum.number ≤ 0) where
        no_number : ltb 0 (number_fault t) ≡ false
        no_number = le-ltb 0 _ (rw number_of at h)

        -- A text with a key fault and neither of those is refused for its first repeated key, at that key's position.
        pub same_keys : (k : ℕ) → k ≡ n - sum.key → 0 < sum.key → Err (SameKeys k) ≡ by_faults n c t
        unfolding by_faults
        same_keys k e i =
            let a : ltb 0 (key_fault t) ≡ true = lt-ltb 0 _ (rw key_of at i) in
            sym (rw (no_string, by_faults) (rw no_number (rw a (ap (λ (m : ℕ). Err (SameKeys m)) (sym (e ∙ ap (λ (m : ℕ). n - m) key_of))))))

        -- A text with none of these faults is accepted, with the length of its canonical form and the given flag.
        pub accepted : sum.key ≤ 0 → accepted_text sum.size c ≡ by_faults n c t
        unfolding by_faults
        accepted i =
            let a : ltb 0 (key_fault t) ≡ false = le-ltb 0 _ (rw key_of at i) in
            sym (rw (no_string, by_faults) (rw no_number (rw a (ap (λ (m : ℕ). accepted_text m c) (sym size_of)))))

-- as long as its form with its keys in order, or equal to its form: the same of a text in which no string is refused
flags_agree : (s : List ℕ) (t : Syntax) → Text 8 s t → string_fault t ≡ 0 → is_form (length s) t ≡ same (canonical (content t)) s
unfolding is_form
flags_agree s t h z =
    by_test (same (canonical (content t)) s)
    (λ e. let (l, o) = (is_own_form h z).0 (same_eq (canonical (content t)) s e) in rw (eq-eqb (length (canonical (content t))) (length s) l, o) (sym e))
    (λ e. by_test (eqb (length (canonical (content t))) (length s) && ordered (content t))
    (λ f. let (l, o) = and_both (eqb (length (canonical (content t))) (length s)) (ordered (content t)) f in
    absurd (same_ne (canonical (content t)) s e (own_form h (eqb-true (length (canonical (content t))) (length s) l) o)))
    (λ f. f ∙ sym e))

form_flag : (s : List ℕ) (t : Syntax) → Text 8 s t → by_faults (length s) (is_form (length s) t) t ≡ by_faults (length s) (same (canonical (content t)) s) t
unfolding by_faults
form_flag s t h =
    by_test (ltb 0 (string_fault t)) (λ e. rw (e, by_faults)) (λ e. ap (λ (c : Bool). by_faults (length s) c t) (flags_agree s t h (none e)))
  where
    none : ltb 0 (string_fault t) ≡ false → string_fault t ≡ 0
    none e = let l = ltb-false 0 (string_fault t) e in omega arith

-- For a text that is read, the length and the order of keys give the same answer as comparing the text with its form.
pub told_by_tree : (s : List ℕ) (f : ScannedValue) (p : IsValue s (read_text 8 s) f)
    → by_faults (length s) (is_form (length s) p.tree) p.tree ≡ by_tree s (read_text 8 s)
unfolding by_tree
told_by_tree s f p =
    let r = text_rest 8 s p.tree (drop f.end s) p.reads in
    form_flag s p.tree ((text_agrees 8 s p.tree).1 (p.reads ∙ ap (found p.tree) r)) ∙ sym (ap (by_tree s) p.reads)

-- the questions before those
pub too_long : (s : List ℕ) → 16384 < length s → Err TooLong ≡ checked s
unfolding checked is_too_long
too_long s h = sym (rw (lt-ltb 16384 (length s) h, checked))

-- For a text of at most 16384 bytes, the answer by the verdict on its UTF-8 is the answer of checking.
pub told_by_verdict : (s : List ℕ) (v : Result (Unit {0}) ℕ) (r : Result Accepted Fault) → length s ≤ 16384 → v ≡ verdict s → r ≡ by_verdict s v → r ≡ checked s
unfolding checked is_too_long
told_by_verdict s v r h e q = q ∙ ap (by_verdict s) e ∙ sym (rw (le-ltb 16384 (length s) h, checked))
