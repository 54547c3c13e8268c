-- The laws of the form: the form of a text that is taken is taken, is its own form, has the text's content and is the shortest text
-- that has it; and two texts have the same form exactly if they have the same content.
use Prim.Native.Nat.{ℕ, ◌≤◌}
use mathlib.Core.Path.{◌≡◌, sym, ap, ◌∙◌}
use mathlib.Core.Logic.{◌↔◌}
use mathlib.Core.List.{List}
use mathlib.Core.Bool.{true, false}
use native.Mathlib.Omega.{arith}
use borrow.Author.Tests.{eq-eqb, le-ltb}
use lib.ListN.{length}
use Rattle.laws.proofs.Order.{by_test, same_refl}
use Rattle.text_utf8.specs.Utf8.{utf8}
use Rattle.text_json.specs.Syntax.{Syntax}
use Rattle.text_json.specs.Grammar.{Text}
use Rattle.text_json.specs.Read.{read_text}
use Rattle.text_json.proofs.Grammar.Agree.{text_complete, one_tree}
use Rattle.text_content.specs.Value.{content, Same}
use Rattle.text_content.specs.Canonical.{sorted, canonical}
use Rattle.text_content.specs.Fault.{string_fault, number_fault, key_fault}
use Rattle.text_content.proofs.Same.{same_sorted}
use Rattle.text_content.proofs.FormUtf8.{form_utf8}
use Rattle.text_content.proofs.Laws.{Clean, canonical_text, canonical_shortest, canonical_same}
use Rattle.text.specs.Question.{is_too_long, not_utf8, is_stuck, not_json, faulty, bad_string, bad_number, same_keys, questions, lowest, text_number}
use Rattle.text.specs.Answer.{form, is_canonical}
use Rattle.text.proofs.Taken.{Taken, taken, taken_text, taken_form, form_short}

-- a text that is taken is UTF-8
pub taken_utf8 : (s : List ℕ) → text_number s ≡ 0 → utf8 s ≡ true
unfolding text_number questions lowest not_utf8
taken_utf8 s e =
    by_test (utf8 s) (λ f. f)
    (λ f. by_test (is_too_long s) (λ g. absurd (omega (arith, rw (g, lowest) at e)))
    (λ g. absurd (omega (arith, rw (f, lowest) at (rw (g, lowest) at e)))))

-- a text without a fault is taken
no_question : (s : List ℕ) → is_too_long s ≡ false → not_utf8 s ≡ false → not_json s ≡ false → bad_string s ≡ false → bad_number s ≡ false → same_keys s ≡ false
    → text_number s ≡ 0
unfolding text_number questions lowest
no_question s a b c d f g = rw (a, lowest) (rw (b, lowest) (rw (c, lowest) (rw (d, lowest) (rw (f, lowest) (rw (g, lowest))))))

-- A text of at most 16384 bytes that is UTF-8 and is read without a fault gets the number 0.
pub is_taken : (s : List ℕ) → Taken s → utf8 s ≡ true → text_number s ≡ 0
unfolding is_too_long not_utf8 not_json bad_string bad_number same_keys is_stuck faulty
is_taken s p e =
    no_question s (le-ltb 16384 (length s) p.short) (rw e) (ap is_stuck p.reads) (none string_fault p.strings) (none number_fault p.numbers)
    (none key_fault p.keys)
  where
    none : (fault : Syntax → ℕ) → fault p.tree ≡ 0 → faulty fault (read_text 8 s) ≡ false
    none fault f = ap (faulty fault) p.reads ∙ le-ltb 0 (fault p.tree) (omega arith)

module _ (s : List ℕ) (p : Taken s) where
  clean : Clean 8 s p.tree
  clean = record { parsed = taken_text s p; strings = p.strings; keys = p.keys }

  -- the tree of a text that is taken
  tree_is : (t : Syntax) → Text 8 s t → t ≡ p.tree
  tree_is t h = one_tree h (taken_text s p)

  form_parts : Taken (form s)
  form_parts =
      let c = canonical_text clean in
      record {
        tree = c.tree;
        short = omega (arith, form_short s p, p.short);
        reads = rw (taken_form s p) (text_complete 8 c.clean.parsed);
        strings = c.clean.strings;
        numbers = c.numbers p.numbers;
        keys = c.clean.keys;
      }

  form_parts_mean : content form_parts.tree ≡ sorted (content p.tree)
  unfolding form_parts
  form_parts_mean = (canonical_text clean).means

  form_parts_fixed : canonical (content form_parts.tree) ≡ canonical (content p.tree)
  unfolding form_parts
  form_parts_fixed = (canonical_text clean).fixed

-- the form of a text that is taken is taken
pub form_taken : (s : List ℕ) → text_number s ≡ 0 → text_number (form s) ≡ 0
form_taken s e =
    let p = taken s e in
    is_taken (form s) (form_parts s p) (rw (taken_form s p) (form_utf8 (taken_text s p) (taken_utf8 s e) p.strings))

-- it is its own form
pub form_again : (s : List ℕ) → text_number s ≡ 0 → form (form s) ≡ form s
form_again s e =
    let p = taken s e in
    taken_form (form s) (form_parts s p) ∙ form_parts_fixed s p ∙ sym (taken_form s p)

-- The form of a text that is taken is taken and is its own form.
pub form_canonical : (s : List ℕ) → text_number s ≡ 0 → is_canonical (form s) ≡ true
unfolding is_canonical
form_canonical s e = rw (eq-eqb (text_number (form s)) 0 (form_taken s e)) (rw (form_again s e) (same_refl (form s)))

-- it has the text's content, with the keys of every object in rising order
pub form_means : (s : List ℕ) (t u : Syntax) → text_number s ≡ 0 → Text 8 s t → Text 8 (form s) u → content u ≡ sorted (content t)
form_means s t u e h g =
    let p = taken s e in
    ap content (tree_is (form s) (form_parts s p) u g) ∙ form_parts_mean s p ∙ sym (ap (λ (x : Syntax). sorted (content x)) (tree_is s p t h))

-- The form of a text that is taken has the same content as the text.
pub form_content : (s : List ℕ) (t u : Syntax) → text_number s ≡ 0 → Text 8 s t → Text 8 (form s) u → Same (content t) (content u)
form_content s t u e h g = rw (form_means s t u e h g) (same_sorted (content t))

-- two texts have the same form exactly if they have the same content
pub form_same : (s s' : List ℕ) (t t' : Syntax) → text_number s ≡ 0 → text_number s' ≡ 0 → Text 8 s t → Text 8 s' t'
    → (form s ≡ form s') ↔ Same (content t) (content t')
form_same s s' t t' e e' h h' =
    let p = taken s e in
    let p' = taken s' e' in
    rw (tree_is s p t h, tree_is s' p' t' h', taken_form s p, taken_form s' p')
    (canonical_same (λ d r x y f g. one_tree f g) (clean s p) (clean s' p'))

-- no text with the same content is shorter, however deep
pub form_shortest : (s s' : List ℕ) (d : ℕ) (t t' : Syntax) → text_number s ≡ 0 → Text 8 s t → Text d s' t' → Same (content t) (content t')
    → length (form s) ≤ length s'
form_shortest s s' d t t' e h h' q =
    let p = taken s e in
    rw (taken_form s p) (canonical_shortest (clean s p) h' (rw (tree_is s p t h) at q))
