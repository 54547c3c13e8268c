-- The laws of the canonical form.
use Prim.Native.Nat.{ℕ, ◌≤◌}
use mathlib.Core.Path.{◌≡◌, sym, ap, subst, ◌∙◌}
use mathlib.Core.Logic.{◌↔◌}
use mathlib.Core.List.{List}
use lib.ListN.{length}
use Rattle.text_json.specs.Syntax.{Syntax}
use Rattle.text_json.specs.Grammar.{Text}
use Rattle.text_content.specs.Value.{Value, content, Same}
use Rattle.text_content.specs.Canonical.{sorted, write, canonical}
use Rattle.text_content.specs.Fault.{string_fault, number_fault, key_fault}
use Rattle.text_content.proofs.NotLonger.{not_longer}
use Rattle.text_content.proofs.InRange.{InRange, content_in_range, range_sorted}
use Rattle.text_content.proofs.ReadBack.{ReadsText, canonical_reads_back}
use Rattle.text_content.proofs.Same.{same_of_sorted, sorted_twice}
use Rattle.text_content.specs.Distinct.{Distinct}
use Rattle.text_content.proofs.Distinct.{Rising, content_distinct, distinct_sorted, distinct_unmarked, sorted_same, rising_sorted}

-- a text in which no string is refused and no object has a key twice (questions 4 and 6)
pub record Clean (d : ℕ) (s : List ℕ) (t : Syntax) : Type 0 where
  pub parsed : Text d s t
  pub strings : string_fault t ≡ 0
  pub keys : key_fault t ≡ 0

-- what is known of a text's value
pub text_distinct : {d : ℕ} {s : List ℕ} {t : Syntax} → Text d s t → key_fault t ≡ 0 → Distinct (content t)
text_distinct {d} (Text.text {s₁ = s₁} {s₂ = s₂} {t = t} g h g') e = content_distinct d s₁ t s₂ h e

text_in_range : {d : ℕ} {s : List ℕ} {t : Syntax} → Text d s t → number_fault t ≡ 0 → InRange (content t)
text_in_range {d} (Text.text {s₁ = s₁} {s₂ = s₂} {t = t} g h g') e = content_in_range d s₁ t s₂ h e

-- The canonical form of a text without a string fault is a text with the sorted content and without a string fault.
pub text_reads_back : {d : ℕ} {s : List ℕ} {t : Syntax} → Text d s t → string_fault t ≡ 0 → ReadsText d (canonical (content t)) (sorted (content t))
text_reads_back {d} (Text.text {s₁ = s₁} {s₂ = s₂} {t = t} g h g') e = canonical_reads_back d s₁ t s₂ h e

clean_distinct : {d : ℕ} {s : List ℕ} {t : Syntax} → Clean d s t → Distinct (content t)
clean_distinct c = text_distinct c.parsed c.keys

-- the canonical form has the keys of every object in strictly rising order
pub canonical_rising : {d : ℕ} {s : List ℕ} {t : Syntax} → Clean d s t → Rising (sorted (content t))
canonical_rising c = rising_sorted (clean_distinct c)

-- The canonical form is a clean text again: its content is the sorted content, and it is its own canonical form. No number of it is
-- refused if none of the text is.
pub record Canonical (d : ℕ) (t : Syntax) : Type 0 where
  pub tree : Syntax
  pub clean : Clean d (canonical (content t)) tree
  pub numbers : number_fault t ≡ 0 → number_fault tree ≡ 0
  pub means : content tree ≡ sorted (content t)
  pub fixed : canonical (content tree) ≡ canonical (content t)

-- The canonical form of a clean text is a clean text with the sorted content, and is its own canonical form.
pub canonical_text : {d : ℕ} {s : List ℕ} {t : Syntax} → Clean d s t → Canonical d t
unfolding canonical
canonical_text {t = t} c =
    let u = text_reads_back c.parsed c.strings in
    let distinct = subst Distinct (sym u.means) (distinct_sorted (content t) (clean_distinct c)) in
    record {
      tree = u.tree;
      clean = record { parsed = u.reads; strings = u.strings; keys = distinct_unmarked u.tree distinct };
      numbers = λ e. u.numbers (range_sorted (text_in_range c.parsed e));
      means = u.means;
      fixed = ap canonical u.means ∙ ap write (sorted_twice (content t));
    }

-- the same content has the same canonical form
pub canonical_of_same : {d : ℕ} {s : List ℕ} {t : Syntax} {v : Value} → Clean d s t → Same (content t) v → canonical (content t) ≡ canonical v
unfolding canonical
canonical_of_same c h = ap write (sorted_same h (clean_distinct c))

-- no text with the same content is shorter than the canonical form
pub canonical_shortest : {d d' : ℕ} {s s' : List ℕ} {t t' : Syntax} → Clean d s t → Text d' s' t' → Same (content t) (content t')
    → length (canonical (content t)) ≤ length s'
canonical_shortest {s' = s'} c h e = subst (λ (l : List ℕ). length l ≤ length s') (sym (canonical_of_same c e)) (not_longer h)

-- where a text has one tree, the same canonical form has the same content: what the canonical form reads as
module _ (one_tree : (d : ℕ) (s : List ℕ) (t u : Syntax) → Text d s t → Text d s u → t ≡ u) where
  -- Where a text has one tree, clean texts with equal canonical forms have the same content.
  pub same_of_canonical : {d : ℕ} {s s' : List ℕ} {t t' : Syntax} → Clean d s t → Clean d s' t' → canonical (content t) ≡ canonical (content t')
      → Same (content t) (content t')
  same_of_canonical {d} {t = t} {t' = t'} c c' e =
      let u = text_reads_back c.parsed c.strings in
      let u' = text_reads_back c'.parsed c'.strings in
      let q = one_tree d (canonical (content t')) u.tree u'.tree (subst (λ (s : List ℕ). Text d s u.tree) e u.reads) u'.reads in
      same_of_sorted (content t) (content t') (sym u.means ∙ ap content q ∙ u'.means)

  -- Where a text has one tree, clean texts have equal canonical forms exactly if they have the same content.
  pub canonical_same : {d : ℕ} {s s' : List ℕ} {t t' : Syntax} → Clean d s t → Clean d s' t'
      → (canonical (content t) ≡ canonical (content t')) ↔ Same (content t) (content t')
  canonical_same c c' = (same_of_canonical c c', canonical_of_same c)
