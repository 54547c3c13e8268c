-- The strings of an index that have a content stand together. Assumes nothing.
use Prim.Native.Nat.{ℕ, ◌<◌, ◌≤◌}
use mathlib.Core.Path.{◌≡◌, sym, ap, ◌∙◌}
use mathlib.Core.List.{List}
use mathlib.Core.Bool.{true, false}
use native.Mathlib.Omega.{arith}
use borrow.Author.Tests.{ltb-true, ltb-false}
use lib.Dec.{ltb}
use lib.ListN.{get_or}
use Rattle.laws.specs.Order.{leq, same}
use Rattle.laws.proofs.Order.{by_test, false_true, leq_refl, leq_antisym, leq_total, same_refl, same_eq}
use Rattle.text_index.specs.Index.{entry_text, comes_before, Before, Holds}
use Rattle.text_index.specs.declared.Range.{Range}
use Rattle.text_index.proofs.Lists.{filter_part}
use Rattle.text_index.proofs.Searching.{before_false, after_false}

module _ (c x : List ℕ) where
  not_reached : leq c x ≡ false → same c x ≡ false
  not_reached e = by_test (same c x) (λ f. false_true (sym e ∙ ap (leq c) (sym (same_eq c x f)) ∙ leq_refl c)) (λ f. f)

  not_below : leq x c ≡ false → same c x ≡ false
  not_below e = by_test (same c x) (λ f. false_true (sym e ∙ ap (λ (y : List ℕ). leq y c) (sym (same_eq c x f)) ∙ leq_refl c)) (λ f. f)

  between : leq c x ≡ true → leq x c ≡ true → same c x ≡ true
  between e f = ap (same c) (sym (leq_antisym c x e f)) ∙ same_refl c

module _ (b at order c : List ℕ) (r : Range) (lower : Before b at order false c r.from) (upper : Before b at order true c r.to) where
  abbrev text : ℕ → List ℕ
  text i = entry_text b at (get_or order i 0)

  rising : r.from ≤ r.to
  unfolding comes_before
  rising = by_test (ltb r.to r.from) (λ e. contrary (ltb-true r.to r.from e)) (λ e. ltb-false r.to r.from e)
    where
      contrary : r.to < r.from → r.from ≤ r.to
      contrary l =
          false_true (sym (before_false (text r.to) c (lower.before r.to l))
          ∙ leq_total (text r.to) c (upper.after r.to (omega arith) (omega (arith, lower.within))))

  -- Those that come before c or have that content, without those that come before it, are those that have it.
  pub found : Holds b at order c r
  unfolding comes_before
  found =
      record {
        rising = rising;
        within = upper.within;
        all = filter_part (λ (e : ℕ). same c (entry_text b at e)) order r.from r.to rising upper.within
            (λ i l. not_reached c (text i) (before_false (text i) c (lower.before i l)))
            (λ i l h. between c (text i) (after_false (text i) c (lower.after i l (omega (arith, upper.within)))) (upper.before i h))
            (λ i l h. not_below c (text i) (upper.after i l h));
      }
