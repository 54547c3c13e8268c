-- How a span grows. Assumes nothing.
use Prim.Native.Nat.{ℕ, ◌+◌, ◌≤◌, ◌<◌}
use mathlib.Core.Path.{◌≡◌, subst}
use mathlib.Core.List.{List}
use native.Mathlib.Omega.{arith}
use lib.ListN.{length, get_or}
use Rattle.laws.specs.Span.{Span}
use Rattle.laws.proofs.Order.{below}

module _ (P : ℕ → Type 0) (s : List ℕ) where
  -- No element is a span.
  pub span_none : (i j : ℕ) → i ≡ j → j ≤ length s → Span P s i j
  span_none i j e h = record { up = omega arith; fits = h; all = λ k u v. absurd (omega arith) }

  -- One element more.
  pub span_next : (i j n : ℕ) → Span P s i j → j < length s → P (get_or s j 0) → n ≡ j + 1 → Span P s i n
  span_next i j n a h p m =
      record {
        up = omega (arith, a.up);
        fits = omega arith;
        all = λ k u v. below k j (λ w. a.all k u w) (λ w. let e : j ≡ k = omega arith in subst (λ (l : ℕ). P (get_or s l 0)) e p);
      }

  -- Two spans, one after the other.
  pub span_both : (i j k : ℕ) → Span P s i j → Span P s j k → Span P s i k
  span_both i j k a b =
      record { up = omega (arith, a.up, b.up); fits = b.fits; all = λ l u v. below l j (λ w. a.all l u w) (λ w. b.all l (omega arith) v) }

  -- A span that ends earlier.
  pub span_less : (i j k : ℕ) → Span P s i k → i ≤ j → j ≤ k → Span P s i j
  span_less i j k a h l = record { up = h; fits = omega (arith, a.fits); all = λ m u v. a.all m u (omega arith) }
