-- Runs of ASCII bytes, and what a run leaves of the verdict.
-- Assumes nothing.
use Prim.Native.Nat.{ℕ, zero, suc, ◌+◌, ◌-◌, ◌<◌}
use native.Mathlib.Nat.{add-zero}
use native.Mathlib.Omega.{arith}
use mathlib.Core.Path.{◌≡◌, ap, ◌∙◌}
use mathlib.Core.List.{List}
use lib.ListN.{length, get_or}
use Rattle.text_utf8.specs.Char.{Ascii}
use Rattle.text_utf8.proofs.Chars.{verdict_at, ascii_at}

run : (s : List ℕ) (i n : ℕ) → ((k : ℕ) → k < n → (i + k < length s) × (get_or s (i + k) 0 < 0x80)) → verdict_at s i ≡ verdict_at s (i + n)
run s i zero a = rw add-zero
run s i (suc n) a =
    let m : i + n + 1 ≡ i + suc n = omega arith in
    let b = a n (omega arith) in
    run s i n (λ k l. a k (omega arith)) ∙ ascii_at s (i + n) b.0 b.1 ∙ ap (verdict_at s) m

-- a run of ASCII bytes does not change the verdict
pub ascii_run : (s : List ℕ) (i j : ℕ) → Ascii s i j → verdict_at s i ≡ verdict_at s j
ascii_run s i j a =
    let m : i + (j - i) ≡ j = omega (arith, a.up) in
    run s i (j - i) (λ k l. (omega (arith, a.fits), a.all (i + k) (omega arith) (omega arith))) ∙ ap (verdict_at s) m
