-- The measure is the number.
use Prim.Native.Nat.{ℕ, ◌+◌, ◌/◌, ◌<◌}
use native.Mathlib.Omega.{arith}
use mathlib.Core.Path.{sym, ap, ◌∙◌}
use Rattle.store_varint.proofs.Laws.{length_small, length_more, varint_least}
use borrow.Fn.Kinds.{In}
use borrow.Fn.PlainCycle.{Measures, is, falls, and}
use Rattle.store_varint.proofs.size.Reads as size
use Rattle.store_varint.proofs.size.Kinds as size-kinds
use Rattle.store_varint.proofs.+size.Lts-size as size-lts
use Rattle.store_varint.proofs.+size.{statement}
use Rattle.store_varint.proofs.+size.Tie.{close}

abbrev μ_size : Measures 0 size-kinds.ps ℕ
μ_size κs a = a.0

abbrev size_at : ℕ → In 0 size-kinds.ps
size_at t = and 0 size-kinds.ps (is 0 size-kinds.ps μ_size t) size.Pre

abbrev size_below : ℕ → In 0 size-kinds.ps
size_below t = and 0 size-kinds.ps (falls 0 size-kinds.ps ◌<◌ μ_size t) size.Pre

size_returns : (t : ℕ) → size-lts.Need-returns-then-n-lt128 (size_below t, size.Post) (size_at t) size.Post
size_returns t c = sym (length_small _ c.if-n-lt128.true)

size_add_result :
    (t : ℕ) → size-lts.Need-overflow_add-result (size_below t, size.Post) (size_at t) size.Post
size_add_result t c = omega (arith, varint_least (c.args.n / 128), c.size.ensures)

size_returns_2 : (t : ℕ) → size-lts.Need-returns (size_below t, size.Post) (size_at t) size.Post
size_returns_2 t c = ap (λ (k : ℕ). 1 + k) c.size.ensures ∙ sym (length_more _ c.if-n-lt128.false)

pub +size_spec : {M : Type 1} → statement M
+size_spec =
    close μ_size λ t. size-lts.spec (size_below t, size.Post) (size_at t) size.Post (size_returns t) (λ c κs. omega arith) (size_add_result t)
    (size_returns_2 t)
