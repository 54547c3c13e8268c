-- `store_write::head_size` meets its contract: the number is short, so that the sum fits.
use borrow.Author.Rules.{rules}
use Prim.Native.Nat.{ℕ, ◌+◌, ◌*◌}
use mathlib.Core.Path.{ap, ◌∙◌}
use native.Mathlib.Omega.{arith}
use lib.ListN.{length}
use Rattle.store_varint.specs.Varint.{varint}
use Rattle.store_varint.proofs.Laws.{varint_short}
use Rattle.store_record.specs.Record.{head_size}
use Rattle.store_write.proofs.head_size.Statement.{statement}
use Rattle.store_write.proofs.head_size.Tie as tie

overflow_add-result : tie.Need-overflow_add-result
overflow_add-result c =
    let a = c.args in
    omega (arith, c.size.ensures, varint_short (1 + 2 * c.digest_bytes.result + a.text) (omega arith))

returns : tie.Need-returns
unfolding head_size
returns c =
    let a = c.args in
    ap (λ (n : ℕ). n + (1 + 2 * c.digest_bytes.result)) c.size.ensures
    ∙ ap (λ (d : ℕ). length (varint (1 + 2 * d + a.text)) + (1 + 2 * d)) c.digest_bytes.ensures.0

pub head_size_spec : {M : Type 1} → statement M
head_size_spec =
    tie.close (tie.spec (λ c κs. search rules) (λ c. search rules) (λ c. search rules) (λ c. search rules) (λ c κs. search rules) overflow_add-result
    returns)
