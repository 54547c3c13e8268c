-- `text_order::compare_rest` meets its contract: behind eight bytes that are alike the order is the one from the start.
-- Assumes nothing.
use borrow.Author.Rules.{rules}
use Prim.Native.Nat.{◌+◌}
use native.Mathlib.Omega.{arith}
use mathlib.Core.Path.{sym, ◌∙◌}
use Rattle.text_strings.specs.InString.{InString}
use Rattle.text_strings.proofs.Cursors.{inside_within}
use Rattle.text_order.proofs.Alike.{Both, both_start, past, told}
use Rattle.text_order.proofs.compare_rest.Statement.{statement}
use Rattle.text_order.proofs.compare_rest.Tie as tie

alike_run-requires : tie.Need-alike_run-requires
alike_run-requires c κs =
    let p = c.requires in (omega (arith, inside_within _ _ p.0), omega (arith, inside_within _ _ p.1))

-- both positions behind the eight bytes
behind : (c : tie.Then-alike_run) → let a = c.args in
    Both (InString a.s.now a.i) (InString a.t.now a.j) a.s.now (a.i + 8) a.t.now (a.j + 8)
behind c =
    let p = c.requires in
    past _ _ _ _ 8 (sym c.alike_run.ensures ∙ c.if-alike_run.true) _ _ (both_start _ _ _ _ p.0 p.1)

overflow_add-i : tie.Need-overflow_add-i
overflow_add-i c = omega (arith, inside_within _ _ (behind c).0)

overflow_add-j : tie.Need-overflow_add-j
overflow_add-j c = omega (arith, inside_within _ _ (behind c).1)

compare_bytes-requires : tie.Need-compare_bytes-requires
compare_bytes-requires c κs = let b = behind c in (b.0, b.1)

returns-then-alike_run : tie.Need-returns-then-alike_run
returns-then-alike_run c = told _ _ _ _ (behind c.before) c.compare_bytes.ensures

pub compare_rest_spec : {M : Type 1} → statement M
compare_rest_spec =
    tie.close (tie.spec alike_run-requires overflow_add-i overflow_add-j compare_bytes-requires returns-then-alike_run (λ c κs. search rules)
    (λ c. search rules))
