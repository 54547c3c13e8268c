-- `text_order::compare_first` meets its contract: bytes that differ decide where neither begins an escape.
-- Assumes nothing.
use borrow.Author.Rules.{rules}
use mathlib.Core.Path.{sym, ◌∙◌}
use Rattle.text_strings.proofs.Cursors.{inside_within}
use Rattle.text_order.proofs.Orders.{either_false, bytes_differ}
use Rattle.text_order.proofs.Alike.{both_start}
use Rattle.text_order.proofs.compare_first.Statement.{statement}
use Rattle.text_order.proofs.compare_first.Tie as tie

bounds-s-i : tie.Need-bounds-s-i
bounds-s-i c = inside_within _ _ c.requires.0

bounds-t-j : tie.Need-bounds-t-j
bounds-t-j c = inside_within _ _ c.requires.1

returns : tie.Need-returns
returns c =
    let p = c.requires in
    let e = either_false _ _ (sym c.either_escapes.ensures ∙ c.if-either_escapes.false) in
    λ x y u v. c.differ.ensures ∙ bytes_differ _ _ _ _ (both_start _ _ _ _ p.0 p.1).2 e.0 e.1 c.if-x-y.false x y u v

pub compare_first_spec : {M : Type 1} → statement M
compare_first_spec =
    tie.close (tie.spec bounds-s-i bounds-t-j (λ c κs. search rules) (λ c. search rules) (λ c κs. search rules)
    (λ c κs. search rules) (λ c. search rules) (λ c κs. search rules) returns)
