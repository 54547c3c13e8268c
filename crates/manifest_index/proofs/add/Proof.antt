-- `manifest_index::add` meets its contract: the name is put into the index. Assumes nothing.
use borrow.Author.Rules.{rules}
use Rattle.manifest_index.proofs.add.Statement.{statement}
use Rattle.manifest_index.proofs.add.Tie as tie

insert-requires : tie.Need-insert-requires
insert-requires c κs = let p = c.requires in (record { strings = p.0.numbers; index = p.0.index.index }, p.1, p.2.entry)

returns : tie.Need-returns
returns c =
    let e = c.insert.ensures in
    (e.0, λ es x. record { index = e.1 es x.index })

pub add_spec : {M : Type 1} → statement M
add_spec =
    tie.close (tie.spec insert-requires (λ c. search rules) returns)
