-- `manifest_names::asked::passes` meets its contract: the name is looked for among the others, for one question with its key.
-- Assumes nothing.
use mathlib.Core.Path.{subst}
use borrow.Author.Rules.{rules}
use Rattle.manifest_names.specs.Asked.{Against, passes}
use Rattle.manifest_names.specs.declared.asked.Asked.{Asked}
use Rattle.manifest_names.proofs.asked.passes.Statement.{statement}
use Rattle.manifest_names.proofs.asked.passes.Tie as tie

has_headed-requires : tie.Need-has_headed-requires
has_headed-requires c κs =
    let a = c.before.before.before.before.before.before in
    let i = subst (λ (k : Asked). Against k a.args.s.now a.args.keys.now a.args.names.now) c.in-Shared.is a.requires.0 in
    (record { names = i.0; sorted = i.1 }, a.requires.1, a.requires.2)

is_elsewhere-requires : tie.Need-is_elsewhere-requires
is_elsewhere-requires c κs =
    let a = c.before.before.before.before.before.before in
    let i = subst (λ (k : Asked). Against k a.args.s.now a.args.keys.now a.args.names.now) c.in-Elsewhere.is a.requires.0 in
    (record { aliases = i.0; sorted = i.1 }, a.requires.1, a.requires.2, a.requires.3)

returns-in-Shared : tie.Need-returns-in-Shared
unfolding passes
returns-in-Shared c = rw c.in-Shared.is (λ i. c.has_headed.ensures i.0 i.1)

returns-in-Elsewhere : tie.Need-returns-in-Elsewhere
unfolding passes
returns-in-Elsewhere c = rw c.in-Elsewhere.is (λ i. c.is_elsewhere.ensures i.0 i.1)

pub passes_spec : {M : Type 1} → statement M
passes_spec =
    tie.close (tie.spec (λ c. search rules) has_headed-requires (λ c. search rules) is_elsewhere-requires returns-in-Shared returns-in-Elsewhere)
