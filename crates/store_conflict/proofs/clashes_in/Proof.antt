-- `store_conflict::clashes_in` meets its contract: of an image of the same signer the aliases that are asked about decide.
use mathlib.Core.Path.{◌≡◌, sym, subst, ◌∙◌}
use borrow.Author.Rules.{rules}
use borrow.Author.Tests.{not-true, not-false}
use Rattle.store_record.specs.Reading.{between}
use Rattle.store_conflict.specs.Asked.{SortedAliases}
use Rattle.store_conflict.specs.declared.Aliases.{Aliases}
use Rattle.store_conflict.proofs.Walking.{signed_is, not_asked, sharing, conflicting}
use Rattle.store_conflict.proofs.clashes_in.Statement.{statement}
use Rattle.store_conflict.proofs.clashes_in.Tie as tie

-- where the signer is compared
abbrev start : tie.After-is_signed_by → tie.Start
start k = k.before.before.before.before.before.before.before

returns-then-not-is_signed_by : tie.Need-returns-then-not-is_signed_by
returns-then-not-is_signed_by c =
    let a = (start c.before).args in
    sym (not_asked a.b.now a.r a.a a.signer.now a.s.now a.which (sym (c.is_signed_by.ensures ∙ signed_is _ _ _ _)
    ∙ not-true _ c.if-not-is_signed_by.true-raw))

-- the aliases that are asked about are sorted
sorted : (a : tie.Start) {w : Aliases} → a.args.which ≡ w → SortedAliases w a.args.s.now a.args.names.now a.args.keys.now
sorted a e = subst (λ (w : Aliases). SortedAliases w a.args.s.now a.args.names.now a.args.keys.now) e a.requires.0

shares_self-requires : tie.Need-shares_self-requires
unfolding between
shares_self-requires c κs =
    let a = start c.before.before.before in
    (sorted a c.in-Own.is, a.requires.1, a.requires.3)

conflicts-requires : tie.Need-conflicts-requires
unfolding between
conflicts-requires c κs =
    let a = start c.before.before.before in
    (sorted a c.in-Layers.is, a.requires.1, a.requires.3)

returns-in-Own : tie.Need-returns-in-Own
unfolding between
returns-in-Own c =
    let e = c.before.before.before in
    let a = (start e.before).args in
    c.shares_self.ensures
    ∙ sym (sharing a.b.now a.r a.a a.signer.now a.s.now c.in-Own.is
    (sym (e.is_signed_by.ensures ∙ signed_is _ _ _ _) ∙ not-false _ e.if-not-is_signed_by.false-raw))

returns-in-Layers : tie.Need-returns-in-Layers
unfolding between
returns-in-Layers c =
    let e = c.before.before.before in
    let a = (start e.before).args in
    c.conflicts.ensures
    ∙ sym (conflicting a.b.now a.r a.a a.signer.now a.s.now c.in-Layers.is
    (sym (e.is_signed_by.ensures ∙ signed_is _ _ _ _) ∙ not-false _ e.if-not-is_signed_by.false-raw))

pub clashes_in_spec : {M : Type 1} → statement M
clashes_in_spec =
    tie.close (tie.spec (λ c κs. search rules) returns-then-not-is_signed_by (λ c. search rules) (λ c. search rules) (λ c. search rules)
    (λ c. search rules) shares_self-requires (λ c. search rules) conflicts-requires returns-in-Own returns-in-Layers)
