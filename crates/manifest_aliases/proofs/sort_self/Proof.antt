-- `manifest_aliases::sort_self` meets its contract: the names of the group `self` are sorted. Assumes nothing.
use borrow.Author.Rules.{rules}
use mathlib.Core.Path.{sym, ◌∙◌}
use lib.Seq.{length-take-le}
use Rattle.manifest.proofs.Groups.{self_space, self_sorted}
use Rattle.manifest.proofs.Limits.{self_sorted_length}
use Rattle.manifest_aliases.proofs.sort_self.Statement.{statement}
use Rattle.manifest_aliases.proofs.sort_self.Tie as tie

sort_names-requires : tie.Need-sort_names-requires
sort_names-requires c κs = let a = c.before.before.before.before.before in self_space _ _ a.requires.0 _ _ a.requires.1

returns : tie.Need-returns
returns c =
    let f = c.before.before.before.before in
    let a = f.before.before.before.before.before.before in
    let n = f.sort_names.ensures in
    let m = self_sorted _ _ a.requires.0 _ n.1 in
    (n.0, m, sym (length-take-le _ _ n.0) ∙ self_sorted_length m)

pub sort_self_spec : {M : Type 1} → statement M
sort_self_spec =
    tie.close (tie.spec sort_names-requires (λ c. search rules) (λ c. search rules) returns)
