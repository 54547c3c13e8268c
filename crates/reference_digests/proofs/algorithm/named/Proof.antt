-- `reference_digests::algorithm::named` meets its contract: the names are tried one after the other.
-- Assumes nothing.
use mathlib.Core.Path.{sym, ◌∙◌}
use Rattle.reference_digests.proofs.Forms.{named_first, named_second, named_third, named_none}
use borrow.Author.Rules.{rules}
use Rattle.reference_digests.proofs.algorithm.named.Statement.{statement}
use Rattle.reference_digests.proofs.algorithm.named.Tie as tie

returns-then-is_named : tie.Need-returns-then-is_named
returns-then-is_named c = sym (named_first _ (sym c.is_named.ensures ∙ c.if-is_named.true))

returns-then-is_named-2 : tie.Need-returns-then-is_named-2
returns-then-is_named-2 c =
    let d = c.before in
    let e = d.before.before in
    sym (named_second _ (sym e.is_named.ensures ∙ e.if-is_named.false) (sym d.is_named-2.ensures ∙ c.if-is_named-2.true))

returns-then-is_sha384 : tie.Need-returns-then-is_sha384
returns-then-is_sha384 c =
    let f = c.before in
    let g = f.before.before in
    let d = g.before in
    let e = d.before.before in
    sym (named_third _ (sym e.is_named.ensures ∙ e.if-is_named.false) (sym d.is_named-2.ensures
    ∙ g.if-is_named-2.false) (sym f.is_named-is_sha384.ensures ∙ c.if-is_sha384.true))

returns : tie.Need-returns
returns c =
    let f = c.before in
    let g = f.before.before in
    let d = g.before in
    let e = d.before.before in
    sym (named_none _ (sym e.is_named.ensures ∙ e.if-is_named.false) (sym d.is_named-2.ensures ∙ g.if-is_named-2.false) (sym f.is_named-is_sha384.ensures
    ∙ c.if-is_sha384.false))

pub named_spec : {M : Type 1} → statement M
named_spec =
    tie.close (tie.spec (λ c κs. search rules) returns-then-is_named (λ c κs. search rules) returns-then-is_named-2 (λ c κs. search rules)
    returns-then-is_sha384 returns)
