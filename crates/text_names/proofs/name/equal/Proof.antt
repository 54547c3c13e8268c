-- `text_names::name::equal` meets its contract: the order of two contents is `Equal` where they are the same. Assumes nothing.
use borrow.Author.Rules.{rules}
use mathlib.Core.Path.{sym, ◌∙◌}
use Rattle.text_strings.proofs.Contents.{inside_content}
use Rattle.text_names.proofs.Names.{order_equal, order_less, order_greater}
use Rattle.text_names.proofs.name.equal.Statement.{statement}
use Rattle.text_names.proofs.name.equal.Tie as tie

returns-in-Equal : tie.Need-returns-in-Equal
returns-in-Equal c =
    let d = c.before in
    let p = d.requires in
    order_equal _ _ (sym c.in-Equal.is ∙ d.compare.ensures _ _ (inside_content _ _ p.0) (inside_content _ _ p.1))

returns-in-Less : tie.Need-returns-in-Less
returns-in-Less c =
    let d = c.before in
    let p = d.requires in
    order_less _ _ (sym c.in-Less.is ∙ d.compare.ensures _ _ (inside_content _ _ p.0) (inside_content _ _ p.1))

returns-in-Greater : tie.Need-returns-in-Greater
returns-in-Greater c =
    let d = c.before in
    let p = d.requires in
    order_greater _ _ (sym c.in-Greater.is ∙ d.compare.ensures _ _ (inside_content _ _ p.0) (inside_content _ _ p.1))

pub equal_spec : {M : Type 1} → statement M
equal_spec =
    tie.close (tie.spec (λ c κs. search rules) (λ c. search rules) (λ c. search rules) (λ c. search rules) returns-in-Equal returns-in-Less returns-in-Greater)
