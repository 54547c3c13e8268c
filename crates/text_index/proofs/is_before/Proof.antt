-- `text_index::is_before` meets its contract. Assumes nothing.
use borrow.Author.Rules.{rules}
use mathlib.Core.Path.{◌≡◌}
use Rattle.text_strings.specs.InString.{content_from}
use Rattle.text_order.specs.Compare.{order}
use Rattle.text_strings.proofs.Contents.{inside_content}
use Rattle.text_index.proofs.Searching.{is_before_less, is_before_equal, is_before_greater}
use Rattle.text_index.proofs.is_before.Statement.{statement}
use Rattle.text_index.proofs.is_before.Tie as tie

-- what comparing gave
answer : (c : tie.After-compare) → let a = c.args in
    c.compare.result ≡ order (content_from a.b.now a.p) (content_from a.t.now a.q)
answer c = let p = c.requires in c.compare.ensures _ _ (inside_content _ _ p.0) (inside_content _ _ p.1)

returns-in-Less : tie.Need-returns-in-Less
returns-in-Less c = is_before_less _ _ _ (answer c.before) c.in-Less.is

returns-in-Equal : tie.Need-returns-in-Equal
returns-in-Equal c = is_before_equal _ _ _ (answer c.before) c.in-Equal.is

returns-in-Greater : tie.Need-returns-in-Greater
returns-in-Greater c = is_before_greater _ _ _ (answer c.before) c.in-Greater.is

pub is_before_spec : {M : Type 1} → statement M
is_before_spec =
    tie.close (tie.spec (λ c κs. search rules) (λ c. search rules) (λ c. search rules) (λ c. search rules) returns-in-Less returns-in-Equal returns-in-Greater)
