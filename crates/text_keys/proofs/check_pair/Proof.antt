-- `text_keys::check_pair` meets its contract: what each answer of the comparison says. Assumes nothing.
use borrow.Author.Rules.{rules}
use Prim.Native.Nat.{◌+◌}
use mathlib.Core.Path.{sym, ap}
use native.Mathlib.Omega.{arith}
use Rattle.text_strings.specs.InString.{content_from, key_le}
use Rattle.text_strings.proofs.Cursors.{inside_within}
use Rattle.text_order.proofs.Orders.{Ordered}
use Rattle.text_keys.specs.Repeats.{left_if, same_left}
use Rattle.text_keys.proofs.Keys.{tag, compared, less, equal, greater}
use Rattle.text_keys.proofs.check_pair.Statement.{statement}
use Rattle.text_keys.proofs.check_pair.Tie as tie

overflow_sub-result : tie.Need-overflow_sub-result
overflow_sub-result c = omega (arith, inside_within _ _ c.requires.1)

-- what the comparison tells of the two contents
told : (c : tie.After-compare) → let a = c.args in
    Ordered (content_from a.s.now (a.k + 1)) (content_from a.s.now (a.l + 1)) c.compare.result
told c = let p = c.requires in compared _ _ _ _ p.0 p.1 c.compare.ensures

returns-in-Less : tie.Need-returns-in-Less
unfolding same_left left_if key_le
returns-in-Less c = let o = less (told c.before) (ap tag c.in-Less.is) in (rw (same_left, o.0), sym o.1)

returns-in-Equal : tie.Need-returns-in-Equal
unfolding same_left left_if key_le
returns-in-Equal c = let o = equal (told c.before) (ap tag c.in-Equal.is) in (rw (same_left, o.0), sym o.1)

returns-in-Greater : tie.Need-returns-in-Greater
unfolding same_left left_if key_le
returns-in-Greater c = let o = greater (told c.before) (ap tag c.in-Greater.is) in (rw (same_left, o.0), sym o.1)

pub check_pair_spec : {M : Type 1} → statement M
check_pair_spec =
    tie.close (tie.spec (λ c. search rules) (λ c. search rules) (λ c κs. search rules) (λ c. search rules) (λ c. search rules) overflow_sub-result
    (λ c. search rules) returns-in-Less returns-in-Equal returns-in-Greater)
