-- `text_chars::plain_rest` meets its contract: the run of plain bytes goes on behind the first eight of it. Assumes nothing.
use borrow.Author.Rules.{rules}
use Prim.Native.Nat.{◌+◌, ◌≤◌}
use mathlib.Core.Path.{◌≡◌, sym, ◌∙◌}
use native.Mathlib.Omega.{arith}
use lib.ListN.{length, drop}
use Rattle.text_chars.specs.Measure.{plain_length}
use Rattle.text_chars.proofs.Plain.{goes_far}
use Rattle.text_chars.proofs.plain_rest.Statement.{statement}
use Rattle.text_chars.proofs.plain_rest.Tie as tie

-- the place behind the eight bytes
behind : (c : tie.Then-plain_left) → let a = c.args in
    (a.at + 8 ≤ length a.s.now) × (a.at + plain_length (drop a.at a.s.now) ≡ a.at + 8 + plain_length (drop (a.at + 8) a.s.now))
behind c = goes_far _ _ 8 c.requires (sym c.plain_left.ensures ∙ c.if-plain_left.true)

overflow_add-at : tie.Need-overflow_add-at
overflow_add-at c = omega (arith, (behind c).0)

plain_tail-requires : tie.Need-plain_tail-requires
plain_tail-requires c κs = (behind c).0

returns-then-plain_left : tie.Need-returns-then-plain_left
returns-then-plain_left c = c.plain_tail.ensures ∙ sym (behind c.before).1

pub plain_rest_spec : {M : Type 1} → statement M
plain_rest_spec =
    tie.close (tie.spec (λ c κs. search rules) overflow_add-at plain_tail-requires returns-then-plain_left (λ c κs. search rules) (λ c. search rules))
