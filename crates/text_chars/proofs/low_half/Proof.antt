-- `text_chars::low_half` meets its contract: each byte that is no part of a \u escape rules a second half out, and the four
-- digits say whether it is a low surrogate.
-- Assumes nothing.
use Prim.Native.Nat.{ℕ, ◌+◌, ◌≤◌}
use mathlib.Core.Path.{◌≡◌, sym, ◌∙◌}
use mathlib.Core.List.{List}
use mathlib.Core.Bool.{Bool, true, false}
use native.Mathlib.Omega.{arith}
use borrow.Author.Rules.{rules}
use lib.ListN.{length, drop}
use Rattle.text_json.specs.Syntax.{unit}
use Rattle.text_json.specs.Read.{read_chars, char, escape, hex, prepend}
use Rattle.text_json.specs.Content.{is_low}
use Rattle.text_chars.specs.Measure.{Lows}
use Rattle.text_chars.proofs.CharSteps.{chars_end, char_escape, unit_start}
use Rattle.text_chars.proofs.Pairs.{paired_unit, paired_stuck, paired_plain, paired_escape}
use Rattle.text_chars.proofs.low_half.Statement.{statement}
use Rattle.text_chars.proofs.low_half.Tie as tie

-- the number that was read is a low surrogate's, or not
lows : (s : List ℕ) (at v : ℕ) (z : Bool) → z ≡ is_low v → at + 6 ≤ length s
    → read_chars char (drop at s) ≡ prepend (unit v) (read_chars char (drop (at + 6) s)) → Lows s at z
lows s at v true e h x = (h, (v, sym e, x))
lows s at v false e h x = λ u. rw x (paired_unit u v _ (sym e))

-- past the tests: a backslash and a u stand at the position
abbrev start : tie.Else-s-next-ne117 → tie.Start
start c = c.before.before.before.before.before.before.before

abbrev text : tie.Else-s-next-ne117 → List ℕ
text c = (start c).args.s.now

starts : (c : tie.Else-s-next-ne117)
    → read_chars char (drop (start c).args.at (text c)) ≡ read_chars (hex 3 0) (drop ((start c).args.at + 2) (text c))
starts c = unit_start (text c) (start c).args.at c.if-s-next.false c.if-s-at-ne92.false c.if-s-next-ne117.false

returns-then-s-at : tie.Need-returns-then-s-at
returns-then-s-at c u = rw (chars_end _ _ char c.if-s-at.true) (paired_stuck u _)

returns-then-s-at-ne92 : tie.Need-returns-then-s-at-ne92
returns-then-s-at-ne92 c u = paired_plain u _ _ c.if-s-at.false c.if-s-at-ne92.true

returns-then-s-next : tie.Need-returns-then-s-next
returns-then-s-next c u =
    rw (char_escape _ _ c.if-s-at.false c.if-s-at-ne92.false, chars_end _ _ escape c.if-s-next.true)
    (paired_stuck u _)

returns-then-s-next-ne117 : tie.Need-returns-then-s-next-ne117
returns-then-s-next-ne117 c u =
    let else2 = c.before.before.before in
    rw (char_escape _ _ else2.if-s-at.false else2.if-s-at-ne92.false)
    (paired_escape u _ _ c.if-s-next.false c.if-s-next-ne117.true)

returns-in-Ok : tie.Need-returns-in-Ok
unfolding is_low
returns-in-Ok c =
    let h = c.before.before in
    let read = rw c.in-Ok.is at h.hex4.ensures in
    let next : (start h.before).args.at + 2 + 4 ≡ (start h.before).args.at + 6 = omega arith in
    lows (text h.before) (start h.before).args.at c.in-Ok.v _ c.between.ensures (omega arith)
    (starts h.before ∙ rw next at read.2)

returns-in-Err : tie.Need-returns-in-Err
returns-in-Err c u =
    let h = c.before in
    let read = rw c.in-Err.is at h.hex4.ensures in
    rw (starts h.before, read.2) (paired_stuck u _)

pub low_half_spec : {M : Type 1} → statement M
low_half_spec =
    tie.close (tie.spec returns-then-s-at (λ c. search rules) returns-then-s-at-ne92 (λ c. search rules) returns-then-s-next (λ c. search rules) returns-then-s-next-ne117 (λ c. search rules)
    (λ c κs. search rules) (λ c. search rules) (λ c κs. search rules) (λ c. search rules) returns-in-Ok returns-in-Err)
