-- `text_index::count_between` meets its contract. The loop's invariant: the strings before what is left come before the content, and those behind it
-- do not. The measure is how much is left. Assumes nothing.
use Prim.Native.Nat.{ℕ, ◌+◌, ◌-◌, ◌<◌, ◌≤◌, ◌/◌}
use native.Mathlib.Omega.{arith}
use lib.ListN.{get_or}
use Rattle.text_strings.specs.InString.{content_from}
use Rattle.text_index.specs.Index.{entry_text, Entry, Counted}
use Rattle.text_index.proofs.Searching.{counted, mid_entry, goes_up, goes_down}
use Rattle.text_index.proofs.count_between.Statement.{statement}
use Rattle.text_index.proofs.count_between.Tie as tie

abbrev invariant-loop : tie.invariant-loop-low
invariant-loop b at order t q equal from to low₀ high₀ low high = Counted b at order equal equal (content_from t q) low high

abbrev decreases-loop : tie.decreases-loop-low
decreases-loop b at order t q equal from to low₀ high₀ low high = high - low

loop-low-init : tie.Need-loop-low-init invariant-loop decreases-loop
loop-low-init c = c.requires.2

-- the middle of what is left
abbrev mid : tie.After-shared_slice_known-in-loop-low-1 invariant-loop decreases-loop → ℕ
mid c = let l = c.loop-low in l.low + (l.high - l.low) / 2

middle : (c : tie.After-shared_slice_known-in-loop-low-1 invariant-loop decreases-loop) → let l = c.loop-low in (l.low ≤ mid c) × (mid c < l.high)
middle c = (omega arith, omega arith)

-- the string that stands there
entry : (c : tie.After-shared_slice_known-in-loop-low-1 invariant-loop decreases-loop) → let a = c.args in
    Entry a.b.now a.at.now (get_or a.order.now (mid c) 0)
entry c =
    mid_entry _ _ _ _ _ _ _ _ c.loop-low.invariant c.requires.0
    (mid c) (middle c).0 (middle c).1

overflow_cast-e : tie.Need-overflow_cast-e invariant-loop decreases-loop
overflow_cast-e c = omega (arith, c.shared_slice_known-in-loop-low-1.given (mid c))

offset_bounds-at-e : tie.Need-offset_bounds-at-e invariant-loop decreases-loop
offset_bounds-at-e c = omega (arith, c.shared_slice_known-in-loop-low-1.given (mid c))

bounds-at-e : tie.Need-bounds-at-e invariant-loop decreases-loop
bounds-at-e c = (entry c.before).within

is_before-requires : tie.Need-is_before-requires invariant-loop decreases-loop
is_before-requires c κs = ((entry c.before).inside, c.requires.1)

loop-low-preserved-then-is_before : tie.Need-loop-low-preserved-then-is_before invariant-loop decreases-loop
unfolding entry_text
loop-low-preserved-then-is_before c =
    let d = c.before.before.before in
    goes_up _ _ _ _ _ _ _ _ d.loop-low.invariant d.requires.0
    (mid d) (middle d).0 (middle d).1 _ c.is_before.ensures c.if-is_before.true

loop-low-preserved : tie.Need-loop-low-preserved invariant-loop decreases-loop
unfolding entry_text
loop-low-preserved c =
    let d = c.before.before.before in
    goes_down _ _ _ _ _ _ _ _ d.loop-low.invariant d.requires.0
    (mid d) (middle d).0 (middle d).1 _ c.is_before.ensures c.if-is_before.false

returns : tie.Need-returns invariant-loop decreases-loop
returns c = counted _ _ _ _ _ _ _ c.loop-low.invariant c.loop-low-test.false

pub count_between_spec : {M : Type 1} → statement M
count_between_spec =
    tie.close (tie.spec invariant-loop decreases-loop loop-low-init (λ c. omega arith) (λ c. omega arith) (λ c. omega arith) (λ c. omega arith) overflow_cast-e offset_bounds-at-e
    bounds-at-e is_before-requires (λ c. omega arith) (λ c. omega arith) loop-low-preserved-then-is_before (λ c. omega arith) loop-low-preserved returns)
