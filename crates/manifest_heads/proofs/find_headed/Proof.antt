-- `manifest_heads::find_headed` meets its contract. The loop's invariant: the content is none of the names outside of what is left. The measure is
-- how much is left. Assumes nothing.
use borrow.Author.Rules.{rules}
use Prim.Native.Nat.{ℕ, ◌+◌, ◌-◌, ◌<◌, ◌≤◌, ◌/◌}
use mathlib.Core.Path.{◌≡◌}
use native.Mathlib.Omega.{arith}
use lib.ListN.{get_or}
use Rattle.text_strings.specs.InString.{Inside, content_from}
use Rattle.text_order.specs.Compare.{order}
use Rattle.manifest_heads.proofs.Searching.{Searched, search_started, not_found, mid_inside, found, goes_up, goes_down}
use Rattle.manifest_heads.proofs.find_headed.Statement.{statement}
use Rattle.manifest_heads.proofs.find_headed.Tie as tie

abbrev invariant-loop : tie.invariant-loop-low
invariant-loop s names heads t q h low₀ high₀ low high = Searched s names (content_from t q) low high

abbrev decreases-loop : tie.decreases-loop-low
decreases-loop s names heads t q h low₀ high₀ low high = high - low

head-h-requires : tie.Need-head-h-requires invariant-loop decreases-loop
head-h-requires c κs = c.requires.2

loop-low-init : tie.Need-loop-low-init invariant-loop decreases-loop
loop-low-init c = search_started _ _ _

-- the middle of what is left
abbrev mid : tie.After-shared_slice_known-in-loop-low-1 invariant-loop decreases-loop → ℕ
mid c = let l = c.loop-low in l.low + (l.high - l.low) / 2

middle : (c : tie.After-shared_slice_known-in-loop-low-1 invariant-loop decreases-loop) → let l = c.loop-low in (l.low ≤ mid c) × (mid c < l.high)
middle c = (omega arith, omega arith)

overflow_cast-p : tie.Need-overflow_cast-p invariant-loop decreases-loop
overflow_cast-p c = omega (arith, c.shared_slice_known-in-loop-low-1.given (mid c))

overflow_add-p : tie.Need-overflow_add-p invariant-loop decreases-loop
overflow_add-p c = omega (arith, c.shared_slice_known-in-loop-low-1.given (mid c))

inside : (c : tie.After-shared_slice_known-in-loop-low-1 invariant-loop decreases-loop) → let a = c.args in
    Inside a.s.now (get_or a.names.now (mid c) 0 + 1)
inside c =
    let l = c.loop-low in
    mid_inside _ _ _ _ _ l.invariant c.requires.0 (mid c) (middle c).0 (middle c).1

offset_bounds-heads-mid : tie.Need-offset_bounds-heads-mid invariant-loop decreases-loop
offset_bounds-heads-mid c =
    let a = c.before.before.before.before.before.before.before.before in
    omega (arith, a.requires.1.long, (middle c).1, c.loop-low.invariant.within)

bounds-heads-mid : tie.Need-bounds-heads-mid invariant-loop decreases-loop
bounds-heads-mid c =
    let d = c.before in
    let a = d.before.before.before.before.before.before.before.before in
    omega (arith, a.requires.1.long, (middle d).1, d.loop-low.invariant.within)

compare_headed-requires : tie.Need-compare_headed-requires invariant-loop decreases-loop
compare_headed-requires c κs =
    let d = c.before in
    let a = d.before.before.before.before.before.before.before.before in
    (inside d, a.requires.2, a.requires.1.each (mid d) (omega arith), d.head-h.ensures)

-- what comparing gave
answer : (c : tie.After-compare_headed invariant-loop decreases-loop) → let a = c.args in
    c.compare_headed.result ≡ order (content_from a.s.now (get_or a.names.now (mid c.before.before) 0 + 1)) (content_from a.t.now a.q)
answer c = c.compare_headed.ensures

loop-low-preserved-in-Less : tie.Need-loop-low-preserved-in-Less invariant-loop decreases-loop
loop-low-preserved-in-Less c =
    let k = c.before in
    let d = k.before.before in
    goes_up _ _ _ _ _ d.loop-low.invariant d.requires.0 (mid d) (middle d).0
    (middle d).1 _ (answer k) c.in-Less.is

returns-in-Equal : tie.Need-returns-in-Equal invariant-loop decreases-loop
returns-in-Equal c =
    let k = c.before in
    let d = k.before.before in
    λ cs m. found _ _ _ _ _ d.loop-low.invariant d.requires.0 (mid d) (middle d).0
    (middle d).1 _ (answer k) c.in-Equal.is

loop-low-preserved : tie.Need-loop-low-preserved invariant-loop decreases-loop
loop-low-preserved c =
    let k = c.before in
    let d = k.before.before in
    goes_down _ _ _ _ _ d.loop-low.invariant d.requires.0 (mid d) (middle d).0
    (middle d).1 _ (answer k) c.in-Greater.is

returns : tie.Need-returns invariant-loop decreases-loop
returns c = not_found _ _ _ _ _ c.loop-low.invariant c.requires.0 c.loop-low-test.false

pub find_headed_spec : {M : Type 1} → statement M
find_headed_spec =
    tie.close (tie.spec invariant-loop decreases-loop head-h-requires loop-low-init (λ c. omega arith) (λ c. omega arith) (λ c. omega arith)
    (λ c. omega arith) overflow_cast-p overflow_add-p offset_bounds-heads-mid bounds-heads-mid compare_headed-requires (λ c. search rules)
    (λ c. omega arith) (λ c. omega arith) loop-low-preserved-in-Less (λ c. search rules) returns-in-Equal (λ c. search rules) (λ c. omega arith)
    loop-low-preserved returns)
