-- `text_index::find` meets its contract. The loop's invariant: the strings before what is left come before the content, and those behind it come after
-- it. The measure is how much is left. Assumes nothing.
use borrow.Author.Rules.{rules}
use Prim.Native.Nat.{ℕ, ◌+◌, ◌-◌, ◌<◌, ◌≤◌, ◌/◌}
use mathlib.Core.Path.{◌≡◌, refl}
use mathlib.Core.List.{List}
use mathlib.Core.Bool.{Bool, true, false}
use native.Mathlib.Omega.{arith}
use lib.ListN.{get_or}
use Rattle.text_order.specs.Compare.{order}
use Rattle.text_strings.specs.InString.{content_from}
use Rattle.text_strings.proofs.Contents.{inside_content}
use Rattle.text_index.specs.Index.{entry_text, comes_before, Entry, Counted}
use Rattle.text_index.proofs.Finding.{found}
use Rattle.text_index.proofs.Searching.{count_started, none_counted, mid_entry, goes_up, goes_down, is_before_less, is_before_equal, is_before_greater}
use Rattle.text_index.proofs.find.Statement.{statement}
use Rattle.text_index.proofs.find.Tie as tie

abbrev invariant-loop : tie.invariant-loop-low
invariant-loop b at order t q low₀ high₀ low high = Counted b at order false true (content_from t q) low high

abbrev decreases-loop : tie.decreases-loop-low
decreases-loop b at order t q low₀ high₀ low high = high - low

loop-low-init : tie.Need-loop-low-init invariant-loop decreases-loop
loop-low-init c = count_started _ _ _ _ _ _

-- a turn of the loop
module _ (d : tie.After-shared_slice_known-in-loop-low-1 invariant-loop decreases-loop) where
  abbrev start : tie.Start invariant-loop decreases-loop
  start = d.before.before.before.before.before.before.before

  -- the middle of what is left
  abbrev mid : ℕ
  mid = let l = d.loop-low in l.low + (l.high - l.low) / 2

  middle : (d.loop-low.low ≤ mid) × (mid < d.loop-low.high)
  middle = (omega arith, omega arith)

  -- the string that stands there
  entry : Entry start.args.b.now start.args.at.now (get_or start.args.order.now mid 0)
  entry = mid_entry _ _ _ _ _ _ _ _ d.loop-low.invariant start.requires.0 mid middle.0 middle.1

  -- its content, and the one that is looked for
  abbrev text : List ℕ
  text = entry_text start.args.b.now start.args.at.now (get_or start.args.order.now mid 0)

  abbrev sought : List ℕ
  sought = content_from start.args.t.now start.args.q

  -- it comes before that, and so does what stands before it
  up : (equal : Bool) → true ≡ comes_before equal text sought
      → Counted start.args.b.now start.args.at.now start.args.order.now equal true sought (mid + 1) d.loop-low.high
  up equal e = goes_up _ _ _ _ _ _ _ _ d.loop-low.invariant start.requires.0 mid middle.0 middle.1 equal e refl

  -- it does not, and neither does what stands behind it
  down : (equal : Bool) → false ≡ comes_before equal text sought
      → Counted start.args.b.now start.args.at.now start.args.order.now false equal sought d.loop-low.low mid
  down equal e = goes_down _ _ _ _ _ _ _ _ d.loop-low.invariant start.requires.0 mid middle.0 middle.1 equal e refl

overflow_cast-e : tie.Need-overflow_cast-e invariant-loop decreases-loop
overflow_cast-e c = omega (arith, c.shared_slice_known-in-loop-low-1.given (mid c))

offset_bounds-at-e : tie.Need-offset_bounds-at-e invariant-loop decreases-loop
offset_bounds-at-e c = omega (arith, c.shared_slice_known-in-loop-low-1.given (mid c))

bounds-at-e : tie.Need-bounds-at-e invariant-loop decreases-loop
bounds-at-e c = (entry c.before).within

compare-requires : tie.Need-compare-requires invariant-loop decreases-loop
compare-requires c κs = let d = c.before in ((entry d).inside, (start d).requires.1)

-- what comparing the middle gave
answer : (c : tie.After-compare invariant-loop decreases-loop) → c.compare.result ≡ order (text c.before.before) (sought c.before.before)
unfolding entry_text
answer c =
    let d = c.before.before in
    c.compare.ensures _ _ (inside_content _ _ (entry d).inside) (inside_content _ _ (start d).requires.1)

loop-low-preserved-in-Less : tie.Need-loop-low-preserved-in-Less invariant-loop decreases-loop
loop-low-preserved-in-Less c = let d = c.before in up d.before.before false (is_before_less _ _ false (answer d) c.in-Less.is)

loop-low-preserved : tie.Need-loop-low-preserved invariant-loop decreases-loop
loop-low-preserved c = let d = c.before in down d.before.before true (is_before_greater _ _ true (answer d) c.in-Greater.is)

count_between-from-requires : tie.Need-count_between-from-requires invariant-loop decreases-loop
count_between-from-requires c κs =
    let d = c.before in
    let t = d.before.before in
    ((start t).requires.0, (start t).requires.1, down t false (is_before_equal _ _ false (answer d) c.in-Equal.is))

count_between-to-requires : tie.Need-count_between-to-requires invariant-loop decreases-loop
count_between-to-requires c κs =
    let d = c.before.before in
    let t = d.before.before in
    ((start t).requires.0, (start t).requires.1, up t true (is_before_equal _ _ true (answer d) c.in-Equal.is))

returns-in-Equal : tie.Need-returns-in-Equal invariant-loop decreases-loop
returns-in-Equal c = found _ _ _ _ _ c.count_between-from.ensures c.count_between-to.ensures

returns : tie.Need-returns invariant-loop decreases-loop
returns c =
    let none = none_counted _ _ _ _ _ _ c.loop-low.invariant c.loop-low-test.false in found _ _ _ _ _ (none false) (none true)

pub find_spec : {M : Type 1} → statement M
find_spec =
    tie.close (tie.spec invariant-loop decreases-loop loop-low-init (λ c. omega arith) (λ c. omega arith) (λ c. omega arith) (λ c. omega arith) overflow_cast-e offset_bounds-at-e
    bounds-at-e compare-requires (λ c. search rules) (λ c. omega arith) (λ c. omega arith) loop-low-preserved-in-Less (λ c. search rules)
    (λ c. omega arith) loop-low-preserved (λ c. search rules) count_between-from-requires (λ c. omega arith) count_between-to-requires returns-in-Equal returns)
