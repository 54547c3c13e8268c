-- `text_view::value::peek_item` meets its contract: spaces, and the end mark or an item. Assumes nothing.
use borrow.Author.Rules.{rules}
use Prim.Native.Nat.{ℕ}
use mathlib.Core.Path.{◌≡◌, sym, ◌∙◌}
use mathlib.Core.List.{List}
use native.Mathlib.Omega.{arith}
use lib.ListN.{get_or}
use Rattle.text_view.specs.Listed.{Tree, end_mark, ListAt}
use Rattle.text_view.proofs.Items.{Started, started}
use Rattle.text_view.proofs.Steps.{list_within, started_within, some_item, peeks_end, peeks_item}
use Rattle.text_view.proofs.value.peek_item.Statement.{statement}
use Rattle.text_view.proofs.value.peek_item.Tie as tie

skip_spaces-first-requires : tie.Need-skip_spaces-first-requires
skip_spaces-first-requires c κs =
    let a = c.before in
    let p = a.requires in
    omega (arith, list_within a.args.s.now a.args.at a.args.depth a.args.object p.trees p.rest p.here)

-- what stands at the first byte after spaces
start : (c : tie.After-skip_spaces-first) → let a = c.args in
    (ts : List (Tree a.object)) (r : List ℕ) → ListAt a.s.now a.at a.depth a.object ts r
    → Started a.s.now c.skip_spaces-first.result a.depth a.object ts r
start c ts r h = started _ _ _ _ c.args.at ts r c.skip_spaces-first.ensures.1.1 h

-- an item stands there where the end mark does not
no_mark : (c : tie.Else-s-first) → let d = c.before.before.before in
    get_or d.args.s.now d.skip_spaces-first.result 0 ≡ end_mark d.args.object → ⊥
no_mark c e = c.if-s-first.false (e ∙ sym c.end_mark.ensures)

bounds-s-first : tie.Need-bounds-s-first
bounds-s-first c = let p = c.requires in started_within _ _ _ _ p.trees p.rest (start c.before _ _ p.here)

returns-then-s-first : tie.Need-returns-then-s-first
returns-then-s-first c =
    let d = c.before.before.before in
    λ ts r h. peeks_end _ _ _ _ _ ts r (c.if-s-first.true ∙ c.end_mark.ensures) (start d ts r h)

item_value-value-requires : tie.Need-item_value-value-requires
item_value-value-requires c κs =
    let d = c.before.before.before in
    let p = d.requires in
    some_item _ _ _ _ (no_mark c) p.trees p.rest (start d _ _ p.here)

returns : tie.Need-returns
returns c =
    let e = c.before in
    let d = e.before.before.before in
    λ ts r h. peeks_item _ _ _ _ (no_mark e) _ c.item_value-value.ensures _ d.skip_spaces-first.ensures.0 d.skip_spaces-first.ensures.1.1 ts r (start d ts r h)

pub peek_item_spec : {M : Type 1} → statement M
peek_item_spec =
    tie.close (tie.spec skip_spaces-first-requires bounds-s-first (λ c κs. search rules) returns-then-s-first item_value-value-requires returns)
