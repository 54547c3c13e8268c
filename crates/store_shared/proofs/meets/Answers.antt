use Rattle.std.proofs.Common.{sym, ap, ◌∙◌, ℕ, Bool, ◌||◌, eqb, get_or, drop, take, ◌-◌, ◌+◌}
use Rattle.std.proofs.lemmas.List.{at_drop_more, at_drop_all}
use borrow.Author.Tests.{eq-eqb, ne_eqb}
use Rattle.laws.specs.Any.{any_of}
use Rattle.store_names.specs.Shared.{group_of}
use Rattle.store_shared.proofs.meets.Goals as goal

pub returns-then-g-groups : goal.returns-then-g-groups
unfolding any_of group_of
returns-then-g-groups c =
    let a = c.args in
    let p = λ (e : ℕ). eqb (group_of a.groups.now (get_or a.order.now a.m 0)) (group_of a.groups.now e) in
    let places = take (a.m - a.start) (drop a.start a.order.now) in
    let rest = any_of p (drop (c.loop-f.f-index + 1) places) in
    sym (at_drop_more (any_of p) places c.loop-f.f-index 0 c.loop-f-test.true ∙ ap (λ (x : Bool). x || rest) (eq-eqb _ _ c.if-g-groups.true))
    ∙ c.loop-f.invariant

pub loop-f-preserved : goal.loop-f-preserved
unfolding any_of group_of
loop-f-preserved c =
    let a = c.args in
    let p = λ (e : ℕ). eqb (group_of a.groups.now (get_or a.order.now a.m 0)) (group_of a.groups.now e) in
    let places = take (a.m - a.start) (drop a.start a.order.now) in
    let rest = any_of p (drop (c.loop-f.f-index + 1) places) in
    sym (at_drop_more (any_of p) places c.loop-f.f-index 0 c.loop-f-test.true ∙ ap (λ (x : Bool). x || rest) (ne_eqb _ _ c.if-g-groups.false))
    ∙ c.loop-f.invariant

pub returns : goal.returns
unfolding any_of
returns c =
    let a = c.args in
    let p = λ (e : ℕ). eqb (group_of a.groups.now (get_or a.order.now a.m 0)) (group_of a.groups.now e) in
    let places = take (a.m - a.start) (drop a.start a.order.now) in
    sym (at_drop_all (any_of p) places c.loop-f.f-index c.loop-f-test.false) ∙ c.loop-f.invariant
