use mathlib.Core.Path.{sym, ◌∙◌}
use native.Mathlib.Omega.{arith}
use Rattle.text_strings.proofs.Cursors.{inside_within}
use Rattle.manifest_fields.specs.Accessors.{texts}
use Rattle.manifest_heads.proofs.Any.{any_under}
use Rattle.manifest_names.specs.Asked.{passes}
use Rattle.manifest_names.proofs.Walking.{texts_started, some_elements, not_in_texts, text_inside, in_texts, texts_go_on}
use Rattle.manifest_names.proofs.asked.any_listed.Goals as goal

pub loop-p-init : goal.loop-p-init
loop-p-init c = texts_started _ _ _ _ c.requires.3 _ c.new-left.ensures.elements_left

pub next-requires : goal.next-requires
next-requires c = some_elements _ _ _ _ _ c.loop-p.invariant

pub overflow_add-p : goal.overflow_add-p
overflow_add-p c =
    let p = c.loop-p.invariant in
    omega (arith, inside_within _ _ (text_inside _ _ _ _ _ p _ _ (c.in-Some.ensures p.others p.here)))

pub passes-requires : goal.passes-requires
passes-requires c =
    let p = c.loop-p.invariant in
    (c.requires.0, c.requires.1, text_inside _ _ _ _ _ p _ _ (c.in-Some.ensures p.others p.here), c.requires.2)

pub returns-then-passes : goal.returns-then-passes
returns-then-passes c =
    let p = c.loop-p.invariant in
    λ i vs v. in_texts _ _ _ _ _ p _ _ (c.in-Some.ensures p.others p.here) _ c.passes.ensures c.if-passes.true i vs v
    ∙ sym (any_under (passes _ _ _ _ i) _ (texts vs))

pub loop-p-smaller : goal.loop-p-smaller
loop-p-smaller c =
    let p = c.loop-p.invariant in
    let x = c.in-Some.ensures p.others p.here in
    omega (arith, x.later, x.within)

pub loop-p-preserved : goal.loop-p-preserved
loop-p-preserved c =
    let p = c.loop-p.invariant in
    texts_go_on _ _ _ _ _ p _ _ (c.in-Some.ensures p.others p.here) _ c.passes.ensures c.if-passes.false

pub returns : goal.returns
returns c =
    let p = c.loop-p.invariant in
    λ i vs v. not_in_texts _ _ _ _ _ p (c.in_default.ensures p.others p.here) i vs v ∙ sym (any_under (passes _ _ _ _ i) _ (texts vs))
