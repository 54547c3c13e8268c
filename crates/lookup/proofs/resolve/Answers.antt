-- Bytes that are no store, that are no layer list and a place without an image are refused, and else the layers of the image are resolved.
use Rattle.std.proofs.Common.{sym, ◌∙◌, arith, length, take, ◌≤◌}
use Rattle.store_record.proofs.Walks.{images_length}
use Rattle.lookup_answer.proofs.Answering.{failure_bounds, refused_resolves, resolves_as}
use Rattle.lookup.proofs.Numbers.{some_list, unbroken_apart, number_past, number_broken, number_unlisted, number_missing, outcome_held, number_layers}
use Rattle.lookup.proofs.resolve.Goals as goal

pub returns-then-store-used : goal.returns-then-store-used
returns-then-store-used c =
    let r = c.refused.ensures in
    refused_resolves (number_past _ _ _ _ _ c.if-store-used.true) (λ z. omega arith) (λ f z. omega (arith, failure_bounds f)) r.number_value
    r.buffer_unchanged

pub returns-in_default : goal.returns-in_default
returns-in_default c =
    let r = c.refused-in_default.ensures in
    refused_resolves (number_broken _ _ _ _ _ c.if-store-used.false (λ k. omega (arith, c.type_inv.store k)) c.in_default.ensures) (λ z. omega arith)
    (λ f z. omega (arith, failure_bounds f)) r.number_value r.buffer_unchanged

pub returns-then-not-is_list : goal.returns-then-not-is_list
returns-then-not-is_list c =
    let r = c.refused-then-not-is_list.ensures in
    let n = sym c.is_list.ensures ∙ c.if-not-is_list.true in
    refused_resolves (number_unlisted _ _ _ _ _ c.if-store-used.false (λ k. omega (arith, c.type_inv.store k)) c.in-Some.ensures.0 n) (λ z. omega arith)
    (λ f z. omega (arith, failure_bounds f)) r.number_value r.buffer_unchanged

pub returns-then-image-survey : goal.returns-then-image-survey
returns-then-image-survey c =
    let o = c.in-Some.ensures in
    let v = c.in-Some.opened.survey in
    let r = c.refused-then-image-survey.ensures in
    let fits : v.count ≤ length v.records = omega (arith, o.1.fills.few) in
    let count = images_length (take c.args.used c.args.store.now) v fits in
    refused_resolves
    (number_missing _ _ _ _ _ c.if-store-used.false (λ k. omega (arith, c.type_inv.store k)) o.0 (sym c.is_list.ensures ∙ c.if-not-is_list.false) _
    o.1.fills.images (omega (arith, count, c.if-image-survey.true)))
    (λ z. omega arith) (λ f z. omega (arith, failure_bounds f)) r.number_value r.buffer_unchanged

pub resolve_in-requires : goal.resolve_in-requires
resolve_in-requires c =
    let o = c.in-Some.ensures in
    let n = c.open_store.auto in
    record {
      opened = o.1;
      apart = unbroken_apart _ _ _ o.1.fills.images o.0;
      within = c.if-image-survey.false;
      list = some_list _ (sym c.is_list.ensures ∙ c.if-not-is_list.false);
      at_space = n.at;
      order_space = n.order;
      names_space = omega (arith, n.names);
      owners_space = omega (arith, n.keys);
    }

pub returns : goal.returns
returns c =
    let o = c.in-Some.ensures in
    let v = c.in-Some.opened.survey in
    let i = o.1.fills.images in
    let fits : v.count ≤ length v.records = omega (arith, o.1.fills.few) in
    let count = images_length (take c.args.used c.args.store.now) v fits in
    resolves_as
    (number_layers _ _ _ _ _ c.if-store-used.false (λ k. omega (arith, c.type_inv.store k)) o.0 (sym c.is_list.ensures ∙ c.if-not-is_list.false) _ i
    (omega (arith, count, c.if-image-survey.false)))
    (outcome_held _ _ c.if-store-used.false _ i _ _) c.resolve_in.ensures
