-- Bytes that are no store are refused, and of a store's images the table is judged.
use Rattle.std.proofs.Common.{sym, ap, ◌∙◌, arith}
use Rattle.policy_marks.specs.Words.{report_number}
use Rattle.policy.proofs.Judging.{refused_reports, reports_as, table_pairs, judge_past, judge_broken, read_pairs, judge_sound}
use Rattle.policy.proofs.judge.Goals as goal

pub returns-then-is_past : goal.returns-then-is_past
returns-then-is_past c =
    let r = c.refused.ensures in
    refused_reports (sym (judge_past c.args.store.now c.args.used _ c.if-is_past.true)) (λ z. omega arith) r.number_value r.buffer_unchanged

pub returns-in_default : goal.returns-in_default
returns-in_default c =
    let r = c.refused-in_default.ensures in
    refused_reports (sym (judge_broken _ _ c.if-is_past.false (λ k. omega (arith, c.type_inv.store k)) _ c.in_default.ensures)) (λ z. omega arith)
    r.number_value r.buffer_unchanged

pub returns : goal.returns
returns c =
    let h = c.if-is_past.false in
    let o = c.in-Some.ensures in
    let i = o.1.fills.images in
    let p = table_pairs c.table-table.result _ c.table-table.ensures.1 c.table-table.ensures.2 in
    reports_as (ap (report_number _) p ∙ judge_sound _ _ h (λ k. omega (arith, c.type_inv.store k)) _ o.0 _ i) (p ∙ read_pairs _ _ h _ i)
    c.judge_table.ensures
