use Rattle.std.proofs.Common.{◌≡◌, ℕ, List, ◌∙◌, ap, arith, ◌+◌, ◌-◌, ◌++◌, take, drop}
use Rattle.std.proofs.lemmas.List.{take-take, length-take, length-drop}
use Rattle.std.proofs.lemmas.Slice.{put_mid-paste}
use Rattle.report_text.proofs.Marks.{first_before}
use Rattle.report_text.proofs.Taking.{takes_copy}
use Rattle.report_text.proofs.take_part.Goals as goal

pub returns : goal.returns
returns c =
    let kept = c.args.kept.now in
    let size = c.args.size in
    let rest = drop c.args.at c.args.part.now in
    let n = c.min-n.result in
    let f = c.find-end.ensures in
    let k : c.args.at + n - c.args.at ≡ n = omega arith in
    let copied = put_mid-paste size (size + n - size) kept _ (take n rest) n (c.copy_from_slice.ensures.after ∙ ap (λ (i : ℕ). take i rest) k) (omega arith)
    (omega (arith, c.min-n.ensures, f.within, length-take n rest, length-drop c.args.at c.args.part.now)) in
    takes_copy kept size c.args.part.now c.args.at c.requires.0 c.requires.1 c.find-end.result n c.past-next.result _ (first_before f) c.min-n.ensures
    c.past-next.ensures (copied ∙ ap (λ (r : List ℕ). (take size kept ++ r) ++ drop (size + n) kept) (take-take n n rest (omega arith)))
