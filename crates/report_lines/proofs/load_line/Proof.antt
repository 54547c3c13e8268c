-- `report_lines::load_line` meets its contract. Assumes nothing.
use Prim.Native.Nat.{ℕ, ◌-◌}
use mathlib.Core.Path.{◌≡◌, sym, ◌∙◌}
use mathlib.Core.List.{List}
use lib.ListN.{length}
use lib.Seq.{length-take-le}
use borrow.Rule.Slice.PartMut.{mid_of}
use Rattle.report_text.specs.Lines.{manifest_part}
use Rattle.laws.proofs.Writing.{mid_drop}
use Rattle.report_lines.proofs.Loading.{long_answer, loaded_answer, refused_answer}
use borrow.Author.Rules.{rules}
use Rattle.report_lines.proofs.load_line.Statement.{statement}
use Rattle.report_lines.proofs.load_line.Tie as tie

returns-then-line-gt-MOST_LINE : tie.Need-returns-then-line-gt-MOST_LINE
returns-then-line-gt-MOST_LINE c =
    let a = c.args in
    long_answer a.line.now a.store.now a.used c.if-line-gt-MOST_LINE.true

slice_bounds-load-end : tie.Need-slice_bounds-load-end
slice_bounds-load-end c =
    let a = c.args in
    sym (length-take-le c.divide-divided.result.end a.line.now c.divide-divided.ensures.end_within)

slice_bounds-load-count : tie.Need-slice_bounds-load-count
slice_bounds-load-count c = let d = c.divide-divided.ensures in search (rules, d.start_within)

slice_bounds-load-start : tie.Need-slice_bounds-load-start
slice_bounds-load-start c = let d = c.divide-divided.ensures in search (rules, d.start_within)

-- what was divided, when it is loaded: the line, and the part of it that is the manifest
abbrev divided : tie.After-load-answer → tie.After-divide-divided
divided l = l.before.before.before

abbrev line : tie.After-load-answer → List ℕ
line l = (divided l).args.line.now

abbrev from : tie.After-load-answer → ℕ
from l = (divided l).divide-divided.result.start

manifest : (l : tie.After-load-answer) → mid_of (from l) (length (line l) - from l) (line l) ≡ manifest_part (line l)
manifest l = mid_drop (from l) (line l) ∙ (divided l).divide-divided.ensures.manifest

returns-then-answer-eq0 : tie.Need-returns-then-answer-eq0
returns-then-answer-eq0 c =
    let l = c.before.before.before.before in
    let d = divided l in
    loaded_answer _ _ _ d.divide-divided.ensures.id (manifest l) d.if-line-gt-MOST_LINE.false _ _ _ l.load-answer.ensures.0 c.if-answer-eq0.true l.load-answer.ensures.1.0
    l.load-answer.ensures.1.1.0

returns-else-answer-eq0 : tie.Need-returns-else-answer-eq0
returns-else-answer-eq0 c =
    let l = c.before.before.before.before in
    let d = divided l in
    refused_answer _ _ _ d.divide-divided.ensures.id (manifest l) d.if-line-gt-MOST_LINE.false _ _ l.load-answer.ensures.0 c.if-answer-eq0.false l.load-answer.ensures.1.1.0

pub load_line_spec : {M : Type 1} → statement M
load_line_spec =
    tie.close (tie.spec returns-then-line-gt-MOST_LINE (λ c κs. search rules) slice_bounds-load-end slice_bounds-load-count slice_bounds-load-start
    (λ c. search rules) (λ c κs. search rules) (λ c. search rules) returns-then-answer-eq0 (λ c. search rules) returns-else-answer-eq0)
