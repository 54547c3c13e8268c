-- `report_text::divide` meets its contract. Assumes nothing.
use native.Mathlib.Omega.{arith}
use borrow.Author.Rules.{rules}
use Rattle.report_text.proofs.Marks.{first_before}
use Rattle.report_text.proofs.Dividing.{id_taken, manifest_left}
use Rattle.report_text.proofs.divide.Statement.{statement}
use Rattle.report_text.proofs.divide.Tie as tie

returns : tie.Need-returns
returns c =
    let line = c.args.line.now in
    let f = c.find-end in
    let p = c.past-start in
    record {
      end_within = f.ensures.within;
      start_within = omega (arith, p.ensures);
      id = id_taken line f.result (first_before f.ensures);
      manifest = manifest_left line f.result (first_before f.ensures) p.result p.ensures;
    }

pub divide_spec : {M : Type 1} → statement M
divide_spec =
    tie.close (tie.spec (λ c κs. search rules) (λ c κs. search rules) returns)
