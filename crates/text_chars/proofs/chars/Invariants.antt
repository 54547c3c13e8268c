-- What is measured at `at` is `refused` and `size` added to what is measured at `i`, and the canonical form of what was passed is no
-- longer than it is.
use Rattle.std.proofs.Common.{◌≡◌, ◌+◌, ◌-◌, ◌≤◌, length, drop}
use Rattle.text_json.specs.Read.{read_chars, char}
use Rattle.text_chars.specs.Measure.{measure, add}
use Rattle.text_chars.proofs.chars.Given as goal

abbrev pub invariant-loop-i : goal.invariant-loop-i
invariant-loop-i l =
    record {
      past : l.fn.at ≤ l.i;
      inside : l.i ≤ length l.s;
      fits : l.fn.at + l.size ≤ l.i;
      measured : measure (read_chars char (drop l.fn.at l.s)) ≡ add l.refused l.size (measure (read_chars char (drop l.i l.s)));
    }

abbrev pub decreases-loop-i : goal.decreases-loop-i
decreases-loop-i l = length l.s - l.i
