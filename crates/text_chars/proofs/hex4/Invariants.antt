-- What is read at `at` is what is left to read at i, of the digits that make up a whole escape.
use Rattle.std.proofs.Common.{◌≡◌, ◌+◌, ◌-◌, ◌≤◌, ◌<◌, length, drop}
use Rattle.text_json.specs.Read.{read_chars, hex}
use Rattle.text_chars.proofs.Digits.{digits_left, bound}
use Rattle.text_chars.proofs.hex4.Given as goal

abbrev pub invariant-loop-i : goal.invariant-loop-i
invariant-loop-i l =
    record {
      inside : l.i ≤ length l.s;
      small : l.n < bound (l.fn.at + 4 - l.i);
      same : read_chars (hex 3 0) (drop l.fn.at l.s) ≡ digits_left (l.fn.at + 4 - l.i) l.n (drop l.i l.s);
    }
