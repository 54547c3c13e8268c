use Rattle.std.proofs.Common.{◌≡◌, ◌+◌, ◌<◌, length, drop}
use Rattle.text_json.specs.Read.{digits_of, after_digits}
use Rattle.text_json.specs.Content.{decimal_from}
use Rattle.text_numbers.specs.Parts.{Near}
use Rattle.text_numbers.proofs.digits.Given as goal

abbrev pub invariant-loop-i : goal.invariant-loop-i
invariant-loop-i l =
    record {
      small : l.n < 0x1000000000;
      rest : after_digits (drop l.at l.s) ≡ after_digits (drop l.i l.s);
      count : l.at + length (digits_of (drop l.at l.s)) ≡ l.i + length (digits_of (drop l.i l.s));
      value : Near (decimal_from l.n (digits_of (drop l.i l.s))) (decimal_from l.from (digits_of (drop l.at l.s)));
    }
