-- What follows the white space at `at` is what follows it at `i`.
use Rattle.std.proofs.Common.{◌≡◌, drop}
use Rattle.text_json.specs.Read.{spaces}
use Rattle.text_json.proofs.space.skip_spaces.Given as goal

abbrev pub invariant-loop-i : goal.invariant-loop-i
invariant-loop-i l = spaces (drop l.fn.at l.s) ≡ spaces (drop l.i l.s)
