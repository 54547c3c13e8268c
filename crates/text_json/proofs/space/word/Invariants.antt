-- Reading `w` at `at` goes on as reading what is left of it at `i`.
use Rattle.std.proofs.Common.{◌≡◌, ◌≤◌, length, drop}
use Rattle.text_json.specs.Read.{read_word}
use Rattle.text_json.proofs.space.word.Given as goal

abbrev pub invariant-loop-b : goal.invariant-loop-b
invariant-loop-b l =
    record {
      past : l.fn.at ≤ l.i;
      inside : l.i ≤ length l.s;
      same : read_word l.w (drop l.fn.at l.s) ≡ read_word (drop l.b-index l.w) (drop l.i l.s);
    }
