use Rattle.std.proofs.Common.{drop}
use Rattle.text_strings.specs.Cursor.{Left, ReadableCursor}
use Rattle.text_names.proofs.Names.{Follows}
use Rattle.text_names.proofs.name.holds_left.Given as goal

abbrev pub invariant-loop-k : goal.invariant-loop-k
invariant-loop-k l =
    record {
      readable : ReadableCursor l.s l.c;
      follows : Follows l.whole (Left l.s l.fn.from) (Left l.s l.c) (drop l.fn.at l.name) (drop l.k l.name);
    }
