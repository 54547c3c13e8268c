use Rattle.std.proofs.Common.{◌≡◌, ◌+◌, drop}
use Rattle.text_strings.specs.InString.{Inside, content_from}
use Rattle.text_names.specs.Named.{holds_name}
use Rattle.text_names.proofs.name.holds_name.Given as goal

abbrev pub invariant-loop-k : goal.invariant-loop-k
invariant-loop-k l =
    record {
      inside : Inside l.s (l.i + l.k);
      same : holds_name l.whole (content_from l.s l.i) l.name ≡ holds_name l.whole (content_from l.s (l.i + l.k)) (drop l.k l.name);
    }
