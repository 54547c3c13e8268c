use Rattle.std.proofs.Common.{◌≡◌, ◌+◌, true}
use Rattle.text_utf8.specs.Char.{Ascii}
use Rattle.text_utf8.proofs.ascii_block.Given as goal

abbrev pub invariant-loop-n : goal.invariant-loop-n
invariant-loop-n l = l.all ≡ true → Ascii l.text l.at (l.at + l.n)
