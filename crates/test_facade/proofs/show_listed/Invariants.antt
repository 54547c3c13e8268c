-- The number is that of the layers, or of the signals.
use Rattle.std.proofs.Common.{◌≡◌, true, false, length}
use Rattle.manifest.specs.Manifest.{layers as layers_of, signals}
use Rattle.test_facade.proofs.show_listed.Given as goal

abbrev pub invariant-loop-i : goal.invariant-loop-i
invariant-loop-i l = (l.layers ≡ true → l.n ≡ length (layers_of l.s)) × (l.layers ≡ false → l.n ≡ length (signals l.s))
