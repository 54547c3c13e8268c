-- A byte more is tested with each step. Assumes nothing.
use Prim.Native.Nat.{◌+◌, ◌-◌}
use mathlib.Core.Path.{◌≡◌, refl}
use native.Mathlib.Omega.{arith}
use lib.ListN.{take, drop}
use Rattle.text_json.specs.Bytes.{between}
use Rattle.text_chars.specs.Measure.{every}
use Rattle.text_chars.proofs.Plain.{every_next}
use Rattle.reference_parts.specs.Hex.{is_lower_hex}
use Rattle.reference_parts.proofs.part.all_hex.Goals as goal

pub loop-b-init : goal.loop-b-init
unfolding every
loop-b-init c = refl

pub loop-b-preserved : goal.loop-b-preserved
unfolding is_lower_hex between
loop-b-preserved c =
    let e : 0 + c.loop-b.b-index ≡ c.loop-b.b-index = omega arith in
    rw e at (every_next is_lower_hex (take (c.args.at + c.args.count - c.args.at) (drop c.args.at c.args.s.now)) 0 c.loop-b.b-index
    c.loop-b.all (omega arith) c.loop-b.invariant)
