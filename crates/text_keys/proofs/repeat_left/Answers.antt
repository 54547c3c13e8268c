use Rattle.std.proofs.Common.{arith, ◌≡◌, ◌+◌, ◌-◌, drop}
use mathlib.Core.Path.{ap}
use native.Mathlib.Nat.{zero-max}
use lib.ListN.{length-drop}
use Rattle.text_keys.proofs.Keys.{keys_get}
use Rattle.text_keys.proofs.Repeats.{next_left, next_step, next_short, next_sort}
use Rattle.text_keys.proofs.repeat_left.Goals as goal

pub loop-i-init : goal.loop-i-init
loop-i-init c = zero-max _

pub check_pair-requires : goal.check_pair-requires
check_pair-requires c = (keys_get c.requires _ (omega arith), keys_get c.requires _ c.loop-i-test.true)

pub loop-i-preserved : goal.loop-i-preserved
loop-i-preserved c =
    let l = c.loop-i in
    let back : l.i - 1 + 1 ≡ l.i = omega arith in
    let same : l.i + 1 - 1 ≡ l.i = omega arith in
    rw same (rw back at (next_step c.args.s.now c.args.keys.now (l.i - 1) l.most _ _ (omega arith) c.max-most.ensures (rw back c.check_pair.ensures.0) l.invariant))

pub returns : goal.returns
returns c = λ ks e.
    let l = c.loop-i in
    let s = c.args.s.now in
    let rest = drop (l.i - 1) c.args.keys.now in
    omega (arith, next_short s rest (rw length-drop (omega arith)), ap (next_left s) e, next_sort s ks, l.invariant)
