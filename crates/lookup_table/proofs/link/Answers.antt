use mathlib.Core.Path.{sym, ◌∙◌}
use native.Mathlib.Omega.{arith}
use Prim.Native.Nat.{◌<◌}
use lib.ListN.{length, get_or}
use Rattle.manifest_objects.proofs.Standing.{stand_at, some_stands}
use Rattle.lookup_table.proofs.Linking.{relinked_none, relinked_set, relinked_kept}
use Rattle.lookup_table.proofs.link.Goals as goal
use Rattle.lookup_table.proofs.link.Goals.{then-is_alias_of, else-is_alias_of}

pub loop-i-init : goal.loop-i-init
loop-i-init c = λ refs s. relinked_none _ _ refs _ _

pub is_alias_of-requires : goal.is_alias_of-requires
is_alias_of-requires c = some_stands c.requires.0.stand _ (c.requires.1 c.loop-i.i c.loop-i-test.true)

pub loop-i-preserved : goal.loop-i-preserved
loop-i-preserved c = λ refs s.
    let l = c.loop-i in
    let p = l.invariant refs s in
    let within = c.requires.1 l.i c.loop-i-test.true in
    let h = stand_at s _ within in
    let space : get_or c.args.chosen.now l.i 0 < length l.next = omega (arith, within, c.requires.2, l.auto.next) in
    elim c.if-is_alias_of.branch [
      | then-is_alias_of w ↦ rw w.next-is (relinked_set _ _ refs _ _ _ l.i c.loop-i-test.true l.next p space (sym (c.is_alias_of.ensures _ h) ∙ w.if-is_alias_of.true))
      | else-is_alias_of w ↦ rw w.next-is (relinked_kept _ _ refs _ _ _ l.i c.loop-i-test.true l.next p (sym (c.is_alias_of.ensures _ h) ∙ w.if-is_alias_of.false))
    ]
