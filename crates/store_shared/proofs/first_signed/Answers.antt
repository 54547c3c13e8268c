use Rattle.std.proofs.Common.{sym, ◌∙◌, arith}
use Rattle.store_names.specs.Shared.{signed_as}
use Rattle.store_shared.proofs.Groups.{none_passed, one_passed}
use Rattle.store_shared.proofs.first_signed.Goals as goal

pub loop-j-init : goal.loop-j-init
loop-j-init c = none_passed c.args.b.now c.args.v c.args.a c.args.signer.now

pub bounds-v-j : goal.bounds-v-j
bounds-v-j c = omega (arith, c.requires.0.few)

pub is_signed_by-requires : goal.is_signed_by-requires
is_signed_by-requires c = c.requires.0.each c.loop-j.j (omega arith)

pub returns-then-is_signed_by : goal.returns-then-is_signed_by
unfolding signed_as
returns-then-is_signed_by c =
    record { within = omega arith; before = c.loop-j.invariant; here = λ h. sym c.is_signed_by.ensures ∙ c.if-is_signed_by.true }

pub loop-j-preserved : goal.loop-j-preserved
unfolding signed_as
loop-j-preserved c =
    one_passed c.args.b.now c.args.v c.args.a c.args.signer.now c.loop-j.j c.loop-j.invariant (sym c.is_signed_by.ensures ∙ c.if-is_signed_by.false)

pub returns : goal.returns
returns c =
    record { within = omega arith; before = λ j h. c.loop-j.invariant j (omega (arith, c.loop-j-test.false)); here = λ h. absurd (omega arith) }
