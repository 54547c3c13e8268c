use Rattle.std.proofs.Common.{arith}
use mathlib.Core.Path.{sym, ◌∙◌}
use Rattle.text.proofs.Outcome.{refused_positive, refused_number, refused_length, refused_bytes}
use Rattle.text.proofs.Outcome.{accepted_number, accepted_length, too_small, done_number, done_length, done_bytes}
use Rattle.text.proofs.Places.{refused_place, accepted_place}
use Rattle.text.proofs.canonical_with.Goals as goal

pub returns-then-out-accepted : goal.returns-then-out-accepted
returns-then-out-accepted c =
    let s = c.args.text.now in
    let out = c.args.out.now in
    let e = sym c.check_with-known.ensures.answer_value ∙ c.in-Ok.is in
    let r = c.refused_at-then-out-accepted.ensures in
    let n = too_small s out _ _ e c.if-out-accepted.true in
    record {
      number_value = r.number_value.0 ∙ n;
      value_value = r.number_value.1 ∙ refused_length s out 20 (omega arith) n;
      out_after = r.buffer_unchanged ∙ refused_bytes s out 20 (omega arith) n;
      place_value = r.number_value.2 ∙ accepted_place s _ _ e;
    }

pub write_form-requires : goal.write_form-requires
write_form-requires c =
    let s = c.args.text.now in
    let out = c.args.out.now in
    let g = c.in-Ok.is in
    let e = sym c.check_with-known.ensures.answer_value ∙ g in
    let l = c.check_with-known.auto in
    let space = c.requires in
    let keys = c.check_with-known.ensures.root_keys in
    record {
      taken = accepted_number s out _ _ e;
      fits = omega (arith, accepted_length s _ _ e, c.if-out-accepted.false);
      space = record { enough = omega (arith, l.keys, space.enough); sorting = omega (arith, l.keys, l.spare, space.sorting) };
      sorted = (rw g at keys).1;
    }

pub returns-in-Err : goal.returns-in-Err
returns-in-Err c =
    let s = c.args.text.now in
    let out = c.args.out.now in
    let e = sym c.check_with-known.ensures.answer_value ∙ c.in-Err.is in
    let r = c.refused_at.ensures in
    let n = c.number.ensures ∙ refused_number s out c.in-Err.fault e in
    let h = refused_positive c.in-Err.fault _ c.number.ensures in
    let p = c.place.ensures ∙ refused_place s c.in-Err.fault e in
    record {
      number_value = r.number_value.0 ∙ n;
      value_value = r.number_value.1 ∙ refused_length s out _ h n;
      out_after = r.buffer_unchanged ∙ refused_bytes s out _ h n;
      place_value = r.number_value.2 ∙ p;
    }

pub returns-else-out-accepted : goal.returns-else-out-accepted
returns-else-out-accepted c =
    let s = c.args.text.now in
    let out = c.args.out.now in
    let e = sym c.check_with-known.ensures.answer_value ∙ c.in-Ok.is in
    let h = c.if-out-accepted.false in
    let r = c.write_form.ensures in
    record {
      number_value = r.number_value.0 ∙ done_number s out _ _ e h;
      value_value = r.number_value.1 ∙ done_length s out _ _ e h;
      out_after = r.out_after ∙ done_bytes s out _ _ e h;
      place_value = r.number_value.2 ∙ accepted_place s _ _ e;
    }
