use Rattle.std.proofs.Common.{arith, Ok, ◌+◌, ◌*◌, ◌≤◌, ◌<◌, ℕ, List, length, take, drop}
use Rattle.std.proofs.lemmas.Result.{err_from_is_err_and}
use mathlib.Core.Path.{refl, sym, ap, subst, subst₂, ◌∙◌}
use lib.Seq.{length-take-le}
use Rattle.text_keys.specs.Keys.{KeysAt}
use Rattle.text_json.specs.Read.{read}
use Rattle.text_tokens.specs.Summary.{plus}
use Rattle.text_tokens.specs.Scanned.{ScansValue}
use Rattle.text_json.specs.declared.Token.{Token}
use Rattle.text_tokens.specs.declared.Summary.{Summary}
use Rattle.text_tokens.specs.declared.ScannedValue.{ScannedValue}
use Rattle.text_tokens.proofs.Tokens.{scalar_string}
use Rattle.text_scan.specs.Scanned.{LeavesKeys, read_array, read_object}
use Rattle.text_scan.proofs.Arrays as arrays
use Rattle.text_scan.proofs.Objects as objects
use Rattle.text_scan.proofs.Keys.{closed_keys}
use Rattle.text_scan.proofs.Values.{is_an_array, is_an_object, is_scalar, at_bottom, at_the_end}
use Rattle.text_scan.proofs.Results.{IsValue, scans_value}
use Rattle.text_scan.proofs.+array_inner_object_value.Goals as goal
use Rattle.text_scan.proofs.+array_inner_object_value.Goals.{value-then-at-s+then-depth-gt0+else-b-eq91+else-b-eq123, value-then-at-s+else-depth-gt0, value-else-at-s}

-- the value that was read
element : (s : List ℕ) (depth i : ℕ) (v : ScannedValue) → ScansValue s (read depth (drop i s)) (Ok v) → IsValue s (read depth (drop i s)) v
element s depth i v h = scans_value s (read depth (drop i s)) v h

-- there is a place for one key more
free : (s keys : List ℕ) (at depth i n k : ℕ) (t : Token) (sum : Summary) → objects.ObjectScanned s at depth i (take n keys) sum → n ≤ length keys
    → objects.IsName s i t.end k t.size → length s < at + 4 * length keys → n < length keys
free s keys at depth i n k t sum p h q b =
    let f = objects.key_space p q (length keys) b in
    omega (arith, length-take-le n keys h, f)

pub array-returns-then-stands : goal.array-returns-then-stands
array-returns-then-stands t c =
    let a = c.args in
    let h = c.stands.ensures.0 c.if-stands.true in
    subst (ScansValue a.s.now (read_array a.depth (drop a.at a.s.now))) (sym c.plain.ensures)
    (arrays.empty a.s.now a.at a.depth _ c.skip_spaces-i.ensures h.0 h.1)

pub array-loop-v-init : goal.array-loop-v-init
array-loop-v-init t c =
    let a = c.args in
    record {
      scanned = arrays.start a.s.now a.at a.depth _ c.skip_spaces-i.ensures (c.stands.ensures.1 c.if-stands.false);
      same_keys = refl;
      same_spare = refl;
    }

pub array-returns-in_err-v : goal.array-returns-in_err-v
array-returns-in_err-v t c =
    let p = err_from_is_err_and c.from_residual.result c.from_residual.ensures.1 in
    rw (p.1, p.2) (arrays.stuck_element c.loop-v.invariant.scanned _ c.in_err-v.ensures)

pub array-added-sum-requires : goal.array-added-sum-requires
array-added-sum-requires t c =
    let s = c.args.s.now in
    let p = c.loop-v.invariant in
    let e = element s c.args.depth c.loop-v.i c.in_ok-v.v c.in_ok-v.ensures in
    omega (arith, arrays.fits p.scanned e, e.within, c.requires.short)

pub array-returns-in_err-end : goal.array-returns-in_err-end
array-returns-in_err-end t c =
    let s = c.args.s.now in
    let p = c.loop-v.invariant in
    let e = element s c.args.depth c.loop-v.i c.in_ok-v.v c.in_ok-v.ensures in
    let r = err_from_is_err_and c.from_residual-in_err-end.result c.from_residual-in_err-end.ensures.1 in
    rw (r.1, r.2) (arrays.sticks p.scanned e _ c.in_err-end.ensures)

pub array-returns-in-End : goal.array-returns-in-End
array-returns-in-End t c =
    let s = c.args.s.now in
    let p = c.loop-v.invariant in
    let e = element s c.args.depth c.loop-v.i c.in_ok-v.v c.in_ok-v.ensures in
    let after = c.in_ok-end.ensures in
    let x = read_array c.args.depth (drop c.args.at s) in
    subst (λ (y : Summary). ScansValue s x (Ok (record { end = c.in-End.end; count = 0; sum = y }))) (sym c.added-sum.ensures)
    (arrays.ends p.scanned e _ (rw c.in-End.is at after))

pub array-loop-v-smaller : goal.array-loop-v-smaller
array-loop-v-smaller t c =
    let s = c.args.s.now in
    let p = c.loop-v.invariant in
    let e = element s c.args.depth c.loop-v.i c.in_ok-v.v c.in_ok-v.ensures in
    let after = c.in_ok-end.ensures in
    let w = rw c.in-More.is at after in
    omega (arith, arrays.later p.scanned e, w.0, w.1)

pub array-loop-v-preserved : goal.array-loop-v-preserved
array-loop-v-preserved t c =
    let s = c.args.s.now in
    let p = c.loop-v.invariant in
    let e = element s c.args.depth c.loop-v.i c.in_ok-v.v c.in_ok-v.ensures in
    let after = c.in_ok-end.ensures in
    let w = rw c.in-More.is at after in
    record {
      scanned = subst (arrays.ArrayScanned s c.args.at c.args.depth _) (sym c.added-sum.ensures) (arrays.goes_on p.scanned e _ w);
      same_keys = c.inner.auto.keys ∙ p.same_keys;
      same_spare = c.inner.auto.spare ∙ p.same_spare;
    }

pub inner-returns-then-stands : goal.inner-returns-then-stands
inner-returns-then-stands t c =
    let a = c.args in
    let h = c.stands.ensures.0 c.if-stands.true in
    let p = scalar_string a.s.now a.at h.0 c.string.result h.1 c.string.ensures in
    is_scalar a.s.now a.at a.depth c.string.result p h.0 (λ e. omega arith) (λ e. omega arith)

pub object-returns-then-stands-clause-scans_value : goal.object-returns-then-stands-clause-scans_value
object-returns-then-stands-clause-scans_value t c =
    let a = c.args in
    let h = c.stands.ensures.0 c.if-stands.true in
    subst (ScansValue a.s.now (read_object a.depth (drop a.at a.s.now))) (sym c.plain.ensures)
    (objects.empty a.s.now a.at a.depth _ c.skip_spaces-i.ensures h.0 h.1)

pub object-returns-then-stands-clause-leaves_keys : goal.object-returns-then-stands-clause-leaves_keys
object-returns-then-stands-clause-leaves_keys t c =
    let a = c.args in
    let h = c.stands.ensures.0 c.if-stands.true in
    subst (LeavesKeys a.s.now (read_object a.depth (drop a.at a.s.now)) a.keys.now) (sym c.plain.ensures)
    (objects.empty_keys a.s.now a.at a.depth _ c.skip_spaces-i.ensures h.0 h.1 a.keys.now)

pub object-loop-token-init : goal.object-loop-token-init
object-loop-token-init t c =
    let a = c.args in
    record {
      scanned = objects.start a.s.now a.at a.depth _ c.skip_spaces-i.ensures (c.stands.ensures.1 c.if-stands.false);
      counted = omega arith;
      same_keys = refl;
      same_spare = refl;
    }

pub object-returns-in_err-token-clause-scans_value : goal.object-returns-in_err-token-clause-scans_value
object-returns-in_err-token-clause-scans_value t c =
    let p = err_from_is_err_and c.from_residual.result c.from_residual.ensures.1 in
    let k = c.in_err-token.ensures in
    rw (p.1, p.2) (objects.stuck_key c.loop-token.invariant.scanned _ k.1)

pub object-returns-in_err-v-clause-scans_value : goal.object-returns-in_err-v-clause-scans_value
object-returns-in_err-v-clause-scans_value t c =
    let s = c.args.s.now in
    let l = c.loop-token in
    let p = l.invariant in
    let k = c.in_ok-token.ensures in
    let name = objects.token_name s l.i c.mark.result c.in_ok-token.token k.0 k.1 c.mark.ensures in
    let r = err_from_is_err_and c.from_residual-in_err-v.result c.from_residual-in_err-v.ensures.1 in
    rw (r.1, r.2) (objects.stuck_value p.scanned name _ c.in_err-v.ensures)

pub object-member-requires : goal.object-member-requires
object-member-requires t c =
    let s = c.args.s.now in
    let l = c.loop-token in
    let p = l.invariant in
    let k = c.in_ok-token.ensures in
    let name = objects.token_name s l.i c.mark.result c.in_ok-token.token k.0 k.1 c.mark.ensures in
    let v = element s c.args.depth c.in_ok-token.token.end c.in_ok-v.v c.in_ok-v.ensures in
    omega (arith, objects.fits p.scanned name v, v.within, c.requires.scan_space.short)

pub object-added-sum-requires : goal.object-added-sum-requires
object-added-sum-requires t c =
    let s = c.args.s.now in
    let l = c.loop-token in
    let p = l.invariant in
    let k = c.in_ok-token.ensures in
    let name = objects.token_name s l.i c.mark.result c.in_ok-token.token k.0 k.1 c.mark.ensures in
    let v = element s c.args.depth c.in_ok-token.token.end c.in_ok-v.v c.in_ok-v.ensures in
    let n = objects.member_size _ _ _ _ c.member.ensures in
    omega (arith, n, objects.fits p.scanned name v, v.within, c.requires.scan_space.short)

pub object-returns-in_err-end-clause-scans_value : goal.object-returns-in_err-end-clause-scans_value
object-returns-in_err-end-clause-scans_value t c =
    let s = c.args.s.now in
    let l = c.loop-token in
    let p = l.invariant in
    let k = c.in_ok-token.ensures in
    let name = objects.token_name s l.i c.mark.result c.in_ok-token.token k.0 k.1 c.mark.ensures in
    let v = element s c.args.depth c.in_ok-token.token.end c.in_ok-v.v c.in_ok-v.ensures in
    let r = err_from_is_err_and c.from_residual-in_err-end.result c.from_residual-in_err-end.ensures.1 in
    rw (r.1, r.2) (objects.sticks p.scanned name v _ c.in_err-end.ensures)

pub object-closed-requires : goal.object-closed-requires
object-closed-requires t c =
    let s = c.args.s.now in
    let l = c.loop-token in
    let p = l.invariant in
    let k = c.in_ok-token.ensures in
    let name = objects.token_name s l.i c.mark.result c.in_ok-token.token k.0 k.1 c.mark.ensures in
    let place = free s l.keys c.args.at c.args.depth l.i l.n c.mark.result c.in_ok-token.token l.sum p.scanned p.counted name
    (omega (arith, c.requires.s_len_bound, p.same_keys)) in
    let stored = objects.stored_keys l.keys l.n l.i place c.inner.new.keys c.inner.auto.keys in
    let kept = objects.stored_length l.keys l.n l.i place c.inner.new.keys c.inner.auto.keys in
    let count = length-take-le (l.n + 1) (objects.with_key l.keys l.n l.i c.inner.new.keys) (omega (arith, kept, place)) in (
      subst (KeysAt s) (sym stored) (objects.keys_now p.scanned name),
      omega (arith, count, place, c.inner.auto.spare, p.same_spare, p.same_keys, c.requires.scan_space.sorting),
    )

pub object-returns-in-End-clause-scans_value : goal.object-returns-in-End-clause-scans_value
object-returns-in-End-clause-scans_value t c =
    let s = c.args.s.now in
    let l = c.loop-token in
    let p = l.invariant in
    let k = c.in_ok-token.ensures in
    let name = objects.token_name s l.i c.mark.result c.in_ok-token.token k.0 k.1 c.mark.ensures in
    let v = element s c.args.depth c.in_ok-token.token.end c.in_ok-v.v c.in_ok-v.ensures in
    let place = free s l.keys c.args.at c.args.depth l.i l.n c.mark.result c.in_ok-token.token l.sum p.scanned p.counted name
    (omega (arith, c.requires.s_len_bound, p.same_keys)) in
    let stored = objects.stored_keys l.keys l.n l.i place c.inner.new.keys c.inner.auto.keys in
    let kept = objects.stored_length l.keys l.n l.i place c.inner.new.keys c.inner.auto.keys in
    let after = c.in_ok-end.ensures in
    let w = rw c.in-End.is at after in
    let d = c.closed in
    objects.closed_same s (read_object c.args.depth (drop c.args.at s)) _ _ _ _ l.sum _ _ d.result d.ensures.value c.added-sum.ensures c.member.ensures stored
    (objects.ends p.scanned name v _ w)

pub object-returns-in-End-clause-leaves_keys : goal.object-returns-in-End-clause-leaves_keys
object-returns-in-End-clause-leaves_keys t c =
    let s = c.args.s.now in
    let l = c.loop-token in
    let p = l.invariant in
    let k = c.in_ok-token.ensures in
    let name = objects.token_name s l.i c.mark.result c.in_ok-token.token k.0 k.1 c.mark.ensures in
    let v = element s c.args.depth c.in_ok-token.token.end c.in_ok-v.v c.in_ok-v.ensures in
    let place = free s l.keys c.args.at c.args.depth l.i l.n c.mark.result c.in_ok-token.token l.sum p.scanned p.counted name
    (omega (arith, c.requires.s_len_bound, p.same_keys)) in
    let stored = objects.stored_keys l.keys l.n l.i place c.inner.new.keys c.inner.auto.keys in
    let kept = objects.stored_length l.keys l.n l.i place c.inner.new.keys c.inner.auto.keys in
    let after = c.in_ok-end.ensures in
    let w = rw c.in-End.is at after in
    let d = c.closed in
    closed_keys s (read_object c.args.depth (drop c.args.at s)) _ _ _ _ d.new.keys _ d.result d.ensures.value d.ensures.keys_after d.auto.keys stored
    (objects.ends_keys p.scanned name v _ w)

pub object-loop-token-smaller : goal.object-loop-token-smaller
object-loop-token-smaller t c =
    let s = c.args.s.now in
    let l = c.loop-token in
    let p = l.invariant in
    let k = c.in_ok-token.ensures in
    let name = objects.token_name s l.i c.mark.result c.in_ok-token.token k.0 k.1 c.mark.ensures in
    let v = element s c.args.depth c.in_ok-token.token.end c.in_ok-v.v c.in_ok-v.ensures in
    let after = c.in_ok-end.ensures in
    let w = rw c.in-More.is at after in
    omega (arith, objects.later p.scanned name v, name.later, w.0, w.1)

pub object-loop-token-preserved : goal.object-loop-token-preserved
object-loop-token-preserved t c =
    let s = c.args.s.now in
    let l = c.loop-token in
    let p = l.invariant in
    let k = c.in_ok-token.ensures in
    let name = objects.token_name s l.i c.mark.result c.in_ok-token.token k.0 k.1 c.mark.ensures in
    let v = element s c.args.depth c.in_ok-token.token.end c.in_ok-v.v c.in_ok-v.ensures in
    let place = free s l.keys c.args.at c.args.depth l.i l.n c.mark.result c.in_ok-token.token l.sum p.scanned p.counted name
    (omega (arith, c.requires.s_len_bound, p.same_keys)) in
    let stored = objects.stored_keys l.keys l.n l.i place c.inner.new.keys c.inner.auto.keys in
    let kept = objects.stored_length l.keys l.n l.i place c.inner.new.keys c.inner.auto.keys in
    let after = c.in_ok-end.ensures in
    let w = rw c.in-More.is at after in
    let sum = c.added-sum.ensures ∙ ap (plus l.sum) c.member.ensures in
    record {
      scanned = subst₂ (objects.ObjectScanned s c.args.at c.args.depth _) (sym stored) (sym sum) (objects.goes_on p.scanned name v _ w);
      counted = omega (arith, place, kept);
      same_keys = kept ∙ p.same_keys;
      same_spare = c.inner.auto.spare ∙ p.same_spare;
    }

pub value-returns-then-b-eq91 : goal.value-returns-then-b-eq91
value-returns-then-b-eq91 t c = is_an_array _ _ _ _ c.if-at-s.true c.if-depth-gt0.true c.if-b-eq91.true c.array.ensures

pub value-returns-then-b-eq123 : goal.value-returns-then-b-eq123
value-returns-then-b-eq123 t c =
    is_an_object _ _ _ _ c.if-at-s.true c.if-depth-gt0.true c.if-b-eq123.true c.object.ensures.scans_value

pub value-returns : goal.value-returns
value-returns t c =
    let a = c.args in
    let r = c.scalar in
    elim c.if-at-s.branch [
      | value-then-at-s+then-depth-gt0+else-b-eq91+else-b-eq123 w ↦
          is_scalar a.s.now a.at a.depth r.result r.ensures w.if-at-s.true w.if-b-eq91.false w.if-b-eq123.false
      | value-then-at-s+else-depth-gt0 w ↦ at_bottom a.s.now a.at a.depth r.result r.ensures w.if-depth-gt0.false
      | value-else-at-s w ↦ at_the_end a.s.now a.at a.depth r.result r.ensures w.if-at-s.false
    ]
