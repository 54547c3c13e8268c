-- What is counted of the bytes is what is counted of the part, at a `/` and at the end. Assumes nothing.
use Prim.Native.Nat.{ℕ, ◌+◌, ◌-◌, ◌≤◌, ◌<◌}
use mathlib.Core.Path.{◌≡◌, ap, sym, ◌∙◌}
use mathlib.Core.List.{List}
use native.Mathlib.Omega.{arith}
use lib.ListN.{length, drop, get_or, drop_of_length-le, length-drop, length-take}
use lib.Seq.{drop-drop, get_or-take}
use Rattle.text_json.proofs.Places.{drop_next}
use Rattle.reference_parts.specs.Hex.{is_lower_hex}
use Rattle.reference_parts.proofs.Counting.{start, goes_on_byte, counts_divided, rest_divided, counts_last, rest_last}
use Rattle.reference_parts.proofs.part.read_plain.Goals as goal

pub loop-length-init : goal.loop-length-init
loop-length-init c = start _

pub returns-then-b-eq47 : goal.returns-then-b-eq47
returns-then-b-eq47 c =
    let x : List ℕ = drop c.args.i c.args.s.now in
    let l = c.loop-length in
    let m = length-take (length c.args.s.now - c.args.i) x in
    let h : l.length < length x = omega arith in
    let e = drop_next x l.length h in
    let b : get_or x l.length 0 ≡ 47 = sym (get_or-take (length c.args.s.now - c.args.i) x l.length 0 (omega arith)) ∙ c.if-b-eq47.true in
    let k : c.args.i + l.length + 1 ≡ c.args.i + (l.length + 1) = omega arith in (
      record {
        counts = counts_divided _ _ _ _ l.invariant _ _ e b _;
        rest =
            ap (λ (n : ℕ). drop n c.args.s.now) k ∙ sym (drop-drop (l.length + 1) c.args.i c.args.s.now)
            ∙ rest_divided _ _ _ _ l.invariant _ _ e b;
      },
      omega (arith, length-drop c.args.i c.args.s.now),
    )

pub loop-length-preserved : goal.loop-length-preserved
loop-length-preserved c =
    let x : List ℕ = drop c.args.i c.args.s.now in
    let l = c.loop-length in
    let m = length-take (length c.args.s.now - c.args.i) x in
    let h : l.length < length x = omega arith in
    goes_on_byte _ _ _ _ l.invariant _ _ (drop_next x l.length h)
    (λ q. c.if-b-eq47.false (get_or-take (length c.args.s.now - c.args.i) x l.length 0 (omega arith) ∙ q)) _ (c.is_lower_hex-hex.ensures
    ∙ ap is_lower_hex (c.from.ensures ∙ get_or-take (length c.args.s.now - c.args.i) x l.length 0 (omega arith)))

pub returns : goal.returns
returns c =
    let x : List ℕ = drop c.args.i c.args.s.now in
    let l = c.loop-length in
    let m = length-take (length c.args.s.now - c.args.i) x in
    let d = length-drop c.args.i c.args.s.now in
    let w : length x ≤ l.length = omega arith in
    let e = drop_of_length-le x {i = l.length} w in
    let n : l.length ≡ length c.args.s.now - c.args.i = omega arith in (
      record { counts = rw (← n) (counts_last _ _ _ _ l.invariant e _); rest = drop_of_length-le c.args.s.now {i = length c.args.s.now} (omega arith) ∙ sym e ∙ rest_last _ _ _ _ l.invariant e },
      omega arith,
    )
