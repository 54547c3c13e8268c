-- One byte more is written with each step. Assumes nothing.
use Prim.Native.Nat.{ℕ, ◌+◌, ◌*◌}
use mathlib.Core.Path.{◌≡◌, sym, ap, subst, ◌∙◌}
use mathlib.Core.List.{◌++◌}
use native.Mathlib.Omega.{arith}
use lib.ListN.{drop}
use Rattle.reference_parts.specs.Parts.{first_part}
use Rattle.reference_digests.specs.Digests.{digest_of}
use Rattle.reference_digests.proofs.Hex.{Writing, nothing_written, all_written, kept_length, some_left, both_digits, one_more, two_within, next_two}
use Rattle.reference_digests.proofs.digest.write_plain.Goals as goal

pub loop-k-init : goal.loop-k-init
loop-k-init c =
    let a = c.args in
    let e = c.digest_bytes-n.ensures.0 in
    let p = c.requires in
    let z : a.i + 0 ≡ a.i = omega arith in (
      omega (arith, e, p.1),
      omega (arith, p.0.within),
      rw z (subst (λ (n : ℕ). Writing (first_part (drop a.i a.s.now)) (drop a.i a.s.now) n 0 a.out.now a.out.now) (sym e)
          (nothing_written a.a (drop a.i a.s.now) a.out.now p.0.digest)),
    )

pub bounds-s-j : goal.bounds-s-j
bounds-s-j c =
    let l = c.loop-k in
    let w = two_within c.args.s.now (c.args.i + 2 * l.k) (some_left _ _ _ l.k _ _ l.invariant.2 c.loop-k-test.true) in
    omega arith

pub bounds-s-j-in-loop-k : goal.bounds-s-j-in-loop-k
bounds-s-j-in-loop-k c =
    let l = c.loop-k in
    two_within c.args.s.now (c.args.i + 2 * l.k) (some_left _ _ _ l.k _ _ l.invariant.2 c.loop-k-test.true)

pub byte_of-requires : goal.byte_of-requires
byte_of-requires c =
    let l = c.loop-k in
    let h = c.loop-k-test.true in
    let w = two_within c.args.s.now (c.args.i + 2 * l.k) (some_left _ _ _ l.k _ _ l.invariant.2 h) in
    both_digits _ _ _ l.k _ _ l.invariant.2 h _ _ _ (next_two c.args.s.now (c.args.i + 2 * l.k) w)

pub bounds-out-k : goal.bounds-out-k
bounds-out-k c =
    let l = c.loop-k in
    omega (arith, c.loop-k-test.true, l.invariant.0, kept_length _ _ _ l.k _ _ l.invariant.2 l.invariant.0)

pub loop-k-preserved : goal.loop-k-preserved
loop-k-preserved c =
    let l = c.loop-k in
    let h = c.loop-k-test.true in
    let w = two_within c.args.s.now (c.args.i + 2 * l.k) (some_left _ _ _ l.k _ _ l.invariant.2 h) in
    let n : c.args.i + 2 * (l.k + 1) ≡ c.args.i + 2 * l.k + 2 = omega arith in (
      l.invariant.0,
      omega arith,
      rw n (one_more _ _ _ l.k _ _ l.invariant.2 h _ _ _ (next_two c.args.s.now (c.args.i + 2 * l.k) w) _ c.byte_of.ensures
          (omega (arith, h, l.invariant.0))),
    )

pub returns : goal.returns
returns c =
    let l = c.loop-k in
    all_written _ _ _ l.k _ _ l.invariant.2 c.loop-k-test.false
    ∙ ap (λ (n : ℕ). digest_of (first_part (drop c.args.i c.args.s.now)) ++ drop n c.args.out.now) c.digest_bytes-n.ensures.0
