use Rattle.std.proofs.Common.{◌≡◌, sym, ap, subst, ◌∙◌, arith, true, ◌≤◌, ◌+◌, length, length-append, ℕ, [], ◌∷◌, ◌++◌}
use mathlib.Core.Path.{subst₃}
use lib.ListN.{length-set}
use Rattle.policy_marks.specs.Pairs.{pairs_with}
use Rattle.policy_marks.specs.Words.{guards_in, rows_in}
use Rattle.policy_pairs.proofs.Listing.{pair, with_grows, with_next_taken, with_next_left}
use Rattle.policy_pairs.proofs.Reported.{rows_fit, reported, row_pairs}
use Rattle.policy_pairs.proofs.Writing.{WritesPairs, no_pairs_written, pair_written, pairs_written}
use Rattle.policy_pairs.proofs.write_row.Goals as goal
use Rattle.policy_pairs.proofs.write_row.Goals.{After-is_reported, then-is_reported, else-is_reported}

pub loop-o-init : goal.loop-o-init
unfolding pairs_with
loop-o-init c = no_pairs_written _

-- what is asked is whether the pair is reported
told : (c : After-is_reported) → c.is_reported.result ≡ reported c.args.t c.args.g c.loop-o.o
unfolding guards_in rows_in
told c = c.is_reported.ensures c.args.t.count (rows_fit c.args.t c.well_formed.0 c.requires.0) c.requires.1 c.loop-o-test.true

-- the next pair is listed
next : (c : After-is_reported) → c.is_reported.result ≡ true → row_pairs c.args.t c.args.g (c.loop-o.o + 1) ≡ row_pairs c.args.t c.args.g c.loop-o.o ++ pair c.args.g c.loop-o.o ∷ []
next c h = with_next_taken (reported c.args.t) c.args.g c.loop-o.o (sym (told c) ∙ h)

-- and there is room for it
room : (c : After-is_reported) → c.is_reported.result ≡ true → c.loop-o.n + 2 ≤ length c.args.out.now
room c h =
    let t = c.args.t in
    let g = c.args.g in
    let o = c.loop-o.o in
    omega (
      arith,
      c.requires.2,
      c.loop-o-test.true,
      c.loop-o.invariant.size,
      ap length (next c h),
      length-append (row_pairs t g o) (pair g o ∷ []),
      with_grows (reported t) g (o + 1) t.count (omega arith),
    )

pub bounds-out-n : goal.bounds-out-n
bounds-out-n c = omega (arith, room c.before c.if-is_reported.true)

pub overflow_add-out : goal.overflow_add-out
overflow_add-out c = omega (arith, room c.before c.if-is_reported.true)

pub bounds-out-n-then-is_reported : goal.bounds-out-n-then-is_reported
bounds-out-n-then-is_reported c = simp length-set (omega (arith, room c.before c.if-is_reported.true))

pub overflow_add-n : goal.overflow_add-n
overflow_add-n c = omega (arith, room c.before c.if-is_reported.true)

pub loop-o-preserved : goal.loop-o-preserved
loop-o-preserved c =
    let t = c.args.t in
    let g = c.args.g in
    let o = c.loop-o.o in
    let out = c.args.out.now in
    elim c.if-is_reported.branch [
      | then-is_reported w ↦ subst₃ (WritesPairs out) (sym w.out-is) (sym w.n-is) (sym (next c.before w.if-is_reported.true))
          (pair_written c.loop-o.invariant g o (room c.before w.if-is_reported.true))
      | else-is_reported w ↦ subst₃ (WritesPairs out) (sym w.out-is) (sym w.n-is)
          (sym (with_next_left (reported t) g o (sym (told c.before) ∙ w.if-is_reported.false))) c.loop-o.invariant
    ]

written : (c : goal.After-loop-o) → WritesPairs c.args.out.now c.loop-o.out c.loop-o.n (row_pairs c.args.t c.args.g c.args.t.count)
written c =
    let e : c.loop-o.o ≡ c.args.t.count = omega arith in
    subst (λ (o : ℕ). WritesPairs c.args.out.now c.loop-o.out c.loop-o.n (row_pairs c.args.t c.args.g o)) e c.loop-o.invariant

pub returns-clause-value : goal.returns-clause-value
returns-clause-value c = (written c).size

pub returns-clause-out_after : goal.returns-clause-out_after
returns-clause-out_after c = pairs_written (written c)
