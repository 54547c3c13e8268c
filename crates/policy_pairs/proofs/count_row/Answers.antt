use Rattle.std.proofs.Common.{◌≡◌, refl, sym, ap, ◌∙◌, arith, length, length-append, ℕ, [], ◌∷◌}
use Rattle.policy_marks.specs.Pairs.{pairs_with}
use Rattle.policy_marks.specs.Words.{guards_in, rows_in}
use Rattle.policy_pairs.proofs.Listing.{pair, with_few, with_next_taken, with_next_left}
use Rattle.policy_pairs.proofs.Reported.{rows_fit, reported, row_pairs}
use Rattle.policy_pairs.proofs.count_row.Goals as goal
use Rattle.policy_pairs.proofs.count_row.Goals.{After-is_reported, then-is_reported, else-is_reported}

pub loop-o-init : goal.loop-o-init
unfolding pairs_with
loop-o-init c = refl

-- what is asked is whether the pair is reported
told : (c : After-is_reported) → c.is_reported.result ≡ reported c.args.t c.args.g c.loop-o.o
unfolding guards_in rows_in
told c = c.is_reported.ensures c.args.t.count (rows_fit c.args.t c.well_formed.0 c.requires.0) c.requires.1 c.loop-o-test.true

pub overflow_add-n : goal.overflow_add-n
overflow_add-n c = omega (arith, with_few (reported c.args.t) c.args.g 0 c.loop-o.o)

pub loop-o-preserved : goal.loop-o-preserved
loop-o-preserved c =
    let t = c.args.t in
    let g = c.args.g in
    let o = c.loop-o.o in
    let e = told c.before in
    elim c.if-is_reported.branch [
      | then-is_reported w ↦ omega (
        arith,
        c.loop-o.invariant,
        w.n-is,
        ap length (with_next_taken (reported t) g o (sym e ∙ w.if-is_reported.true)),
        length-append (row_pairs t g o) (pair g o ∷ []),
      )
      | else-is_reported w ↦ w.n-is ∙ c.loop-o.invariant ∙ ap length (sym (with_next_left (reported t) g o (sym e ∙ w.if-is_reported.false)))
    ]

pub returns : goal.returns
returns c =
    let e : c.loop-o.o ≡ c.args.t.count = omega arith in
    c.loop-o.invariant ∙ ap (λ (o : ℕ). length (row_pairs c.args.t c.args.g o)) e
