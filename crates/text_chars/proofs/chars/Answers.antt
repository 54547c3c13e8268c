use Rattle.std.proofs.Common.{arith, ◌≡◌, ◌+◌, ◌≤◌, ◌||◌, ℕ, Bool, List, length, drop}
use Rattle.std.proofs.lemmas.Result.{err_from_is_err_and}
use mathlib.Core.Path.{ap, ◌∙◌}
use Rattle.text_json.specs.Read.{read_chars, char, stuck}
use Rattle.text_chars.specs.Measure.{measure, add, plain_length}
use Rattle.text_chars.proofs.CharSteps.{chars_end, char_close, char_escape, char_plain, char_control}
use Rattle.text_chars.proofs.Plain.{plain_run, add_plain, end_fits}
use Rattle.text_chars.proofs.Weights.{add_add, add_none, add_close, add_stuck, measure_plain, scans_token, scans_none}
use Rattle.text_chars.proofs.chars.Goals as goal

-- `at`, `i` and `e` are positions: what is read at i is something added to what is read at e
passes : (s : List ℕ) (at i e : ℕ) (f g : Bool) (n m : ℕ)
    → measure (read_chars char (drop at s)) ≡ add f n (measure (read_chars char (drop i s)))
    → measure (read_chars char (drop i s)) ≡ add g m (measure (read_chars char (drop e s)))
    → measure (read_chars char (drop at s)) ≡ add (f || g) (n + m) (measure (read_chars char (drop e s)))
passes s at i e f g n m h x = rw x at h ∙ add_add _ _ _ _ _

-- reading is stuck at a position
stops : (s : List ℕ) (at i e : ℕ) (f : Bool) (n : ℕ)
    → measure (read_chars char (drop at s)) ≡ add f n (measure (read_chars char (drop i s)))
    → read_chars char (drop i s) ≡ stuck (drop e s) → measure (read_chars char (drop at s)) ≡ stuck (drop e s)
stops s at i e f n h x = rw x at h ∙ add_stuck _ _ _

-- plain bytes end in the text
passed : (s : List ℕ) (i e : ℕ) → i ≤ length s → e ≡ i + plain_length (drop i s) → e ≤ length s
passed s i e h p = rw p (end_fits s i h)

pub loop-i-init : goal.loop-i-init
loop-i-init c = record { past = omega arith; inside = c.requires; fits = omega arith; measured = add_none _ }

pub returns-then-b-eq34 : goal.returns-then-b-eq34
returns-then-b-eq34 c =
    let close = char_close c.args.s.now c.loop-i.i c.loop-i-test.true c.if-b-eq34.true in
    let h = c.loop-i.invariant in
    (omega arith, scans_token c.args.s.now (c.loop-i.i + 1) (omega arith) _ _ _ (rw close at h.measured ∙ add_close _ _ _))

pub overflow_add-size : goal.overflow_add-size
overflow_add-size c = let taken = c.in_ok-escape.ensures in omega arith

pub loop-i-smaller-then-b-eq92 : goal.loop-i-smaller-then-b-eq92
loop-i-smaller-then-b-eq92 c = let taken = c.in_ok-escape.ensures in omega arith

pub loop-i-preserved-then-b-eq92 : goal.loop-i-preserved-then-b-eq92
loop-i-preserved-then-b-eq92 c =
    let taken = c.in_ok-escape.ensures in
    let h = c.loop-i.invariant in
    let start = char_escape c.args.s.now c.loop-i.i c.loop-i-test.true c.if-b-eq92.true in
    record {
      past = omega arith;
      inside = omega arith;
      fits = omega arith;
      measured = passes c.args.s.now c.args.at c.loop-i.i _ _ _ _ _ h.measured (ap measure start ∙ taken.3);
    }

pub returns-in_err-escape : goal.returns-in_err-escape
returns-in_err-escape c =
    let p = err_from_is_err_and c.from_residual.result c.from_residual.ensures.1 in
    let taken = c.in_err-escape.ensures in
    let h = c.loop-i.invariant in
    let start = char_escape c.args.s.now c.loop-i.i c.loop-i-test.true c.if-b-eq92.true in
    rw (p.1, p.2) (omega arith, scans_none c.args.s.now _ taken.1 _ (stops c.args.s.now c.args.at c.loop-i.i _ _ _ h.measured (start ∙ taken.2)))

pub returns-then-b-lt-LOWEST_RAW : goal.returns-then-b-lt-LOWEST_RAW
returns-then-b-lt-LOWEST_RAW c =
    let h = c.loop-i.invariant in
    let read = char_control c.args.s.now c.loop-i.i c.loop-i-test.true c.if-b-eq34.false c.if-b-eq92.false c.if-b-lt-LOWEST_RAW.true in
    (omega arith, scans_none c.args.s.now c.loop-i.i h.inside _ (stops c.args.s.now c.args.at c.loop-i.i _ _ _ h.measured read))

pub overflow_sub-size : goal.overflow_sub-size
overflow_sub-size c = omega (arith, c.plain_end-i.ensures)

pub overflow_add-size-else-b-lt-LOWEST_RAW : goal.overflow_add-size-else-b-lt-LOWEST_RAW
overflow_add-size-else-b-lt-LOWEST_RAW c =
    let fits = passed c.args.s.now (c.loop-i.i + 1) c.plain_end-i.result (omega arith) c.plain_end-i.ensures in
    omega (arith, c.plain_end-i.ensures)

pub loop-i-smaller : goal.loop-i-smaller
loop-i-smaller c = omega (arith, c.plain_end-i.ensures)

pub loop-i-preserved : goal.loop-i-preserved
loop-i-preserved c =
    let s = c.args.s.now in
    let i = c.loop-i.i in
    let e = c.plain_end-i.result in
    let p = c.plain_end-i.ensures in
    let read = char_plain s i c.loop-i-test.true c.if-b-eq34.false c.if-b-eq92.false c.if-b-lt-LOWEST_RAW.false in
    record {
      past = omega (arith, p);
      inside = passed s (i + 1) e (omega arith) p;
      fits = omega (arith, p);
      measured = passes s c.args.at i e _ _ _ _ c.loop-i.invariant.measured
          (ap measure read
          ∙ measure_plain _ _ c.if-b-eq34.false c.if-b-eq92.false c.if-b-lt-LOWEST_RAW.false
          ∙ ap (add _ 1) (plain_run s (i + 1) e p)
          ∙ add_plain _ 1 _ _);
    }

pub returns : goal.returns
returns c =
    let h = c.loop-i.invariant in
    (omega arith, scans_none c.args.s.now c.loop-i.i h.inside _ (stops c.args.s.now c.args.at c.loop-i.i _ _ _ h.measured (chars_end _ _ char c.loop-i-test.false)))
