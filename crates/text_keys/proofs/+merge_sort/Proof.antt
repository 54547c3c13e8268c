-- The measure is the slice's length.
use Prim.Native.Nat.{ℕ, ◌<◌, ◌/◌}
use mathlib.Core.Path.{◌≡◌, sym, ap, subst, ◌∙◌}
use native.Mathlib.Omega.{arith}
use native.Mathlib.Nat.{le_refl}
use lib.ListN.{length, take, length-drop}
use lib.Seq.{length-take-le}
use Rattle.laws.proofs.Rising.{sort_short}
use Rattle.text_keys.specs.Keys.{KeysAt}
use Rattle.text_keys.proofs.Keys.{keys_take, keys_drop}
use Rattle.text_keys.proofs.Halves.{with_both, whole_length, right_half, Halved, halved}
use borrow.Fn.Kinds.{In, Out}
use borrow.Fn.PlainCycle.{Measures, is, falls, and}
use Rattle.text_keys.proofs.merge_sort.Reads as merge-sort
use Rattle.text_keys.proofs.merge_sort.Kinds as merge-sort-kinds
use Rattle.text_keys.proofs.+merge_sort.Lts-merge_sort as merge-sort-lts
use Rattle.text_keys.proofs.merge_halves.Reads as merge-halves-reads
use Rattle.text_keys.proofs.+merge_sort.{statement}
use Rattle.text_keys.proofs.+merge_sort.Tie.{close}

abbrev μ_merge_sort : Measures 3 merge-sort-kinds.ps ℕ
μ_merge_sort κs a = length a.1.0.now

abbrev merge_sort_at : ℕ → In 3 merge-sort-kinds.ps
merge_sort_at t =
    and 3 merge-sort-kinds.ps (is 3 merge-sort-kinds.ps μ_merge_sort t) merge-sort.Pre

abbrev merge_sort_below : ℕ → In 3 merge-sort-kinds.ps
merge_sort_below t =
    and 3 merge-sort-kinds.ps (falls 3 merge-sort-kinds.ps ◌<◌ μ_merge_sort t) merge-sort.Pre

abbrev merge_sort_calls : ℕ → merge-sort-lts.Claims
merge_sort_calls t = (merge_sort_below t, merge-sort.Post, merge-halves-reads.Asked, merge-halves-reads.Learnt)

-- a need or a place of `merge_sort`, at the measure t
abbrev In-sort : ℕ → (merge-sort-lts.Claims → In 3 merge-sort-kinds.ps → Out 3 merge-sort-kinds.ps merge-sort-kinds.r → Type 0) → Type 0
In-sort t F = F (merge_sort_calls t) (merge_sort_at t) merge-sort.Post

merge-sort-returns : (t : ℕ) → In-sort t merge-sort-lts.Need-returns-then-keys-lt2
merge-sort-returns t c = sym (sort_short _ _ (omega arith))

merge-sort-slice-aggregate-merge-sort : (t : ℕ) → In-sort t merge-sort-lts.Need-slice_bounds-merge_sort-end-2
merge-sort-slice-aggregate-merge-sort t c = sym (length-take-le _ _ (omega arith))

merge-sort-merge-sort-requires : (t : ℕ) → In-sort t merge-sort-lts.Need-merge_sort-requires
merge-sort-merge-sort-requires t c κs =
    let a = c.before.before.before.before.before.before in
    let k = a.args.keys.now in
    let e : length (take (length k / 2) k) ≡ length k / 2 = length-take-le (length k / 2) k (omega arith) in
    (omega arith, (keys_take (length k / 2) a.requires.1.0, omega arith))

merge-sort-sub-merge-sort : (t : ℕ) → In-sort t merge-sort-lts.Need-slice_bounds-merge_sort-count
merge-sort-sub-merge-sort t c =
    let k = c.before.before.before.before.before.before.before.before.before.before.before.args.keys.now in
    let f = c.merge_sort in
    omega (arith, whole_length k f.new.keys (length k / 2) (omega arith) f.auto.keys)

merge-sort-part-merge-sort-start : (t : ℕ) → In-sort t merge-sort-lts.Need-slice_bounds-merge_sort-start
merge-sort-part-merge-sort-start t c = merge-sort-sub-merge-sort t c

merge-sort-part-merge-sort-end : (t : ℕ) → In-sort t merge-sort-lts.Need-slice_bounds-merge_sort-end-3
merge-sort-part-merge-sort-end t c = le_refl _

merge-sort-merge-sort-requires-2 : (t : ℕ) → In-sort t merge-sort-lts.Need-merge_sort-requires-2
merge-sort-merge-sort-requires-2 t c κs =
    let a = c.before.before.before.before.before.before.before.before.before.before.before.before.before in
    let k = a.args.keys.now in
    let f = c.merge_sort in
    let e = right_half k f.new.keys (length k / 2) (omega arith) f.auto.keys in (
      omega (arith, ap length e, length-drop (length k / 2) k),
      (
        subst (KeysAt a.args.s.now) (sym e) (keys_drop (length k / 2) a.requires.1.0),
        omega (arith, ap length e, length-drop (length k / 2) k, f.auto.spare),
      ),
    )

-- once both halves are sorted
halves : (t : ℕ) (c : In-sort t merge-sort-lts.After-merge_sort-2)
    → let k = c.before.before.before.before.before.before.before.before.before.before.before.before.before.before.args.keys.now in
    Halved c.before.before.before.before.before.before.before.before.before.before.before.before.before.before.args.s.now k
    (with_both k c.merge_sort.new.keys c.merge_sort-2.new.keys (length k / 2))
    (length k / 2)
halves t c =
    let a = c.before.before.before.before.before.before.before.before.before.before.before.before.before.before in
    let k = a.args.keys.now in
    let f = c.merge_sort in
    let g = c.merge_sort-2 in
    halved a.args.s.now k f.new.keys g.new.keys (length k / 2) (omega arith) a.requires.1.0 f.auto.keys f.ensures g.auto.keys
    g.ensures

merge-sort-merge-halves-requires : (t : ℕ) → In-sort t merge-sort-lts.Need-merge_halves-requires
merge-sort-merge-halves-requires t c κs =
    let g = c.before.before.before.before.before.before in
    let w = halves t g in
    let first = c.merge_sort in
    (w.there, omega (arith, w.size), omega (arith, first.auto.spare, g.merge_sort-2.auto.spare))

merge-sort-same-length : (t : ℕ) → In-sort t merge-sort-lts.Need-shape_of-keys
merge-sort-same-length t c = c.merge_halves.auto.keys
    ∙ (halves t c.before.before.before.before.before.before.before.before.before.before.before).size

merge-sort-same-length-2 : (t : ℕ) → In-sort t merge-sort-lts.Need-shape_of-spare
merge-sort-same-length-2 t c =
    let g = c.before.before.before.before.before.before.before.before.before.before.before in
    c.merge_halves.auto.spare ∙ g.merge_sort-2.auto.spare
    ∙ g.merge_sort.auto.spare

merge-sort-returns-2 : (t : ℕ) → In-sort t merge-sort-lts.Need-returns
merge-sort-returns-2 t c = c.merge_halves.ensures
    ∙ (halves t c.before.before.before.before.before.before.before.before.before.before.before).merged

pub +merge_sort_spec : {M : Type 1} → statement M
+merge_sort_spec =
    close μ_merge_sort λ t. merge-sort-lts.spec (merge_sort_calls t) (merge_sort_at t) merge-sort.Post (merge-sort-returns t) (λ c. omega arith)
    (merge-sort-slice-aggregate-merge-sort t) (merge-sort-merge-sort-requires t) (λ c. omega arith) (merge-sort-sub-merge-sort t)
    (merge-sort-part-merge-sort-start t) (merge-sort-part-merge-sort-end t) (merge-sort-merge-sort-requires-2 t) (merge-sort-merge-halves-requires t)
    (merge-sort-same-length t) (merge-sort-same-length-2 t) (merge-sort-returns-2 t)
