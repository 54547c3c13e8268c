-- The measure is the number.
use Prim.Native.Nat.{ℕ, ◌+◌, ◌/◌, ◌<◌}
use native.Mathlib.Omega.{arith}
use native.Mathlib.Nat.{le_refl}
use mathlib.Core.Path.{sym, ap, ◌∙◌}
use lib.ListN.{length-set}
use Rattle.store_varint.proofs.Laws.{length_small, length_more, varint_least}
use Rattle.store_varint.proofs.Writing.{space, one_written, begun_space, rest_fits, same_length, more_written}
use borrow.Fn.Kinds.{In}
use borrow.Fn.PlainCycle.{Measures, is, falls, and}
use Rattle.store_varint.proofs.write.Reads as write
use Rattle.store_varint.proofs.write.Kinds as write-kinds
use Rattle.store_varint.proofs.+write.Lts-write as write-lts
use Rattle.store_varint.proofs.+write.{statement}
use Rattle.store_varint.proofs.+write.Tie.{close}

abbrev μ_write : Measures 1 write-kinds.ps ℕ
μ_write κs a = a.0

abbrev write_at : ℕ → In 1 write-kinds.ps
write_at t = and 1 write-kinds.ps (is 1 write-kinds.ps μ_write t) write.Pre

abbrev write_below : ℕ → In 1 write-kinds.ps
write_below t = and 1 write-kinds.ps (falls 1 write-kinds.ps ◌<◌ μ_write t) write.Pre

write_slice_write_out :
    (t : ℕ) → write-lts.Need-bounds-out-0 (write_below t, write.Post) (write_at t) write.Post
write_slice_write_out t c = let a = c.before.before in space _ a.args.out.now a.requires.1

write_returns :
    (t : ℕ) → write-lts.Need-returns-then-n-lt128 (write_below t, write.Post) (write_at t) write.Post
write_returns t c = let a = c.before.before in (sym (length_small _ c.if-n-lt128.true), one_written _ _ a.requires.1 c.if-n-lt128.true)

write_slice_write_out_2 :
    (t : ℕ) → write-lts.Need-bounds-out-0-2 (write_below t, write.Post) (write_at t) write.Post
write_slice_write_out_2 t c = let a = c.before.before in space _ a.args.out.now a.requires.1

write_sub_write :
    (t : ℕ) → write-lts.Need-slice_bounds-write-count (write_below t, write.Post) (write_at t) write.Post
write_sub_write t c = let a = c.before.before in begun_space _ a.args.out.now a.requires.1 c.if-n-lt128.false

write_part_write_start :
    (t : ℕ) → write-lts.Need-slice_bounds-write-start (write_below t, write.Post) (write_at t) write.Post
write_part_write_start t c = let a = c.before.before in begun_space _ a.args.out.now a.requires.1 c.if-n-lt128.false

write_write_requires :
    (t : ℕ) → write-lts.Need-write-requires (write_below t, write.Post) (write_at t) write.Post
write_write_requires t c κs = let a = c.before.before.before in (omega arith, rest_fits _ a.args.out.now a.requires.1 c.if-n-lt128.false)

write_add_result :
    (t : ℕ) → write-lts.Need-overflow_add-result (write_below t, write.Post) (write_at t) write.Post
write_add_result t c = let w = c.before.before in omega (arith, w.write.ensures.0, varint_least (w.before.before.before.before.args.n / 128))

write_same_length_2 :
    (t : ℕ) → write-lts.Need-shape_of-out (write_below t, write.Post) (write_at t) write.Post
write_same_length_2 t c =
    let w = c.before.before in
    let a = w.before.before.before.before in
    same_length _ a.args.out.now a.requires.1 w.if-n-lt128.false w.write.new.out w.write.auto.out

write_returns_2 :
    (t : ℕ) → write-lts.Need-returns (write_below t, write.Post) (write_at t) write.Post
write_returns_2 t c =
    let w = c.before.before in
    let a = w.before.before.before.before in
    let more = w.if-n-lt128.false in
    (ap (λ (k : ℕ). 1 + k) w.write.ensures.0 ∙ sym (length_more _ more), more_written _ _ a.requires.1 more _ w.write.ensures.1)

pub +write_spec : {M : Type 1} → statement M
+write_spec =
    close μ_write λ t. write-lts.spec (write_below t, write.Post) (write_at t) write.Post (λ c. omega arith) (write_slice_write_out t)
    (λ c. simp length-set) (write_returns t) (λ c. omega arith) (λ c. omega arith) (write_slice_write_out_2 t) (write_sub_write t)
    (write_part_write_start t) (λ c. le_refl _) (write_write_requires t) (write_add_result t) (write_same_length_2 t) (write_returns_2 t)
