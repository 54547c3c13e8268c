-- `store::append` meets its contract: the new used count is the old one and the record's length, which is inside the buffer.
use Prim.Native.Nat.{ℕ, ◌+◌, ◌≤◌}
use mathlib.Core.Path.{◌≡◌, refl, sym, ap, ◌∙◌}
use native.Mathlib.Omega.{arith}
use lib.ListN.{length}
use Rattle.store_record.specs.Image.{Image}
use Rattle.store_record.specs.Record.{record_of}
use Rattle.store.specs.Load.{used_after, bytes_after}
use Rattle.store_append.specs.Append.{image_with}
use Rattle.store.proofs.Numbering.{record_size}
use borrow.Author.Rules.{rules}
use Rattle.store.proofs.append.Statement.{statement}
use Rattle.store.proofs.append.Tie as tie

abbrev begin : tie.After-head_size → tie.Start
begin c = c.before.before.before.before.before

abbrev its_image : tie.Start → Image
its_image a = image_with a.args.a a.args.signer.now a.args.digest.now a.args.text.now

needed : (c : tie.After-head_size) → length (record_of (its_image (begin c))) ≡ c.head_size.result + length (begin c).args.text.now
needed c =
    let a = begin c in
    record_size a.args.a a.args.signer.now a.args.digest.now a.args.text.now a.requires.digests
    ∙ ap (λ (k : ℕ). k + length a.args.text.now) (sym c.head_size.ensures)

within : (c : tie.After-head_size) → (begin c).args.used + c.head_size.result + length (begin c).args.text.now ≤ length (begin c).args.store.now
within c = omega (arith, needed c, (begin c).requires.fits.within, (begin c).requires.fits.space)

overflow_add-end : tie.Need-overflow_add-end
overflow_add-end c = omega (arith, within c, (begin c).well_formed.1.1.1.1.0.0)

overflow_add-end-2 : tie.Need-overflow_add-end-2
overflow_add-end-2 c = omega (arith, within c, (begin c).well_formed.1.1.1.1.0.0)

returns : tie.Need-returns
unfolding used_after bytes_after
returns c =
    let p = c.before.before in
    record { number = refl; new_used = omega (arith, needed p.before.before); bytes = p.put_record.ensures }

pub append_spec : {M : Type 1} → statement M
append_spec =
    tie.close (tie.spec (λ c κs. search rules) overflow_add-end overflow_add-end-2 (λ c κs. search rules) (λ c. search rules) returns)
