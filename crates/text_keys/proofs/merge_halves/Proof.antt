use borrow.Author.Rules.{rules}
use mathlib.Core.Path.{sym, subst, ◌∙◌}
use native.Mathlib.Omega.{arith}
use lib.ListN.{length-take}
use lib.Seq.{length-take-le}
use Rattle.text_keys.specs.Keys.{KeysAt}
use Rattle.text_keys.proofs.Keys.{keys_take}
use Rattle.text_keys.proofs.Sorts.{copied, merge_copied}
use Rattle.text_keys.proofs.merge_halves.Statement.{statement}
use Rattle.text_keys.proofs.merge_halves.Tie as tie

slice_bounds-copy_keys-end-2 : tie.Need-slice_bounds-copy_keys-end-2
slice_bounds-copy_keys-end-2 c = sym (length-take-le _ _ c.requires.1)

copy_keys-requires : tie.Need-copy_keys-requires
copy_keys-requires c κs = rw (length-take) (omega arith)

slice_bounds-merge_back-end-2 : tie.Need-slice_bounds-merge_back-end-2
slice_bounds-merge_back-end-2 c = sym (length-take-le _ _ (search rules))

merge_back-requires : tie.Need-merge_back-requires
merge_back-requires c κs =
    let a = c.before.before.before.before.before.before.before.before in
    let e = copied a.args.mid a.args.keys.now c.copy_keys.new.to a.requires.1
    c.copy_keys.ensures in
    (subst (KeysAt a.args.s.now) (sym e) (keys_take a.args.mid a.requires.0), a.requires.0, rw length-take (omega arith))

returns : tie.Need-returns
returns c =
    let a = c.before.before.before.before.before.before.before.before.before.before.before in
    let k = c.copy_keys in
    c.merge_back.ensures ∙ merge_copied a.args.s.now a.args.mid a.args.keys.now k.new.to a.requires.1 k.ensures

pub merge_halves_spec : {M : Type 1} → statement M
merge_halves_spec =
    tie.close (tie.spec (λ c. search rules) slice_bounds-copy_keys-end-2 copy_keys-requires (λ c. search rules) slice_bounds-merge_back-end-2
    merge_back-requires (λ c. search rules) (λ c. search rules) returns)
