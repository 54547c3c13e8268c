-- `text_canonical::sorted_keys` meets its contract. Assumes nothing.
use borrow.Author.Rules.{rules}
use mathlib.Core.Path.{sym}
use native.Mathlib.Omega.{arith}
use lib.Seq.{length-take-le}
use Rattle.text_canonical.proofs.Collect.{sorted}
use Rattle.text_canonical.proofs.sorted_keys.Statement.{statement}
use Rattle.text_canonical.proofs.sorted_keys.Tie as tie

slice_bounds-sort_keys-end-2 : tie.Need-slice_bounds-sort_keys-end-2
slice_bounds-sort_keys-end-2 c =
    let f = c.collect_keys-count in
    sym (length-take-le _ _ (omega (arith, f.ensures.0, f.auto.keys)))

sort_keys-requires : tie.Need-sort_keys-requires
sort_keys-requires c κs =
    let f = c.collect_keys-count in
    let b = c.before.before.before.before.before.before.before.before.before in (
      f.ensures.1.keys,
      omega (
        arith,
        f.ensures.0,
        f.auto.keys,
        length-take-le f.result f.new.keys (omega (arith, f.ensures.0, f.auto.keys)),
        b.requires.1,
      ),
    )

returns : tie.Need-returns
returns c =
    let f = c.collect_keys-count in
    let g = c.sort_keys in
    sorted _ _ _ f.result f.new.keys g.new.keys (omega (arith, f.ensures.0, f.auto.keys)) f.ensures.1 g.ensures
    g.auto.keys

pub sorted_keys_spec : {M : Type 1} → statement M
sorted_keys_spec =
    tie.close (tie.spec (λ c κs. search rules) (λ c. search rules) slice_bounds-sort_keys-end-2 sort_keys-requires (λ c. search rules)
    (λ c. search rules) returns)
