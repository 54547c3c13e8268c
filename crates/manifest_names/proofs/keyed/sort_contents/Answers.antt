use native.Mathlib.Omega.{arith}
use lib.Seq.{length-take-le}
use Rattle.manifest_fields.proofs.Founds.{missing_members}
use Rattle.manifest_repeat.proofs.Groups.{group_at}
use Rattle.manifest_repeat.proofs.Sorting.{sorted_front}
use Rattle.manifest_names.proofs.Elsewhere.{once_settled}
use Rattle.manifest_names.proofs.Founds.{found_grouped, its_object}
use Rattle.manifest_names.proofs.Keying.{placed_keys, no_contents, contents_sorted}
use Rattle.manifest_names.proofs.keyed.sort_contents.Goals as goal

pub returns-in_default : goal.returns-in_default
returns-in_default c = (omega arith, λ o f. no_contents _ _ _ c.requires.long (missing_members _ _ _ o f c.in_default.is))

pub collect_contents-n-requires : goal.collect_contents-n-requires
collect_contents-n-requires c = record { group = group_at _ _ _ _ _ c.requires.group _ c.in-Some.is; long = c.requires.long }

pub sort_keys-requires : goal.sort_keys-requires
sort_keys-requires c =
    let g = c.requires.group in
    let w = c.collect_contents-n in (
      placed_keys
          (w.ensures.1 _ (its_object _ _ _ (found_grouped g) _ c.in-Some.is g.value g.finds) (once_settled _ (c.requires.once g.value g.finds))),
      omega (arith, w.ensures.0, w.auto.names, length-take-le w.result w.new.names w.ensures.0, g.sorting),
    )

pub returns : goal.returns
returns c =
    let w = c.collect_contents-n in
    let front = sorted_front _ _ _ _ w.ensures.0 c.sort_keys.auto.keys c.sort_keys.ensures in (
      front.within,
      λ o h. let z = once_settled _ (c.requires.once o h) in
          contents_sorted front (w.ensures.1 _ (its_object _ _ _ (found_grouped c.requires.group) _ c.in-Some.is o h) z) z
          (omega (arith, c.requires.long, w.auto.keys)),
    )
