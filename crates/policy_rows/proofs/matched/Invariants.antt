-- The word has the marks of the images from j on.
use Rattle.reference.specs.References.{Rule}
use Rattle.manifest.specs.Opened.{ReadsRule}
use Rattle.store_record.specs.Reading.{images_in}
use Rattle.policy_rows.specs.Accepting.{matches_image}
use Rattle.policy_rows.proofs.Rows.{Built}
use Rattle.policy_rows.proofs.matched.Given as goal

abbrev pub invariant-loop-j : goal.invariant-loop-j
invariant-loop-j l = (y : Rule) → ReadsRule l.s l.x y → Built (matches_image y) (images_in l.b l.v) l.v.count l.j l.word
