-- The rows of the images before this one are written.
use Rattle.std.proofs.Common.{map}
use Rattle.store_record.specs.Image.{Image}
use Rattle.store_record.specs.Reading.{images_in}
use Rattle.policy_rows.specs.Accepting.{accepts_image}
use Rattle.policy_rows.proofs.Rows.{Filled}
use Rattle.policy_table.proofs.table.Given as goal

abbrev pub invariant-loop-i : goal.invariant-loop-i
invariant-loop-i l = Filled (λ (x : Image). map (accepts_image x) (images_in l.b l.v)) (images_in l.b l.v) l.v.count l.i l.rows
