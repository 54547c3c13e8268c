-- The word has the marks of the images from j on.
use Rattle.store_record.specs.Reading.{images_in}
use Rattle.policy_rows.specs.Accepting.{is_guard}
use Rattle.policy_rows.proofs.Rows.{Built}
use Rattle.policy_table.proofs.guards.Given as goal

abbrev pub invariant-loop-j : goal.invariant-loop-j
invariant-loop-j l = Built is_guard (images_in l.b l.v) l.v.count l.j l.word
