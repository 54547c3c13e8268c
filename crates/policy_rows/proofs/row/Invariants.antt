-- The word has a mark for each image that one of the rules before this one matches.
use Rattle.manifest.specs.Manifest.{rules as rules_of}
use Rattle.store_record.specs.Reading.{images_in}
use Rattle.policy_rows.specs.Accepting.{matches_image}
use Rattle.policy_rows.proofs.Joining.{Joined}
use Rattle.policy_rows.proofs.row.Given as goal

abbrev pub invariant-loop-j : goal.invariant-loop-j
invariant-loop-j l = Joined matches_image (images_in l.b l.v) (rules_of l.s) l.v.count l.j l.word
