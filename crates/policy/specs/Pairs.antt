-- The pairs of a report on some images, computed (document 01, "The room"): their table of who accepts whom, its closure, and the guards.
-- That these are the pairs which document 01 speaks of is the law `exact` (Exact).
use Rattle.std.specs.Prelude.{List}
use Rattle.policy_marks.specs.Pairs.{Pair, pairs_of}
use Rattle.policy_rows.specs.Accepting.{guards, marks}
use Rattle.store_record.specs.Image.{Image}

unfoldable pub pairs : List Image → List Pair
pairs xs = pairs_of (guards xs) (marks xs)
