-- The measure goes by the nesting that is left. Both loops keep that what was read, with what is left, is the whole, and that the arrays of keys are as
-- long as they were.
use Rattle.std.proofs.Common.{◌≡◌, ◌+◌, ◌-◌, ◌*◌, ◌≤◌, length, take}
use Rattle.text_scan.proofs.Arrays.{ArrayScanned}
use Rattle.text_scan.proofs.Objects.{ObjectScanned}
use Rattle.text_scan.proofs.+array_inner_object_value.Given as goal

abbrev pub decreases-array : goal.decreases-array
decreases-array l = 3 * l.depth + 2

abbrev pub decreases-inner : goal.decreases-inner
decreases-inner l = 3 * l.depth + 1

abbrev pub decreases-object : goal.decreases-object
decreases-object l = 3 * l.depth + 2

abbrev pub decreases-value : goal.decreases-value
decreases-value l = 3 * l.depth

abbrev pub invariant-array-loop-v : goal.invariant-array-loop-v
invariant-array-loop-v l =
    record {
      scanned : ArrayScanned l.s l.fn.at l.fn.depth l.i l.sum;
      same_keys : length l.keys ≡ length l.initial.keys;
      same_spare : length l.spare ≡ length l.initial.spare;
    }

abbrev pub decreases-array-loop-v : goal.decreases-array-loop-v
decreases-array-loop-v l = length l.s - l.i

abbrev pub invariant-object-loop-token : goal.invariant-object-loop-token
invariant-object-loop-token l =
    record {
      scanned : ObjectScanned l.s l.fn.at l.fn.depth l.i (take l.n l.keys) l.sum;
      counted : l.n ≤ length l.keys;
      same_keys : length l.keys ≡ length l.initial.keys;
      same_spare : length l.spare ≡ length l.initial.spare;
    }

abbrev pub decreases-object-loop-token : goal.decreases-object-loop-token
decreases-object-loop-token l = length l.s - l.i
