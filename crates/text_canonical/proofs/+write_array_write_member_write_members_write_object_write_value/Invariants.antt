-- The measure goes by the depth. Both loops keep that what is written, with what is left, is the canonical form of the whole, and that the arrays of keys
-- are as long as they were.
use Rattle.std.proofs.Common.{◌≡◌, ◌+◌, ◌-◌, ◌*◌, length}
use Rattle.text_canonical.proofs.Arrays.{ArrayWritten}
use Rattle.text_canonical.proofs.Objects.{ObjectWritten}
use Rattle.text_canonical.proofs.+write_array_write_member_write_members_write_object_write_value.Given as goal

abbrev pub decreases-write_array : goal.decreases-write_array
decreases-write_array l = 4 * l.depth + 1

abbrev pub decreases-write_member : goal.decreases-write_member
decreases-write_member l = 4 * l.depth + 3

abbrev pub decreases-write_members : goal.decreases-write_members
decreases-write_members l = 4 * l.depth

abbrev pub decreases-write_object : goal.decreases-write_object
decreases-write_object l = 4 * l.depth + 1

abbrev pub decreases-write_value : goal.decreases-write_value
decreases-write_value l = 4 * l.depth + 2

abbrev pub invariant-write_array-loop-value : goal.invariant-write_array-loop-value
invariant-write_array-loop-value l =
    record {
      written : ArrayWritten l.s l.fn.at l.fn.depth l.initial.out l.initial.keys l.initial.spare l.out l.n l.start l.i;
      same_keys : length l.keys ≡ length l.initial.keys;
      same_spare : length l.spare ≡ length l.initial.spare;
    }

abbrev pub decreases-write_array-loop-value : goal.decreases-write_array-loop-value
decreases-write_array-loop-value l = length l.s - l.i

abbrev pub invariant-write_members-loop-i : goal.invariant-write_members-loop-i
invariant-write_members-loop-i l =
    record {
      written : ObjectWritten l.s l.fn.at l.fn.depth l.initial.out l.initial.keys l.initial.spare l.out l.keys l.fn.count l.n l.i;
      same_spare : length l.spare ≡ length l.initial.spare;
    }
