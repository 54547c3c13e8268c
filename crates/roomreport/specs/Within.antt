-- The places of a run lie within its buffers.
use Rattle.std.specs.Prelude.{ℕ, ◌≤◌}
use Rattle.roomreport.specs.declared.State.{State}

-- a buffer for a line, and one for the output, of those lengths
pub record Within (line out : ℕ) (t : State) : Type 0 where
  pub kept : t.kept ≤ line
  pub unprinted : t.unprinted ≤ out
