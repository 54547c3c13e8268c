-- A text that is taken, by the length of its canonical form and whether it is that form itself.
use Rattle.std.specs.Prelude.{ℕ, Bool, Result, Ok}
use Rattle.text.specs.declared.Accepted.{Accepted}
use Rattle.text.specs.declared.Fault.{Fault}

abbrev pub accepted_text : ℕ → Bool → Result Accepted Fault
accepted_text n c = Ok (record { length = n; canonical = c })
