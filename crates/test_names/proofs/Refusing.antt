-- A manifest that checking refuses has a number of its own. Assumes nothing.
use Prim.Native.Nat.{ℕ, ◌<◌}
use mathlib.Core.Path.{◌≡◌, sym, ap, ◌∙◌}
use mathlib.Core.List.{List}
use native.Mathlib.Omega.{arith}
use Rattle.text.specs.Answer.{fault_number as text_fault_number}
use Rattle.text.specs.declared.Fault.{Fault as TextFault}
use Rattle.text.specs.declared.Fault.TheVariants.{TooLong, NotUtf8, NotJson, BadString, BadNumber, SameKeys}
use Rattle.manifest.specs.Number.{manifest_text_number}
use Rattle.manifest.specs.Answer.{fault_number, number_of, Answers}
use Rattle.manifest.specs.declared.Fault.{Fault}
use Rattle.manifest.specs.declared.Fault.TheVariants.{Text, BadField, BadForm, RepeatedAlias}
use Rattle.manifest.specs.declared.Good.{Good}
use Rattle.std.specs.Prelude.{Result, Err}

text_numbered : (f : TextFault) → 0 < text_fault_number f
text_numbered TooLong = omega arith
text_numbered (NotUtf8 at) = omega arith
text_numbered (NotJson at) = omega arith
text_numbered (BadString at) = omega arith
text_numbered (BadNumber at) = omega arith
text_numbered (SameKeys at) = omega arith

numbered : (f : Fault) → 0 < fault_number f
numbered (Text f) = text_numbered f
numbered BadField = omega arith
numbered BadForm = omega arith
numbered RepeatedAlias = omega arith

-- What checking refuses does not get the number 0.
pub refused_numbered : (s : List ℕ) {r : Result Good Fault} {f : Fault} → Answers s r → r ≡ Err f → manifest_text_number s ≡ 0 → ⊥
refused_numbered s {r} {f} a e z =
    let n : fault_number f ≡ 0 = ap number_of (sym e) ∙ a.number ∙ z in
    absurd (omega (arith, numbered f))
