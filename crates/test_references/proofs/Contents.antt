-- The string that a text is, where the text is one.
-- Assumes nothing.
use Prim.Native.Nat.{ℕ, ◌+◌, ◌<◌, ◌≤◌}
use mathlib.Core.Path.{◌≡◌, subst}
use mathlib.Core.List.{List}
use native.Mathlib.Omega.{arith}
use lib.ListN.{length}
use Rattle.text_content.specs.Value.{Value}
use Rattle.text_strings.specs.InString.{Inside}
use Rattle.text_strings.proofs.Cursors.{inside_within}
use Rattle.text_view.specs.Place.{ValueAt, kind_of}
use Rattle.text_view.specs.declared.Kind.TheVariants.{String}
use Rattle.text_view.proofs.ByKind.{is_a_string}
use Rattle.text_view.proofs.Strings.{string_value}

-- Where a value is a string, its content stands after the value's first byte.
pub string_inside : (s : List ℕ) (p d : ℕ) (v : Value) → ValueAt s p d v → kind_of v ≡ String → Inside s (p + 1)
string_inside s p d v h e =
    let k = is_a_string v e in
    let x = string_value s p k.0 d (subst (ValueAt s p d) k.1 h) in
    record { bytes = k.0; here = x.1 }

-- In a text of at most 16,384 bytes the content of a string begins before that many.
pub string_short : (s : List ℕ) (p d : ℕ) (v : Value) → length s ≤ 16384 → ValueAt s p d v → kind_of v ≡ String → p + 1 < 16384
string_short s p d v l h e = omega (arith, inside_within s (p + 1) (string_inside s p d v h e))
