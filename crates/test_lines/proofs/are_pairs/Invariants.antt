-- All bytes are digits exactly if those from this one on are.
use Rattle.std.proofs.Common.{◌≡◌, drop}
use Rattle.text_chars.specs.Measure.{every}
use Rattle.reference_parts.specs.Hex.{is_lower_hex}
use Rattle.test_lines.proofs.are_pairs.Given as goal

abbrev pub invariant-loop-b : goal.invariant-loop-b
invariant-loop-b l = every is_lower_hex (drop l.b-index l.hex) ≡ every is_lower_hex l.hex
