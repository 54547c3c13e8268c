-- The lower-case hexadecimal digits, of which digests are made (document 01, "References, names and rules").
use Rattle.std.specs.Prelude.{ℕ, Bool, ◌||◌}
use Rattle.text_json.specs.Bytes.{between}

unfoldable pub is_lower_hex : ℕ → Bool
is_lower_hex b = between 0x30 0x39 b || between 0x61 0x66 b
