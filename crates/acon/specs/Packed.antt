-- How an answer's numbers go into one of 64 bits: bits 0 to 7 are the number of document 01's table, bits 8 to 31 the first value, and
-- bits 32 to 63 the second.
use Rattle.std.specs.Prelude.{ℕ, ◌+◌, ◌*◌}

unfoldable pub packed : ℕ → ℕ → ℕ → ℕ
packed number first second = number + first * 0x100 + second * 0x100000000
