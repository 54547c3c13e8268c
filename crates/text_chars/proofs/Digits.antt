-- The four hexadecimal digits of a \u escape, by how many of them are left.
use Rattle.std.proofs.Common.{arith, ◌≡◌, ◌+◌, ◌*◌, ◌-◌, ◌≤◌, ◌<◌, ℕ, zero, suc, List, true, false, length, drop}
use lib.ListN.{get_or}
use Rattle.text_json.specs.Bytes.{is_hex, hex_value}
use Rattle.text_json.specs.Syntax.{Char, unit}
use Rattle.text_json.specs.Read.{Read, stuck, prepend, read_chars, char, hex}
use Rattle.text_chars.proofs.CharSteps.{chars_end, hex_more, hex_last, hex_stop}

-- what is read where k digits are left and those before make up n
abbrev pub digits_left : ℕ → ℕ → List ℕ → Read (List Char)
digits_left zero n r = prepend (unit n) (read_chars char r)
digits_left (suc k) n r = read_chars (hex k n) r

-- what the digits before can make up
abbrev pub bound : ℕ → ℕ
bound zero = 65536
bound (suc zero) = 4096
bound (suc (suc zero)) = 256
bound (suc (suc (suc zero))) = 16
bound (suc (suc (suc (suc k)))) = 1

-- There are never more than 16 bits.
pub bound_most : (k : ℕ) → bound k ≤ 65536
bound_most zero = omega arith
bound_most (suc zero) = omega arith
bound_most (suc (suc zero)) = omega arith
bound_most (suc (suc (suc zero))) = omega arith
bound_most (suc (suc (suc (suc k)))) = omega arith

-- A digit more makes up at most what one digit less leaves.
pub bound_more : (k n d : ℕ) → k ≤ 3 → n < bound (suc k) → d < 16 → n * 16 + d < bound k
bound_more zero n d small h l = omega arith
bound_more (suc zero) n d small h l = omega arith
bound_more (suc (suc zero)) n d small h l = omega arith
bound_more (suc (suc (suc zero))) n d small h l = omega arith
bound_more (suc (suc (suc (suc k)))) n d small h l = absurd (omega arith)

module _ (s : List ℕ) (i n : ℕ) where
  -- A digit is read, and those after it are left.
  pub digit_more : (k : ℕ) → i < length s → is_hex (get_or s i 0) ≡ true
      → digits_left (suc k) n (drop i s) ≡ digits_left k (n * 16 + hex_value (get_or s i 0)) (drop (i + 1) s)
  digit_more zero h e = hex_last s i h n e
  digit_more (suc k) h e =
      let one : suc k - 1 ≡ k = omega arith in
      rw one at (hex_more s i h n (suc k) (λ z. omega arith) e)

  -- Where no digit stands, or the text ends, reading is stuck.
  pub digit_stop : (k : ℕ) → i < length s → is_hex (get_or s i 0) ≡ false → digits_left (suc k) n (drop i s) ≡ stuck (drop i s)
  digit_stop k h e = hex_stop s i h n k e

  pub digit_end : (k : ℕ) → length s ≤ i → digits_left (suc k) n (drop i s) ≡ stuck (drop i s)
  digit_end k h = chars_end s i (hex k n) h
