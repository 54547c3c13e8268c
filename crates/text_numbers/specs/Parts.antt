-- The parts of a number, read in place.
use Rattle.std.specs.Prelude.{ℕ, ◌+◌, ◌≤◌, ◌<◌, min, ◌≡◌, List, Bool, true, false, not, ◌&&◌, ◌||◌, length, drop, eqb, ltb, Result, Ok, Err}
use Rattle.text_json.specs.Read.{Read, found, stuck, and_then, digits_of, after_digits, read_int, read_frac, read_exp}
use Rattle.text_json.specs.Content.{decimal, decimal_from, limit}
use Rattle.text_json.specs.declared.Token.{Token}
use Rattle.text_numbers.specs.declared.Run.{Run}
use Rattle.text_numbers.specs.declared.NumberPart.{NumberPart}

-- both numbers are the same, or both are above every number of 32 bits
abbrev pub Near : ℕ → ℕ → Type 0
Near n m = min 0x100000000 n ≡ min 0x100000000 m

-- the digits at a position, after those that make up n
pub record Runs (s : List ℕ) (at n : ℕ) (r : Run) : Type 0 where
  pub inside : r.end ≤ length s
  pub rest : after_digits (drop at s) ≡ drop r.end s
  pub count : at + length (digits_of (drop at s)) ≡ r.end
  pub value : Near r.value (decimal_from n (digits_of (drop at s)))

-- the digits ds, of which v is the value
pub record IntAt (s : List ℕ) (at e v : ℕ) : Type 0 where
  pub inside : e ≤ length s
  pub some : at < e
  pub digits : List ℕ
  pub read : read_int (drop at s) ≡ found digits (drop e s)
  pub count : at + length digits ≡ e
  pub value : Near v (decimal digits)

-- reading goes from `at` to e, where it ends or is stuck
pub record ReadTo {A : Type 0} (s : List ℕ) (at e : ℕ) (x : Read A) (y : Read A) : Type 0 where
  pub past : at ≤ e
  pub inside : e ≤ length s
  pub read : x ≡ y

abbrev pub Ints : List ℕ → ℕ → Result Run ℕ → Type 0
Ints s at (Ok r) = IntAt s at r.end r.value
Ints s at (Err e) = ReadTo s at e (read_int (drop at s)) (stuck (drop e s))

abbrev pub Parts : List ℕ → ℕ → Read Bool → Result NumberPart ℕ → Type 0
Parts s at x (Ok p) = ReadTo s at p.end x (found p.whole (drop p.end s))
Parts s at x (Err e) = ReadTo s at e x (stuck (drop e s))

abbrev pub Reaches : List ℕ → ℕ → Read (Unit {0}) → Result ℕ ℕ → Type 0
Reaches s at x (Ok e) = ReadTo s at e x (found tt (drop e s))
Reaches s at x (Err e) = ReadTo s at e x (stuck (drop e s))

-- [ frac ] [ exp ]
unfoldable pub read_tail : List ℕ → Read Bool
read_tail s = and_then (read_frac s) (λ f r. and_then (read_exp r) (λ e q. found (f && e) q))

-- what document 01 refuses, of a number's parts
unfoldable pub refused_parts : Bool → ℕ → Bool → Bool
refused_parts negative n whole = not whole || (negative && eqb n 0 || ltb (limit negative) n)

-- the length of a sign
abbrev pub signs : Bool → ℕ
signs true = 1
signs false = 0

-- a number without the sign before it, whose canonical form counts the sign
abbrev pub WithSign : Bool → ℕ → Result Token ℕ → Type 0
WithSign negative at (Ok t) = (at < t.end) × (at + t.size ≤ t.end + signs negative)
WithSign negative at (Err e) = at ≤ e
