-- When a name is an alias, and tests of a string one after the other. Assumes nothing.
use Prim.Native.Nat.{ℕ, ◌≤◌, ◌<◌}
use mathlib.Core.Path.{◌≡◌, refl, ap, sym, ◌∙◌}
use mathlib.Core.List.{List}
use mathlib.Core.Bool.{Bool, true, false, not, ◌&&◌, and-false, ◌||◌}
use lib.Dec.{eqb}
use borrow.Author.Tests.{le-leb, lt-leb, eq-eqb, ne_eqb}
use Rattle.reference_parts.specs.Parts.{is_divided, first_part}
use Rattle.reference_parts.specs.Readings.{Counts, PartAt}
use Rattle.reference_parts.specs.declared.part.Part.{Part}
use Rattle.reference_parts.proofs.Counting.{first_undivided, first_whole}
use Rattle.reference_digests.specs.Algorithms.{hex_digits}
use Rattle.reference_digests.specs.declared.algorithm.Algorithm.TheVariants.{Sha224, Sha256, Sha384}
use Rattle.reference_aliases.specs.Aliases.{is_reserved, is_digest_length, is_name_length, is_alias}
use Rattle.text_strings.specs.InString.{content_from}
use Rattle.reference_parts.proofs.Parts.{is_last}

-- a test that holds, or else another one
pub or_taken : (a b r : Bool) → r ≡ a → r ≡ true → r ≡ (a || b)
or_taken a b r e f = rw (← e, f)

-- Where the first test fails, whether one of two holds is what the second answers.
pub or_left : (a b x r : Bool) → x ≡ a → x ≡ false → r ≡ b → r ≡ (a || b)
or_left a b x r e f g = rw (← e, f) g

module _ (s : List ℕ) (i : ℕ) (p : Part) (k : PartAt s i p) where
  -- the last part is the whole content
  pub whole : p.last ≡ true → first_part (content_from s i) ≡ content_from s i
  whole e = first_whole (content_from s i) (is_last (content_from s i) p k.counts e)

-- lengths of names
module _ (n : ℕ) (hex : Bool) where
  -- The length 0 is no name's length.
  pub no_bytes : n < 1 → is_name_length n hex ≡ false
  unfolding is_name_length
  no_bytes h = rw (lt-leb _ _ h)

  -- A length above 255 is no name's length.
  pub too_many : 1 ≤ n → 255 < n → is_name_length n hex ≡ false
  unfolding is_name_length
  too_many l h = rw (le-leb _ _ l, lt-leb _ _ h)

  -- A length from 1 to 255 is a name's length, except that of a digest where all bytes are hexadecimal digits.
  pub some_bytes : 1 ≤ n → n ≤ 255 → is_name_length n hex ≡ not (hex && is_digest_length n)
  unfolding is_name_length
  some_bytes l h = rw (le-leb _ _ l, le-leb _ _ h)

-- an alias by what is counted of it
module _ (c : List ℕ) (p : Part) (k : Counts c p) where
  -- A first part with a name's length is an alias exactly if it is not reserved.
  pub alias_length : is_name_length p.length p.hex ≡ true → not (is_reserved (first_part c)) ≡ is_alias (first_part c)
  unfolding is_alias
  alias_length e = rw (← k.size, ← k.hex, e, first_undivided c)

  -- A first part without a name's length is no alias.
  pub no_alias_length : is_name_length p.length p.hex ≡ false → is_alias (first_part c) ≡ false
  unfolding is_alias
  no_alias_length e = rw (← k.size, ← k.hex, e)

-- What has a `/` is no alias.
pub divided_alias : (c : List ℕ) → is_divided c ≡ true → is_alias c ≡ false
unfolding is_alias
divided_alias c e = rw (e, and-false)

-- a number of digits that some digest has
pub known_length : (k n r : ℕ) → r ≡ k → n ≡ r → is_digest_length k ≡ true → eqb n r ≡ is_digest_length n
known_length k n r e f h = eq-eqb n r f ∙ sym (ap is_digest_length (f ∙ e) ∙ h)

-- A number of digits that no algorithm has is a digest's exactly if it is 128.
pub other_length : (n : ℕ) → (n ≡ hex_digits Sha224 → ⊥) → (n ≡ hex_digits Sha256 → ⊥) → (n ≡ hex_digits Sha384 → ⊥) → eqb n 128 ≡ is_digest_length n
unfolding is_digest_length
other_length n a b c = rw (ne_eqb n (hex_digits Sha224) a, ne_eqb n (hex_digits Sha256) b, ne_eqb n (hex_digits Sha384) c)

-- The numbers of digits of the three algorithms are those of digests.
pub lengths_known : (is_digest_length (hex_digits Sha224) ≡ true) × (is_digest_length (hex_digits Sha256) ≡ true) × (is_digest_length (hex_digits Sha384) ≡ true)
unfolding is_digest_length
lengths_known = (refl, refl, refl)
