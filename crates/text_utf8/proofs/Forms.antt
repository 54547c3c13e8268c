-- Which of its four forms the encoding of a number has, and the numbers that are scalar values, by bounds.
-- Assumes nothing.
use Prim.Native.Nat.{ℕ, ◌≤◌, ◌<◌}
use native.Mathlib.Omega.{arith}
use mathlib.Core.Path.{◌≡◌, refl}
use mathlib.Core.Logic.{◌⊎◌, inl, inr}
use mathlib.Core.Bool.{Bool, true, false}
use lib.Dec.{leb, ltb}
use borrow.Author.Tests.{lt-ltb, le-ltb, le-leb, ltb-true, leb-true}
use Rattle.text_utf8.specs.Scalar.{is_scalar, encode1, encode2, encode3, encode4, encode}
use Rattle.text_utf8.proofs.Ranges.{and_both}

module _ (c : ℕ) where
  -- The encoding of a number below 80 has the form of one byte.
  pub encode_1 : c < 0x80 → encode c ≡ encode1 c
  unfolding encode
  encode_1 h = simp (lt-ltb c 0x80 h)

  -- From 80 on and below 800 it has the form of two bytes.
  pub encode_2 : 0x80 ≤ c → c < 0x800 → encode c ≡ encode2 c
  unfolding encode
  encode_2 l h = simp (le-ltb c 0x80 l, lt-ltb c 0x800 h)

  -- From 800 on and below 10000 it has the form of three bytes.
  pub encode_3 : 0x800 ≤ c → c < 0x10000 → encode c ≡ encode3 c
  unfolding encode
  encode_3 l h = simp (le-ltb c 0x80 (omega arith), le-ltb c 0x800 l, lt-ltb c 0x10000 h)

  -- From 10000 on it has the form of four bytes.
  pub encode_4 : 0x10000 ≤ c → encode c ≡ encode4 c
  unfolding encode
  encode_4 l = simp (le-ltb c 0x80 (omega arith), le-ltb c 0x800 (omega arith), le-ltb c 0x10000 l)

  -- A number below D800 is a scalar value.
  pub scalar_low : c < 0xD800 → is_scalar c ≡ true
  unfolding is_scalar
  scalar_low h = simp (lt-ltb c 0xD800 h)

  -- A number from E000 on and below 110000 is a scalar value.
  pub scalar_high : 0xE000 ≤ c → c < 0x110000 → is_scalar c ≡ true
  unfolding is_scalar
  scalar_high l h = simp (le-ltb c 0xD800 (omega arith), le-leb 0xE000 c l, lt-ltb c 0x110000 h)

-- A scalar value is below D800, or from E000 on and below 110000.
pub scalar_bounds : (c : ℕ) → is_scalar c ≡ true → (c < 0xD800) ⊎ ((0xE000 ≤ c) × (c < 0x110000))
unfolding is_scalar
scalar_bounds c e = go (ltb c 0xD800) refl
  where
    go : (t : Bool) → ltb c 0xD800 ≡ t → (c < 0xD800) ⊎ ((0xE000 ≤ c) × (c < 0x110000))
    go true p = inl (ltb-true c 0xD800 p)
    go false p =
        let both = and_both (leb 0xE000 c) (ltb c 0x110000) (rw p at e) in
        inr (leb-true 0xE000 c both.0, ltb-true c 0x110000 both.1)
