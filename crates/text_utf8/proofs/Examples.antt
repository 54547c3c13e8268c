-- Texts that the definitions are tried on: the ends of the ranges, and characters that are cut, too long, or surrogates.
-- Assumes nothing.
use Rattle.std.specs.Prelude.{Ok, Err}
use mathlib.Core.Path.{◌≡◌, refl}
use mathlib.Core.List.{[], ◌∷◌}
use Rattle.text_utf8.specs.Utf8.{within, table, lead_in, lead, verdict_from, verdict}
use Rattle.text_utf8.specs.Scalar.{encode}

-- The three bytes of the letter ka, U+0915, are well-formed.
pub ka : verdict (0xE0 ∷ 0xA4 ∷ 0x95 ∷ []) ≡ (Ok tt)
unfolding within table lead_in lead verdict_from verdict
ka = refl

-- The encoding of U+0915 is these three bytes.
pub ka_encoded : encode 0x0915 ≡ 0xE0 ∷ 0xA4 ∷ 0x95 ∷ []
unfolding encode
ka_encoded = refl

-- The four bytes of the last scalar value, U+10FFFF, are well-formed.
pub last : verdict (0xF4 ∷ 0x8F ∷ 0xBF ∷ 0xBF ∷ []) ≡ (Ok tt)
unfolding within table lead_in lead verdict_from verdict
last = refl

-- The encoding of U+10FFFF is these four bytes.
pub last_encoded : encode 0x10FFFF ≡ 0xF4 ∷ 0x8F ∷ 0xBF ∷ 0xBF ∷ []
unfolding encode
last_encoded = refl

-- The four bytes that would be U+110000 are not well-formed, and after one letter the fault is at offset 1.
pub past_the_last : verdict (0x41 ∷ 0xF4 ∷ 0x90 ∷ 0x80 ∷ 0x80 ∷ []) ≡ Err 1
unfolding within table lead_in lead verdict_from verdict
past_the_last = refl

-- The three bytes that would be the surrogate U+D800 are not well-formed.
pub surrogate : verdict (0xED ∷ 0xA0 ∷ 0x80 ∷ []) ≡ Err 0
unfolding within table lead_in lead verdict_from verdict
surrogate = refl

-- Two bytes for U+0000, which has an encoding of one byte, are not well-formed.
pub overlong_2 : verdict (0xC0 ∷ 0x80 ∷ []) ≡ Err 0
unfolding within table lead_in lead verdict_from verdict
overlong_2 = refl

-- Three bytes for U+07FF, which has an encoding of two, are not well-formed, and after two other bytes the fault is at offset 2.
pub overlong_3 : verdict (0xC3 ∷ 0xA9 ∷ 0xE0 ∷ 0x9F ∷ 0xBF ∷ []) ≡ Err 2
unfolding within table lead_in lead verdict_from verdict
overlong_3 = refl

-- Four bytes for U+FFFF, which has an encoding of three, are not well-formed.
pub overlong_4 : verdict (0xF0 ∷ 0x8F ∷ 0xBF ∷ 0xBF ∷ []) ≡ Err 0
unfolding within table lead_in lead verdict_from verdict
overlong_4 = refl

-- Where the text ends before the third byte of a character, the fault is at the character's first byte.
pub cut : verdict (0x41 ∷ 0xE2 ∷ 0x82 ∷ []) ≡ Err 1
unfolding within table lead_in lead verdict_from verdict
cut = refl

-- A tail byte after whole characters is a fault at its own offset.
pub tail_alone : verdict (0x41 ∷ 0x42 ∷ 0x80 ∷ []) ≡ Err 2
unfolding within table lead_in lead verdict_from verdict
tail_alone = refl

-- The empty text is well-formed.
pub empty : verdict [] ≡ (Ok tt)
unfolding within table lead_in lead verdict_from verdict
empty = refl
