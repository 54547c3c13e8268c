-- Reading a number's parts, one byte on from a position of the text.
-- Assumes nothing.
use Prim.Native.Nat.{ℕ, ◌+◌, ◌≤◌, ◌<◌}
use mathlib.Core.Path.{◌≡◌}
use mathlib.Core.List.{List, [], ◌∷◌}
use mathlib.Core.Bool.{true, false}
use borrow.Author.Tests.{ne_eqb}
use lib.ListN.{length, drop, get_or, drop_of_length-le}
use Rattle.text_json.specs.Bytes.{is_digit, is_exp, is_sign}
use Rattle.text_json.specs.Read.{found, stuck, and_then, digits_of, after_digits, read_some_digits, read_int, read_frac, read_signed, read_exp, read_unsigned, read_number}
use Rattle.text_json.proofs.Places.{drop_next}

module _ (s : List ℕ) (i : ℕ) where
  module _ (h : length s ≤ i) where
    -- Past the last byte of the text, reading a number is stuck.
    pub number_end : read_number (drop i s) ≡ stuck (drop i s)
    unfolding read_number
    number_end = rw drop_of_length-le

    -- Past the last byte there are no digits.
    pub digits_end : digits_of (drop i s) ≡ []
    unfolding digits_of
    digits_end = rw drop_of_length-le

    -- Past the last byte, the rest after the digits is the rest from there.
    pub after_end : after_digits (drop i s) ≡ drop i s
    unfolding after_digits
    after_end = rw drop_of_length-le

    -- Past the last byte, reading one digit or more is stuck.
    pub some_end : read_some_digits (drop i s) ≡ stuck (drop i s)
    unfolding read_some_digits
    some_end = rw drop_of_length-le

    -- Past the last byte, reading an integer part is stuck.
    pub int_end : read_int (drop i s) ≡ stuck (drop i s)
    unfolding read_int
    int_end = rw drop_of_length-le

    -- Past the last byte, reading finds that there is no fraction.
    pub frac_end : read_frac (drop i s) ≡ found true (drop i s)
    unfolding read_frac
    frac_end = rw drop_of_length-le

    -- Past the last byte, reading the digits of an exponent, with or without a sign, is stuck.
    pub signed_end : read_signed (drop i s) ≡ stuck (drop i s)
    unfolding read_signed
    signed_end = rw drop_of_length-le

    -- Past the last byte, reading finds that there is no exponent.
    pub exp_end : read_exp (drop i s) ≡ found true (drop i s)
    unfolding read_exp
    exp_end = rw drop_of_length-le

  module _ (h : i < length s) where
    -- At a minus sign, a number is read as a negative one, without its sign, from the next position.
    pub number_minus : get_or s i 0 ≡ 0x2D → read_number (drop i s) ≡ read_unsigned true (drop (i + 1) s)
    unfolding read_number
    number_minus e = rw (drop_next s i h, read_number, e)

    -- At any other byte, a number is read as one that is not negative, from there.
    pub number_plain : (get_or s i 0 ≡ 0x2D → ⊥) → read_number (drop i s) ≡ read_unsigned false (drop i s)
    unfolding read_number
    number_plain e = rw (drop_next s i h, read_number, ne_eqb _ _ e)

    -- At a digit, the digits are that one and those from the next position.
    pub digits_more : is_digit (get_or s i 0) ≡ true → digits_of (drop i s) ≡ get_or s i 0 ∷ digits_of (drop (i + 1) s)
    unfolding digits_of
    digits_more e = rw (drop_next s i h, digits_of, e)

    -- At a byte that is no digit, there are no digits.
    pub digits_stop : is_digit (get_or s i 0) ≡ false → digits_of (drop i s) ≡ []
    unfolding digits_of
    digits_stop e = rw (drop_next s i h, digits_of, e)

    -- At a digit, the rest after the digits is the one after the digits from the next position.
    pub after_more : is_digit (get_or s i 0) ≡ true → after_digits (drop i s) ≡ after_digits (drop (i + 1) s)
    unfolding after_digits
    after_more e = rw (drop_next s i h, after_digits, e)

    -- At a byte that is no digit, the rest after the digits begins there.
    pub after_stop : is_digit (get_or s i 0) ≡ false → after_digits (drop i s) ≡ drop i s
    unfolding after_digits
    after_stop e = rw (drop_next s i h, after_digits, e)

    -- At a digit, one digit or more is found, and the rest is the one after all digits.
    pub some_more : is_digit (get_or s i 0) ≡ true → read_some_digits (drop i s) ≡ found tt (after_digits (drop (i + 1) s))
    unfolding read_some_digits
    some_more e = rw (drop_next s i h, read_some_digits, e)

    -- At a byte that is no digit, reading one digit or more is stuck there.
    pub some_stop : is_digit (get_or s i 0) ≡ false → read_some_digits (drop i s) ≡ stuck (drop i s)
    unfolding read_some_digits
    some_stop e = rw (drop_next s i h, read_some_digits, e)

    -- At the digit 0, the integer part is that digit alone.
    pub int_zero : get_or s i 0 ≡ 0x30 → read_int (drop i s) ≡ found (0x30 ∷ []) (drop (i + 1) s)
    unfolding read_int
    int_zero e = rw (drop_next s i h, e)

    -- At another digit, the integer part is that digit and those from the next position.
    pub int_more : (get_or s i 0 ≡ 0x30 → ⊥) → is_digit (get_or s i 0) ≡ true
        → read_int (drop i s) ≡ found (get_or s i 0 ∷ digits_of (drop (i + 1) s)) (after_digits (drop (i + 1) s))
    unfolding read_int
    int_more z e = rw (drop_next s i h, read_int, ne_eqb _ _ z, e)

    -- At a byte that is no digit, reading an integer part is stuck there.
    pub int_stop : (get_or s i 0 ≡ 0x30 → ⊥) → is_digit (get_or s i 0) ≡ false → read_int (drop i s) ≡ stuck (drop i s)
    unfolding read_int
    int_stop z e = rw (drop_next s i h, read_int, ne_eqb _ _ z, e)

    -- At a decimal point there is a fraction, of which one digit or more is read from the next position.
    pub frac_more : get_or s i 0 ≡ 0x2E → read_frac (drop i s) ≡ and_then (read_some_digits (drop (i + 1) s)) (λ _ r. found false r)
    unfolding read_frac
    frac_more e = rw (drop_next s i h, read_frac, e)

    -- At any other byte, reading finds that there is no fraction, and the rest begins there.
    pub frac_stop : (get_or s i 0 ≡ 0x2E → ⊥) → read_frac (drop i s) ≡ found true (drop i s)
    unfolding read_frac
    frac_stop e = rw (drop_next s i h, read_frac, ne_eqb _ _ e)

    -- At a sign, the digits of an exponent are read from the next position.
    pub signed_more : is_sign (get_or s i 0) ≡ true → read_signed (drop i s) ≡ read_some_digits (drop (i + 1) s)
    unfolding read_signed
    signed_more e = rw (drop_next s i h, read_signed, e)

    -- At any other byte, the digits of an exponent are read from there.
    pub signed_stop : is_sign (get_or s i 0) ≡ false → read_signed (drop i s) ≡ read_some_digits (drop i s)
    unfolding read_signed
    signed_stop e = rw (drop_next s i h, read_signed, e)

    -- At a letter e of either case there is an exponent, of which a sign or none and digits are read from the next position.
    pub exp_more : is_exp (get_or s i 0) ≡ true → read_exp (drop i s) ≡ and_then (read_signed (drop (i + 1) s)) (λ _ r. found false r)
    unfolding read_exp
    exp_more e = rw (drop_next s i h, read_exp, e)

    -- At any other byte, reading finds that there is no exponent, and the rest begins there.
    pub exp_stop : is_exp (get_or s i 0) ≡ false → read_exp (drop i s) ≡ found true (drop i s)
    unfolding read_exp
    exp_stop e = rw (drop_next s i h, read_exp, e)
