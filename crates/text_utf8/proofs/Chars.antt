-- One character at a place of a text: what the functions inside the crate find out, said of the verdict.
-- Assumes nothing.
use Rattle.std.specs.Prelude.{Result, Ok, Err}
use Prim.Native.Nat.{ℕ, zero, suc, ◌+◌, ◌≤◌, ◌<◌}
use native.Mathlib.Nat.{add-zero}
use native.Mathlib.Numerals.{add-one}
use native.Mathlib.Omega.{arith}
use mathlib.Core.Path.{◌≡◌, refl, sym, ap, ◌∙◌}
use mathlib.Core.Bool.{Bool, true, false, cond, true≢false, false≢true}
use mathlib.Core.List.{List, [], ◌∷◌}
use lib.ListN.{length, get_or, drop, length-drop, drop_of_length-le}
use lib.Seq.{drop-cons, drop-drop}
use Rattle.text_utf8.specs.Utf8.{Range, within, Lead, follows, none, lead, verdict_from}
use Rattle.text_utf8.specs.Char.{meets, char_len}
use Rattle.text_utf8.proofs.Ranges.{lead_1}
use Rattle.text_utf8.proofs.Steps.{verdict_follows, verdict_none, verdict_met, verdict_unmet}

meets_cons : (r : Range) (rs : List Range) (b : ℕ) (s : List ℕ) → within r b ≡ true → meets (r ∷ rs) (b ∷ s) ≡ meets rs s
unfolding meets
meets_cons r rs b s e = rw (e, meets)

misses_cons : (r : Range) (rs : List Range) (b : ℕ) (s : List ℕ) → within r b ≡ false → meets (r ∷ rs) (b ∷ s) ≡ false
unfolding meets
misses_cons r rs b s e = rw (e, meets)

-- one byte at a place, by its test
module _ (r : Range) (s : List ℕ) (i : ℕ) where
  -- Where the byte at a place is in a range, the text from there on starts with a byte in it.
  pub byte_meets : i < length s → within r (get_or s i 0) ≡ true → meets (r ∷ []) (drop i s) ≡ true
  unfolding meets
  byte_meets h e = rw (drop-cons s i 0 h) (meets_cons r [] (get_or s i 0) (drop (suc i) s) e)

  -- Where the byte at a place is not in a range, the text from there on does not start with a byte in it.
  pub byte_misses : i < length s → within r (get_or s i 0) ≡ false → meets (r ∷ []) (drop i s) ≡ false
  byte_misses h e = rw (drop-cons s i 0 h) (misses_cons r [] (get_or s i 0) (drop (suc i) s) e)

  -- The text from its end on does not start with a byte in a range.
  pub end_misses : length s ≤ i → meets (r ∷ []) (drop i s) ≡ false
  unfolding meets
  end_misses h = rw (drop_of_length-le s h)

first_meets : (r : Range) (rs : List Range) (s : List ℕ) → meets (r ∷ []) s ≡ true → meets (r ∷ rs) s ≡ meets rs (drop 1 s)
unfolding meets
first_meets r rs [] e = absurd (false≢true e)
first_meets r rs (b ∷ s) e = go (within r b) refl
  where
    go : (w : Bool) → within r b ≡ w → meets (r ∷ rs) (b ∷ s) ≡ meets rs s
    go true p = meets_cons r rs b s p
    go false p = absurd (false≢true (sym (misses_cons r [] b s p) ∙ e))

first_misses : (r : Range) (rs : List Range) (s : List ℕ) → meets (r ∷ []) s ≡ false → meets (r ∷ rs) s ≡ false
unfolding meets
first_misses r rs [] e = refl
first_misses r rs (b ∷ s) e = go (within r b) refl
  where
    go : (w : Bool) → within r b ≡ w → meets (r ∷ rs) (b ∷ s) ≡ false
    go true p = absurd (true≢false (sym (meets_cons r [] b s p) ∙ e))
    go false p = misses_cons r rs b s p

-- several bytes from a place, by the answer x of the test of the first
module _ (r : Range) (rs : List Range) (s : List ℕ) (i : ℕ) (x : Bool) (e : x ≡ meets (r ∷ []) (drop i s)) where
  -- Where the first byte is in its range, all ranges are met exactly where the others are met from the next place on.
  pub meets_next : x ≡ true → meets (r ∷ rs) (drop i s) ≡ meets rs (drop (i + 1) s)
  meets_next t = first_meets r rs (drop i s) (sym e ∙ t) ∙ ap (meets rs) (drop-drop 1 i s)

  -- Where the first byte is not in its range, the ranges are not met.
  pub misses_next : x ≡ false → meets (r ∷ rs) (drop i s) ≡ false
  misses_next t = first_misses r rs (drop i s) (sym e ∙ t)

-- the length of the character at a place, by its first byte
module _ (s : List ℕ) (i : ℕ) (h : i < length s) where
  -- A character's length is one more than the number of its first byte's ranges where bytes in them follow, and else 0.
  pub length_follows : (rs : List Range) → lead (get_or s i 0) ≡ follows rs
      → char_len (drop i s) ≡ cond (meets rs (drop (i + 1) s)) (suc (length rs)) 0
  unfolding char_len
  length_follows rs e = rw (drop-cons s i 0 h, e, char_len, add-one)

  -- Where no character starts with the byte, the length is 0.
  pub length_none : lead (get_or s i 0) ≡ none → char_len (drop i s) ≡ 0
  unfolding char_len
  length_none e = rw (drop-cons s i 0 h, e, char_len)

-- bytes that are met: they are there, and the verdict is that on what comes after them
abbrev Met : ℕ → ℕ → List Range → List ℕ → Type 0
Met start at rs s =
    (length rs ≤ length s) × (verdict_from start at rs s ≡ verdict_from start (at + length rs) [] (drop (length rs) s))

met : (start at : ℕ) (rs : List Range) (s : List ℕ) → meets rs s ≡ true → Met start at rs s
unfolding meets
met start at [] s e = (omega arith, rw add-zero)
met start at (r ∷ rs) [] e = absurd (false≢true e)
met start at (r ∷ rs) (b ∷ s) e = go (within r b) refl (met start (suc at) rs s)
  where
    go : (w : Bool) → within r b ≡ w → (meets rs s ≡ true → Met start (suc at) rs s) → Met start at (r ∷ rs) (b ∷ s)
    go true p ih =
        let t = ih (sym (meets_cons r rs b s p) ∙ e) in
        let n : suc at + length rs ≡ at + suc (length rs) = omega arith in
        (omega arith, verdict_met b s start at r rs p ∙ t.1 ∙ ap (λ x. verdict_from start x [] (drop (length rs) s)) n)
    go false p ih = absurd (false≢true (sym (misses_cons r rs b s p) ∙ e))

missed : (start at : ℕ) (rs : List Range) (s : List ℕ) → meets rs s ≡ false → verdict_from start at rs s ≡ Err start
unfolding meets verdict_from
missed start at [] s e = absurd (true≢false e)
missed start at (r ∷ rs) [] e = refl
missed start at (r ∷ rs) (b ∷ s) e = go (within r b) refl (missed start (suc at) rs s)
  where
    go : (w : Bool) → within r b ≡ w → (meets rs s ≡ false → verdict_from start (suc at) rs s ≡ Err start)
        → verdict_from start at (r ∷ rs) (b ∷ s) ≡ Err start
    go true p ih = verdict_met b s start at r rs p ∙ ih (sym (meets_cons r rs b s p) ∙ e)
    go false p ih = verdict_unmet b s start at r rs p

-- with no character unfinished, where the last one started does not matter
start_free : (x y at : ℕ) (s : List ℕ) → verdict_from x at [] s ≡ verdict_from y at [] s
unfolding verdict_from
start_free x y at [] = refl
start_free x y at (b ∷ s) = refl

-- the first character is not well-formed: the verdict is its place
first_bad : (start at b : ℕ) (s : List ℕ) → char_len (b ∷ s) ≡ 0 → verdict_from start at [] (b ∷ s) ≡ Err at
unfolding char_len
first_bad start at b s e = go (lead b) refl
  where
    go : (l : Lead) → lead b ≡ l → verdict_from start at [] (b ∷ s) ≡ Err at
    go none p = verdict_none b s start at p
    go (follows rs) p = verdict_follows b s start at rs p ∙ pick (meets rs s) refl
      where
        len : char_len (b ∷ s) ≡ cond (meets rs s) (suc (length rs)) 0
        len = rw (p, char_len)

        pick : (w : Bool) → meets rs s ≡ w → verdict_from at (suc at) rs s ≡ Err at
        pick true q = absurd (omega (arith, rw q at (sym len ∙ e)))
        pick false q = missed at (suc at) rs s q

-- the first character has 1 + n bytes: the verdict is that on what comes after them
first_good : (start at b : ℕ) (s : List ℕ) (n : ℕ) → char_len (b ∷ s) ≡ suc n
    → (n ≤ length s) × (verdict_from start at [] (b ∷ s) ≡ verdict_from at (suc at + n) [] (drop n s))
unfolding char_len
first_good start at b s n e = go (lead b) refl
  where
    go : (l : Lead) → lead b ≡ l
        → (n ≤ length s) × (verdict_from start at [] (b ∷ s) ≡ verdict_from at (suc at + n) [] (drop n s))
    go none p =
        let len : char_len (b ∷ s) ≡ 0 = rw (p, char_len) in
        absurd (omega (arith, sym e ∙ len))
    go (follows rs) p = pick (meets rs s) refl
      where
        len : char_len (b ∷ s) ≡ cond (meets rs s) (suc (length rs)) 0
        len = rw (p, char_len)

        pick : (w : Bool) → meets rs s ≡ w
            → (n ≤ length s) × (verdict_from start at [] (b ∷ s) ≡ verdict_from at (suc at + n) [] (drop n s))
        pick true q =
            let f : suc (length rs) ≡ suc n = rw q at (sym len ∙ e) in
            let g : length rs ≡ n = omega arith in
            let m = met at (suc at) rs s q in
            (omega arith, verdict_follows b s start at rs p ∙ m.1 ∙ ap (λ x. verdict_from at (suc at + x) [] (drop x s)) g)
        pick false q = absurd (omega (arith, rw q at (sym len ∙ e)))

-- the verdict on a text from a place on
abbrev pub verdict_at : List ℕ → ℕ → Result (Unit {0}) ℕ
verdict_at s i = verdict_from 0 i [] (drop i s)

-- n bytes at a place, within the text, that do not change the verdict
pub record Passed (s : List ℕ) (i n : ℕ) : Type 0 where
  pub fits : i + n ≤ length s
  pub same : verdict_at s i ≡ verdict_at s (i + n)

-- a character at a place
module _ (s : List ℕ) (i : ℕ) (h : i < length s) where
  -- Where the character at a place has the length 0, the verdict from there on is that place.
  pub bad_at : char_len (drop i s) ≡ 0 → verdict_at s i ≡ Err i
  bad_at e = rw (drop-cons s i 0 h) (first_bad 0 i (get_or s i 0) (drop (suc i) s) (rw (drop-cons s i 0 h) at e))

  good_at : (n : ℕ) → char_len (drop i s) ≡ suc n → Passed s i (suc n)
  good_at n e =
      let t = first_good 0 i (get_or s i 0) (drop (suc i) s) n (rw (drop-cons s i 0 h) at e) in
      let m : suc i + n ≡ i + suc n = omega arith in
      record {
        fits = omega (arith, length-drop (suc i) s);
        same =
            ap (verdict_from 0 i []) (drop-cons s i 0 h)
            ∙ t.1
            ∙ start_free i 0 (suc i + n) (drop n (drop (suc i) s))
            ∙ ap (verdict_from 0 (suc i + n) []) (drop-drop n (suc i) s)
            ∙ ap (verdict_at s) m;
      }

  -- by the length n that was found, which is not 0
  pub char_at : (n : ℕ) → n ≡ char_len (drop i s) → (n ≡ 0 → ⊥) → Passed s i n
  char_at zero e f = absurd (f refl)
  char_at (suc n) e f = good_at n (sym e)

  -- a byte below 80 is a character by itself
  pub ascii_at : get_or s i 0 < 0x80 → verdict_at s i ≡ verdict_at s (i + 1)
  ascii_at a =
      rw (drop-cons s i 0 h, add-one i)
      (verdict_follows (get_or s i 0) (drop (suc i) s) 0 i [] (lead_1 (get_or s i 0) (omega arith))
      ∙ start_free i 0 (suc i) (drop (suc i) s))

-- The verdict on the text from its end on is that it is well-formed.
pub end_at : (s : List ℕ) (i : ℕ) → length s ≤ i → verdict_at s i ≡ (Ok tt)
unfolding verdict_from
end_at s i h = rw (drop_of_length-le s h)
