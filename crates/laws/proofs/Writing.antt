-- How the start of a slice is written: byte after byte, and by what is written to the part past it. Assumes nothing.
use Prim.Native.Nat.{ℕ, suc, ◌+◌, ◌-◌, ◌≤◌, ◌<◌}
use mathlib.Core.Path.{◌≡◌, refl, sym, ap, subst, ◌∙◌}
use mathlib.Core.List.{List, [], ◌∷◌, ◌++◌, append_assoc, append-nil}
use native.Mathlib.Omega.{arith}
use native.Mathlib.Numerals.{add-one}
use lib.ListN.{length, take, drop, get_or, set, length-append, length-drop, drop_of_length-le}
use lib.Seq.{take_all, take_at, take-suc, take-append-add, drop_at, drop-cons, drop-drop, set_at, get_or-drop, length-take-le}
use borrow.Rule.Slice.PartMut.{mid_of, put_mid}
use Rattle.laws.specs.Writes.{Writes}

-- A slice that is as before has no bytes written to it.
pub nothing_written : (l : List ℕ) → Writes l l []
nothing_written l = record { fits = omega arith; all = refl }

-- What `&mut l[n..]` lends is all that is past place n.
pub mid_drop : (n : ℕ) (l : List ℕ) → mid_of n (length l - n) l ≡ drop n l
mid_drop n l = take_all (length l - n) (drop n l) (omega (arith, length-drop n l))

module _ (n : ℕ) (l part : List ℕ) where
  -- Where the part of a list past place n is lent, what comes back stands after the first n.
  pub lent_back : put_mid n (length l - n) l part ≡ take n l ++ part
  lent_back = ap (λ (r : List ℕ). take n l ++ (part ++ r)) nothing_after ∙ ap (λ (r : List ℕ). take n l ++ r) (append-nil part)
    where
      nothing_after : drop (length l - n) (drop n l) ≡ []
      nothing_after = drop_of_length-le (drop n l) {i = length l - n} (omega (arith, length-drop n l))

  module _ (h : n ≤ length l) where
    -- The first elements of the part that comes back stand after the first n.
    pub back_start : (m : ℕ) → take (n + m) (put_mid n (length l - n) l part) ≡ take n l ++ take m part
    back_start m =
        let e : length (take n l) + m ≡ n + m = omega (arith, length-take-le n l h) in
        ap (take (n + m)) lent_back ∙ ap (λ (k : ℕ). take k (take n l ++ part)) (sym e) ∙ take-append-add (take n l) part m

    -- Where the part that comes back is as long as the one lent, the list is as long as before.
    pub back_size : length part ≡ length l - n → length (put_mid n (length l - n) l part) ≡ length l
    back_size e = ap length lent_back ∙ length-append (take n l) part ∙ omega (arith, length-take-le n l h)

module _ {before mid xs : List ℕ} (w : Writes before mid xs) where
  -- Writing keeps the length of the slice.
  pub same_length : length mid ≡ length before
  same_length =
      ap length w.all ∙ length-append xs (drop (length xs) before) ∙ omega (arith, length-drop (length xs) before, w.fits)

  -- the part past n is as it was
  part_as_before : (n : ℕ) → n ≡ length xs → drop n mid ≡ drop n before
  part_as_before n e = ap (drop n) w.all ∙ drop_at xs (drop (length xs) before) n (sym e) ∙ ap (λ (k : ℕ). drop k before) (sym e)

  -- The part past the bytes that are written is as long as the slice without them.
  pub lent_length : (n : ℕ) → n ≡ length xs → length (mid_of n (length mid - n) mid) + n ≡ length before
  lent_length n e = omega (arith, ap length (mid_drop n mid), ap length (part_as_before n e), length-drop n before, w.fits)

  -- A byte that is set right after what is written, within the slice, is written too.
  pub byte_written : (n b : ℕ) → n ≡ length xs → n < length before → Writes before (set mid n b) (xs ++ b ∷ [])
  byte_written n b e h =
      record {
        fits = omega (arith, length-append xs (b ∷ []));
        all = ap (λ (l : List ℕ). set l n b) (w.all ∙ ap (λ (l : List ℕ). xs ++ l) next) ∙ set_at xs _ _ b n (sym e) ∙ sym after;
      }
    where
      next : drop (length xs) before ≡ get_or before (length xs) 0 ∷ drop (suc (length xs)) before
      next = drop-cons before (length xs) 0 (subst (λ (k : ℕ). k < length before) e h)

      longer : length (xs ++ b ∷ []) ≡ suc (length xs)
      longer = omega (arith, length-append xs (b ∷ []))

      after : (xs ++ b ∷ []) ++ drop (length (xs ++ b ∷ [])) before ≡ xs ++ b ∷ drop (suc (length xs)) before
      after = append_assoc xs (b ∷ []) _ ∙ ap (λ (k : ℕ). xs ++ b ∷ drop k before) longer

  -- Where the part past what is written is lent, and comes back with ys at its start, ys are written after it.
  pub part_written : (n : ℕ) (part ys : List ℕ) → n ≡ length xs → Writes (mid_of n (length mid - n) mid) part ys
      → Writes before (put_mid n (length mid - n) mid part) (xs ++ ys)
  part_written n part ys e v =
      record {
        fits = omega (arith, length-append xs ys, lent_length n e, v.fits);
        all = lent_back n mid part ∙ ap (λ (l : List ℕ). l ++ part) first
            ∙ ap (λ (l : List ℕ). xs ++ l) (v.all ∙ ap (λ (l : List ℕ). ys ++ l) rest) ∙ sym (append_assoc xs ys _);
      }
    where
      first : take n mid ≡ xs
      first = ap (take n) w.all ∙ take_at xs (drop (length xs) before) n (sym e)

      rest : drop (length ys) (mid_of n (length mid - n) mid) ≡ drop (length (xs ++ ys)) before
      rest =
          ap (drop (length ys)) (mid_drop n mid ∙ part_as_before n e) ∙ drop-drop (length ys) n before
          ∙ ap (λ (k : ℕ). drop k before) (ap (λ (k : ℕ). k + length ys) e ∙ sym (length-append xs ys))

-- a part of a list that is copied from its start on
next_byte : (s : List ℕ) (from i : ℕ) → from + i < length s → take (i + 1) (drop from s) ≡ take i (drop from s) ++ get_or s (from + i) 0 ∷ []
next_byte s from i h = rw (add-one, take-suc (drop from s) i 0 (omega (arith, length-drop from s)), get_or-drop)

-- With the next byte of a copied part set after those that are written, one byte more of that part is written.
pub copied_byte : (s : List ℕ) (from i : ℕ) {before mid : List ℕ} → from + i < length s → i < length before → Writes before mid (take i (drop from s))
    → Writes before (set mid i (get_or s (from + i) 0)) (take (i + 1) (drop from s))
copied_byte s from i h k w = rw (next_byte s from i h) (byte_written w i _ (sym (length-take-le i (drop from s) (omega (arith, length-drop from s)))) k)
