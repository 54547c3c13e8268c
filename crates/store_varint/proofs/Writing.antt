-- A number at the start of a list that has space for it: the first byte is set, and the other bytes are written to the part past it.
use Prim.Native.Nat.{ℕ, ◌+◌, ◌-◌, ◌/◌, ◌%◌, ◌≤◌, ◌<◌}
use mathlib.Core.Path.{◌≡◌, sym, ap, ◌∙◌}
use mathlib.Core.List.{List, [], ◌∷◌, ◌++◌, append-nil}
use native.Mathlib.Omega.{arith}
use lib.ListN.{length, drop, set, length-set, length-drop, drop_of_length-le}
use lib.Seq.{take_all, drop-drop, set_split}
use borrow.Rule.Slice.PartMut.{mid_of, put_mid, same_len_mid}
use Rattle.store_varint.specs.Varint.{varint}
use Rattle.store_varint.proofs.Laws.{varint_small, varint_more, varint_positive, length_more}

-- the list with the first byte of a larger number
abbrev begun : ℕ → List ℕ → List ℕ
begun n l = set l 0 (128 + n % 128)

-- what `&mut l[1..]` lends, and the list once that is back
abbrev lent : List ℕ → List ℕ
lent l = mid_of 1 (length l - 1) l

abbrev back : List ℕ → List ℕ → List ℕ
back l part = put_mid 1 (length l - 1) l part

lent_rest : (b : ℕ) (l : List ℕ) → 0 < length l → lent (set l 0 b) ≡ drop 1 l
lent_rest b [] p = absurd (omega arith)
lent_rest b (x ∷ xs) p = take_all (length (b ∷ xs) - 1) xs (omega arith)

back_rest : (b : ℕ) (l part : List ℕ) → 0 < length l → back (set l 0 b) part ≡ b ∷ part
back_rest b [] part p = absurd (omega arith)
back_rest b (x ∷ xs) part p =
    ap (λ (l : List ℕ). b ∷ (part ++ l)) (drop_of_length-le xs {i = length (b ∷ xs) - 1} (omega arith)) ∙ ap (λ (l : List ℕ). b ∷ l) (append-nil part)

module _ (n : ℕ) (l : List ℕ) (fits : length (varint n) ≤ length l) where
  -- A list with space for a number has at least one byte.
  pub space : 0 < length l
  space = omega (arith, varint_positive n)

  -- A number below 128 is written by setting the first byte to it, and what follows it stays.
  pub one_written : n < 128 → set l 0 n ≡ varint n ++ drop (length (varint n)) l
  one_written h = rw (varint_small n h) (set_split l 0 n space)

  module _ (more : 128 ≤ n) where
    -- With the first byte of a larger number set, the list has at least one byte.
    pub begun_space : 1 ≤ length (begun n l)
    begun_space = omega (arith, space, length-set l 0 (128 + n % 128))

    -- The part past the first byte has space for the other bytes.
    pub rest_fits : length (varint (n / 128)) ≤ length (lent (begun n l))
    rest_fits = omega (arith, ap length (lent_rest (128 + n % 128) l space), length-drop 1 l, length_more n more)

    -- With a part of the same length put back, the list has the length that it had.
    pub same_length : (part : List ℕ) → length part ≡ length (lent (begun n l)) → length (back (begun n l) part) ≡ length l
    same_length part e = same_len_mid 1 (length (begun n l) - 1) (begun n l) part e ∙ length-set l 0 (128 + n % 128)

    -- With the other bytes written to the part past the first byte, the number is written, and what follows it stays.
    pub more_written : (part : List ℕ) → part ≡ varint (n / 128) ++ drop (length (varint (n / 128))) (lent (begun n l))
        → back (begun n l) part ≡ varint n ++ drop (length (varint n)) l
    more_written part e =
        back_rest (128 + n % 128) l part space
        ∙ ap (λ (p : List ℕ). (128 + n % 128) ∷ p) (e ∙ ap (λ (p : List ℕ). varint (n / 128) ++ p) rest)
        ∙ ap (λ (p : List ℕ). p ++ drop (length (varint n)) l) (sym (varint_more n more))
      where
        rest : drop (length (varint (n / 128))) (lent (begun n l)) ≡ drop (length (varint n)) l
        rest =
            ap (drop (length (varint (n / 128)))) (lent_rest (128 + n % 128) l space) ∙ drop-drop (length (varint (n / 128))) 1 l
            ∙ ap (λ (k : ℕ). drop k l) (sym (length_more n more))
