-- The words of a table are passed one after the other, and where a word has bit k, another word is joined to it.
use Prim.Native.Nat.{ℕ, ◌≤◌, ◌<◌}
use mathlib.Core.Path.{◌≡◌, sym, ap, ap₂, fun_ext, ◌∙◌}
use mathlib.Core.List.{List, ◌++◌, map, map-map, append-nil}
use mathlib.Core.Bool.{Bool, true, false}
use native.Mathlib.Omega.{arith}
use lib.Bits.{bit_or}
use lib.ListN.{length, take, drop, get_or, length-map}
use lib.Seq.{take_at, length-take-le, take_all}
use Rattle.std.proofs.lemmas.List.{drop_all}
use Rattle.laws.proofs.Order.{by_test}
use Rattle.policy_marks.specs.Marks.{through, closed_at}
use Rattle.policy_marks.specs.Words.{bit_at, row_of, rows_of}
use Rattle.policy_marks.proofs.Words.{row_bit, row_at, row_or}

-- a list of which the first i elements are passed
abbrev pub passed : (ℕ → ℕ) → ℕ → List ℕ → List ℕ
passed f i l = map f (take i l) ++ drop i l

module _ (f : ℕ → ℕ) (n : ℕ) (l : List ℕ) (h : n ≤ length l) where
  -- All that counts is passed.
  pub passed_all : take n (passed f n l) ≡ map f (take n l)
  passed_all = take_at (map f (take n l)) (drop n l) n (length-map (take n l) f ∙ length-take-le n l h)

  -- The first n elements are passed on their own, and the others follow.
  pub passed_first : passed f n (take n l) ++ drop n l ≡ passed f n l
  passed_first =
      let t : length (take n l) ≡ n = length-take-le n l h in
      ap₂ (λ (a b : List ℕ). (map f a ++ b) ++ drop n l) (take_all n (take n l) (omega arith)) (drop_all n (take n l) (omega arith))
      ∙ ap (λ (a : List ℕ). a ++ drop n l) (append-nil (map f (take n l)))

-- a word, with another joined to it where it has bit k
unfoldable pub joined : ℕ → ℕ → ℕ → ℕ
joined k other w = elim (bit_at w k) [ true ↦ bit_or w other | false ↦ w ]

module _ (k other w : ℕ) where
  -- A word that has bit k is joined.
  pub joined_taken : bit_at w k ≡ true → joined k other w ≡ bit_or w other
  unfolding joined
  joined_taken e = rw (e, joined)

  -- A word that has not is left.
  pub joined_left : bit_at w k ≡ false → joined k other w ≡ w
  unfolding joined
  joined_left e = rw (e, joined)

row_joined : (n k other w : ℕ) → k < n → row_of n (joined k other w) ≡ through k (row_of n other) (row_of n w)
unfolding through
row_joined n k other w h =
    by_test (bit_at w k)
    (λ e. ap (row_of n) (joined_taken k other w e) ∙ row_or n w other ∙ rw (row_bit n k w h ∙ e, through))
    (λ e. ap (row_of n) (joined_left k other w e) ∙ rw (row_bit n k w h ∙ e, through))

-- Words that are all passed are those of the table closed at k.
pub rows_joined : (n k : ℕ) (words : List ℕ) → k < n → n ≤ length words
    → rows_of n (passed (joined k (get_or words k 0)) n words) ≡ closed_at k (rows_of n words)
unfolding rows_of closed_at
rows_joined n k words h l =
    ap (map (row_of n)) (passed_all (joined k (get_or words k 0)) n words l)
    ∙ map-map (row_of n) (joined k (get_or words k 0)) (take n words)
    ∙ ap (λ (f : ℕ → List Bool). map f (take n words)) (fun_ext (λ w. row_joined n k (get_or words k 0) w h))
    ∙ sym (map-map (through k (row_of n (get_or words k 0))) (row_of n) (take n words))
    ∙ ap (λ (row : List Bool). map (through k row) (map (row_of n) (take n words))) (sym (row_at n k words h l))
