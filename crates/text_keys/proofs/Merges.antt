-- The loop that merges two sorted halves in place.
use Prim.Native.Nat.{ℕ, ◌+◌, ◌<◌, ◌≤◌}
use mathlib.Core.Path.{◌≡◌, refl, sym, ap, subst, ◌∙◌}
use mathlib.Core.List.{List, [], ◌∷◌, ◌++◌, append_assoc}
use mathlib.Core.Bool.{true, false}
use mathlib.Core.Logic.{◌⊎◌, inl, inr}
use native.Mathlib.Omega.{arith}
use native.Mathlib.Nat.{add-zero}
use native.Mathlib.Numerals.{add-one}
use lib.ListN.{length, take, drop, get_or, set, length-set, take-append-drop, drop_of_length-le}
use lib.Seq.{drop-cons, drop-drop, drop-set-lt, take-suc-set, get_or-drop}
use Rattle.laws.specs.Sort.{merge, merge_into}
use Rattle.laws.proofs.Sort.{merge_left, merge_right}
use Rattle.text_strings.specs.InString.{Inside, key_le}
use Rattle.text_keys.specs.Keys.{KeysAt}
use Rattle.text_keys.proofs.Keys.{keys_get}

-- What the loop keeps. `left` is a copy of the left half, `first` is the list as the loop begins, and `keys` is the list now: its first
-- `at` keys are merged, and what is left to merge are the keys of `left` from i on and those of `first` from j on.
pub record Merging (s left first keys : List ℕ) (i j at : ℕ) : Type 0 where
  pub low : i ≤ length left
  pub right : length left ≤ j
  pub high : j ≤ length first
  pub place : at + length left ≡ i + j
  pub size : length keys ≡ length first
  pub kept : drop j keys ≡ drop j first
  pub merged : take at keys ++ merge (key_le s) (drop i left) (drop j first) ≡ merge (key_le s) left (drop (length left) first)

-- the first element of what is left
pub opened : (l : List ℕ) (i : ℕ) → i < length l → drop i l ≡ get_or l i 0 ∷ drop (i + 1) l
opened l i h = rw (add-one i) (drop-cons l i 0 h)

-- a list that is the same from j on has the same key at j
pub kept_get : (xs ys : List ℕ) (j : ℕ) → drop j xs ≡ drop j ys → get_or xs j 0 ≡ get_or ys j 0
kept_get xs ys j e = sym (at xs) ∙ ap (λ (l : List ℕ). get_or l 0 0) e ∙ at ys
  where
    at : (l : List ℕ) → get_or (drop j l) 0 0 ≡ get_or l j 0
    at l = get_or-drop j l 0 0 ∙ ap (λ (n : ℕ). get_or l n 0) (add-zero j)

kept_next : (xs ys : List ℕ) (j : ℕ) → drop j xs ≡ drop j ys → drop (j + 1) xs ≡ drop (j + 1) ys
kept_next xs ys j e = sym (drop-drop 1 j xs) ∙ ap (drop 1) e ∙ drop-drop 1 j ys

-- While the halves are merged, the list holds the place of a key at index `j`, the next of the right half.
pub key_right : {s left first keys : List ℕ} {i j at : ℕ} → Merging s left first keys i j at → KeysAt s first → j < length keys → Inside s (get_or keys j 0 + 1)
key_right {s} {j = j} m p h =
    subst (λ (k : ℕ). Inside s (k + 1)) (sym (kept_get _ _ j m.kept)) (keys_get p j (omega arith))

-- a key is written behind those that are merged
written : (keys rest : List ℕ) (at k : ℕ) → at < length keys → take (at + 1) (set keys at k) ++ rest ≡ take at keys ++ (k ∷ rest)
written keys rest at k h =
    ap (λ (n : ℕ). take n (set keys at k) ++ rest) (add-one at) ∙ ap (λ (l : List ℕ). l ++ rest) (take-suc-set keys at k h)
    ∙ append_assoc (take at keys) (k ∷ []) rest

module _ (s left first : List ℕ) where
  -- At the start no key is merged, and both halves are left.
  pub merging_start : length left ≤ length first → Merging s left first first 0 (length left) 0
  merging_start h = record { low = omega arith; right = omega arith; high = h; place = omega arith; size = refl; kept = refl; merged = refl }

  -- Where no key of the left half is left, the list is both halves merged.
  pub merging_done : (keys : List ℕ) (i j at : ℕ) → length left ≤ i → Merging s left first keys i j at
      → keys ≡ merge (key_le s) left (drop (length left) first)
  unfolding merge
  merging_done keys i j at h m =
      let e : at ≡ j = omega arith in
      sym (take-append-drop at keys) ∙ ap (λ (n : ℕ). take at keys ++ drop n keys) e ∙ ap (λ (l : List ℕ). take at keys ++ l) m.kept
      ∙ ap (λ (l : List ℕ). take at keys ++ merge (key_le s) l (drop j first)) (sym (drop_of_length-le left h))
      ∙ m.merged

  module _ (keys : List ℕ) (i j at : ℕ) (m : Merging s left first keys i j at) (h : i < length left) where
    at_within : at < length keys
    at_within = omega arith

    -- the key of the left half goes first: the right half has ended, or its key comes no earlier
    first_left : (length keys ≤ j) ⊎ ((j < length keys) × (key_le s (get_or left i 0) (get_or keys j 0) ≡ true))
        → merge (key_le s) (drop i left) (drop j first) ≡ get_or left i 0 ∷ merge (key_le s) (drop (i + 1) left) (drop j first)
    unfolding merge merge_into
    first_left (inl e) =
        let n : length first ≤ j = omega arith in
        rw (drop_of_length-le first n) (ap (λ (l : List ℕ). merge (key_le s) l []) (opened left i h))
    first_left (inr e) =
        let n : j < length first = omega (arith, e.0) in
        rw (opened left i h, opened first j n)
        (merge_left (key_le s) (get_or left i 0) (get_or first j 0) (drop (i + 1) left) (drop (j + 1) first)
        (ap (key_le s (get_or left i 0)) (sym (kept_get keys first j m.kept)) ∙ e.1))

    -- One more key is merged from the left half, where the right one has ended or its key comes no earlier.
    pub merging_left : (length keys ≤ j) ⊎ ((j < length keys) × (key_le s (get_or left i 0) (get_or keys j 0) ≡ true))
        → Merging s left first (set keys at (get_or left i 0)) (i + 1) j (at + 1)
    merging_left e = record {
      low = omega arith;
      right = m.right;
      high = m.high;
      place = omega arith;
      size = length-set keys at (get_or left i 0) ∙ m.size;
      kept = drop-set-lt j keys at (get_or left i 0) (omega arith) ∙ m.kept;
      merged =
          written keys (merge (key_le s) (drop (i + 1) left) (drop j first)) at (get_or left i 0) at_within
          ∙ ap (λ (l : List ℕ). take at keys ++ l) (sym (first_left e))
          ∙ m.merged;
    }

    first_right : j < length keys → key_le s (get_or left i 0) (get_or keys j 0) ≡ false
        → merge (key_le s) (drop i left) (drop j first) ≡ get_or keys j 0 ∷ merge (key_le s) (drop i left) (drop (j + 1) first)
    first_right l e =
        let n : j < length first = omega arith in
        let g = kept_get keys first j m.kept in
        rw (g, opened left i h, opened first j n)
        (merge_right (key_le s) (get_or left i 0) (get_or first j 0) (drop (i + 1) left) (drop (j + 1) first) (ap (key_le s (get_or left i 0)) (sym g) ∙ e))

    -- One more key is merged from the right half, where the left one's key comes after it.
    pub merging_right : j < length keys → key_le s (get_or left i 0) (get_or keys j 0) ≡ false
        → Merging s left first (set keys at (get_or keys j 0)) i (j + 1) (at + 1)
    merging_right l e = record {
      low = m.low;
      right = omega arith;
      high = omega arith;
      place = omega arith;
      size = length-set keys at (get_or keys j 0) ∙ m.size;
      kept = drop-set-lt (j + 1) keys at (get_or keys j 0) (omega arith) ∙ kept_next keys first j m.kept;
      merged =
          written keys (merge (key_le s) (drop i left) (drop (j + 1) first)) at (get_or keys j 0) at_within
          ∙ ap (λ (l : List ℕ). take at keys ++ l) (sym (first_right l e))
          ∙ m.merged;
    }
