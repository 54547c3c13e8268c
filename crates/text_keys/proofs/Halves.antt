-- A list whose two halves are sorted one after the other, as the slice holds it, and what merging them gives.
use Prim.Native.Nat.{ℕ, ◌-◌, ◌≤◌}
use mathlib.Core.Path.{◌≡◌, sym, ap, subst, ◌∙◌}
use mathlib.Core.List.{List, ◌++◌, append-nil}
use native.Mathlib.Omega.{arith}
use lib.ListN.{length, take, drop, length-append, length-drop, take-append-drop, drop_of_length-le}
use lib.Seq.{length-take-le, take_at, drop_at, take_all, length_front}
use Rattle.laws.specs.Sort.{sort, merge}
use Rattle.laws.proofs.Sort.{sort_append}
use Rattle.text_strings.specs.InString.{key_le}
use Rattle.text_keys.specs.Keys.{KeysAt}
use Rattle.text_keys.proofs.Keys.{keys_append, keys_take, keys_drop, keys_sort, keys_order}

-- `left` in the place of the left half
abbrev pub with_left : List ℕ → List ℕ → ℕ → List ℕ
with_left keys left mid = left ++ drop mid keys

-- `right`, too, in the place of the right half
abbrev pub with_both : List ℕ → List ℕ → List ℕ → ℕ → List ℕ
with_both keys left right mid =
    take mid (with_left keys left mid) ++ (right ++ drop (length (with_left keys left mid) - mid) (drop mid (with_left keys left mid)))

-- the right half of a list whose left half is `left`
abbrev pub right_of : List ℕ → List ℕ → ℕ → List ℕ
right_of keys left mid = take (length (with_left keys left mid) - mid) (drop mid (with_left keys left mid))

module _ (keys left : List ℕ) (mid : ℕ) (h : mid ≤ length keys) (l : length left ≡ length (take mid keys)) where
  left_length : length left ≡ mid
  left_length = l ∙ length-take-le mid keys h

  -- With a list as long as the left half in its place, the whole list is as long as before.
  pub whole_length : length (with_left keys left mid) ≡ length keys
  whole_length = length_front keys left mid l

  -- Its right half is that of the list before.
  pub right_half : right_of keys left mid ≡ drop mid keys
  right_half =
      ap (take (length (with_left keys left mid) - mid)) (drop_at left (drop mid keys) mid left_length)
      ∙ take_all (length (with_left keys left mid) - mid) (drop mid keys) (omega (arith, whole_length, length-drop mid keys))

  both_halves : (right : List ℕ) → with_both keys left right mid ≡ left ++ right
  both_halves right =
      let d = drop_at left (drop mid keys) mid left_length in
      let n : length (drop mid keys) ≤ length (with_left keys left mid) - mid = omega (arith, whole_length, length-drop mid keys) in
      rw (d, take_at left (drop mid keys) mid left_length, drop_of_length-le (drop mid keys) n, append-nil right)

-- a list with the keys of another, in two sorted halves
pub record Halved (s keys whole : List ℕ) (mid : ℕ) : Type 0 where
  pub size : length whole ≡ length keys
  pub there : KeysAt s whole
  pub merged : merge (key_le s) (take mid whole) (drop mid whole) ≡ sort (key_le s) keys

joined : (s keys left right : List ℕ) (mid : ℕ) → mid ≤ length keys → KeysAt s keys → length left ≡ mid → left ≡ sort (key_le s) (take mid keys)
    → length right ≡ length keys - mid → right ≡ sort (key_le s) (drop mid keys) → Halved s keys (left ++ right) mid
joined s keys left right mid h k l p r q = record {
  size = omega (arith, length-append left right);
  there = keys_append (subst (KeysAt s) (sym p) (keys_sort (keys_take mid k))) (subst (KeysAt s) (sym q) (keys_sort (keys_drop mid k)));
  merged =
      ap (λ (xs : List ℕ). merge (key_le s) xs (drop mid (left ++ right))) (take_at left right mid l ∙ p)
      ∙ ap (merge (key_le s) (sort (key_le s) (take mid keys))) (drop_at left right mid l ∙ q)
      ∙ sym (sort_append (key_le s) (keys_order s) (take mid keys) (drop mid keys))
      ∙ ap (sort (key_le s)) (take-append-drop mid keys);
}

-- A list of keys in which each half is replaced by that half sorted is the list in two sorted halves.
pub halved : (s keys left right : List ℕ) (mid : ℕ) → mid ≤ length keys → KeysAt s keys
    → length left ≡ length (take mid keys) → left ≡ sort (key_le s) (take mid keys)
    → length right ≡ length (right_of keys left mid) → right ≡ sort (key_le s) (right_of keys left mid)
    → Halved s keys (with_both keys left right mid) mid
halved s keys left right mid h k l p r q =
    let e = right_half keys left mid h l in
    subst (λ (w : List ℕ). Halved s keys w mid) (sym (both_halves keys left mid h l right))
    (joined s keys left right mid h k (left_length keys left mid h l) p (r ∙ ap length e ∙ length-drop mid keys) (q ∙ ap (sort (key_le s)) e))
