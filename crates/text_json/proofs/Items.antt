-- Reading the items of an array or an object, without the bound on their number.
use Prim.Native.Nat.{ℕ, zero, suc, ◌≤◌, ◌<◌}
use mathlib.Core.Path.{◌≡◌, refl, ap, ◌∙◌}
use mathlib.Core.List.{List, [], ◌∷◌}
use native.Mathlib.Omega.{arith}
use lib.ListN.{length}
use lib.Dec.{eqb}
use Rattle.text_json.specs.Read.{Read, found, stuck, and_then, prepend, spaces, after_item, read_items}
use Rattle.text_json.proofs.Grammar.Ends.{Ends, ends_length}
use Rattle.text_json.proofs.Grammar.ReadEnds.{spaces_ends}
use Rattle.text_json.proofs.Grammar.Answer.{by_test}

-- the items from here on; the text's length is a bound that is never met
unfoldable pub items_from : {A : Type 0} → (List ℕ → Read A) → ℕ → List ℕ → Read (List A)
items_from item mark s = read_items item mark (length s) s

-- more items before those that are read
unfoldable pub prepend_all : {A : Type 0} → List A → Read (List A) → Read (List A)
prepend_all [] x = x
prepend_all (t ∷ ts) x = prepend t (prepend_all ts x)

module _ {A : Type 0} (item : List ℕ → Read A) (mark : ℕ)
    (shorter : (s : List ℕ) (t : A) (r : List ℕ) → item s ≡ found t r → length r < length s)
    (empty : item [] ≡ stuck []) where
  -- what follows an item depends on what reads the later items only at shorter texts
  after_agree : (f g : List ℕ → Read (List A)) (t : A) (s : List ℕ) → ((q : List ℕ) → length q < length s → f q ≡ g q)
      → after_item f mark t s ≡ after_item g mark t s
  unfolding after_item
  after_agree f g t [] h = refl
  after_agree f g t (b ∷ s) h =
      by_test (eqb b mark) (λ e. rw (e, after_item)) (λ e. rw (e, after_item)
      (by_test (eqb b 0x2C) (λ c. rw c (ap (prepend t) (h (spaces s) (near (spaces_ends s))))) (λ c. rw c)))
    where
      near : Ends (spaces s) s → length (spaces s) < length (b ∷ s)
      near e = let l = ends_length e in omega arith

  found_agree : (f g : List ℕ → Read (List A)) (s : List ℕ) (x : Read A) → item s ≡ x
      → ((q : List ℕ) → suc (length q) < length s → f q ≡ g q)
      → and_then x (λ t r. after_item f mark t (spaces r)) ≡ and_then x (λ t r. after_item g mark t (spaces r))
  unfolding and_then
  found_agree f g s (found t r) e h = after_agree f g t (spaces r) (λ q l. h q (near q l (ends_length (spaces_ends r)) (shorter s t r e)))
    where
      near : (q : List ℕ) → length q < length (spaces r) → length (spaces r) ≤ length r → length r < length s → suc (length q) < length s
      near q a b c = omega arith
  found_agree f g s (stuck r) e h = refl

  nothing : (s : List ℕ) → length s ≤ 0 → s ≡ []
  nothing [] h = refl
  nothing (b ∷ s) h = absurd (omega arith)

  agree : (n m : ℕ) (s : List ℕ) → length s ≤ n → length s ≤ m → read_items item mark n s ≡ read_items item mark m s
  unfolding read_items and_then
  agree zero zero s a b = refl
  agree zero (suc m) s a b = rw (nothing s a) (rw empty)
  agree (suc n) zero s a b = rw (nothing s b) (rw empty)
  agree (suc n) (suc m) s a b = found_agree (λ q. read_items item mark n q) (λ q. read_items item mark m q) s (item s) refl
      (λ q l. agree n m q (omega arith) (omega arith))

  -- the items are an item and what follows it
  pub items_from_is : (s : List ℕ) → items_from item mark s ≡ and_then (item s) (λ t r. after_item (items_from item mark) mark t (spaces r))
  unfolding items_from read_items
  items_from_is s =
      agree (length s) (suc (length s)) s (omega arith) (omega arith)
      ∙ found_agree (read_items item mark (length s)) (items_from item mark) s (item s) refl (λ q l. agree (length s) (length q) q (omega arith) (omega arith))
