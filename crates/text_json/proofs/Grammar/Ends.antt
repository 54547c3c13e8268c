-- The ends of a text: the rest of every reading is one.
use Prim.Native.Nat.{ℕ, suc, ◌-◌, ◌≤◌, ◌<◌}
use native.Mathlib.Omega.{arith}
use mathlib.Core.Path.{◌≡◌}
use mathlib.Core.List.{List, [], ◌∷◌}
use lib.ListN.{length, drop}

pub data Ends (r : List ℕ) : List ℕ → Type 0 where
  all : Ends r r
  after : {b : ℕ} {s : List ℕ} → Ends r s → Ends r (b ∷ s)

-- An end of an end of a text is an end of the text.
pub ends_trans : {p r s : List ℕ} → Ends p r → Ends r s → Ends p s
ends_trans e all = e
ends_trans e (after f) = after (ends_trans e f)

-- An end of a text is no longer than the text.
pub ends_length : {r s : List ℕ} → Ends r s → length r ≤ length s
ends_length all = omega arith
ends_length (after e) = let h = ends_length e in omega arith

-- The empty list is an end of every text.
pub ends_nil : (s : List ℕ) → Ends [] s
ends_nil [] = all
ends_nil (b ∷ s) = after (ends_nil s)

-- an end that leaves out the first byte at least
pub data Inside (r : List ℕ) : List ℕ → Type 0 where
  inside : {b : ℕ} {s : List ℕ} → Ends r s → Inside r (b ∷ s)

-- An end that leaves out the first byte at least is an end.
pub inside_ends : {r s : List ℕ} → Inside r s → Ends r s
inside_ends (inside e) = after e

-- An end that leaves out the first byte at least is shorter than the text.
pub inside_length : {r s : List ℕ} → Inside r s → length r < length s
inside_length (inside e) = let h = ends_length e in omega arith

-- An end of an end that leaves out the first byte at least leaves it out too.
pub ends_inside : {p r s : List ℕ} → Ends p r → Inside r s → Inside p s
ends_inside e (inside f) = inside (ends_trans e f)

-- an end is what is left when its offset is dropped
pub ends_drop : {r s : List ℕ} → Ends r s → r ≡ drop (length s - length r) s
ends_drop {r} all = let e : length r - length r ≡ 0 = omega arith in rw e
ends_drop {r} (after {b} {s} e) =
    let h = ends_length e in
    let f : suc (length s) - length r ≡ suc (length s - length r) = omega arith in
    rw f (ends_drop e)
