-- Steps of the functions that sort: copying and sorting by halves.
use Prim.Native.Nat.{ℕ, ◌+◌, ◌<◌, ◌≤◌}
use mathlib.Core.Path.{◌≡◌, sym, ap, ◌∙◌}
use mathlib.Core.List.{List}
use native.Mathlib.Numerals.{add-one}
use lib.ListN.{length, take, drop, get_or, set}
use lib.Seq.{take-suc, take-suc-set, length-take-le}
use Rattle.laws.specs.Sort.{merge}
use Rattle.text_strings.specs.InString.{key_le}

-- one more key is copied
pub copied_next : (keys to : List ℕ) (i : ℕ) → i < length keys → i < length to → take i to ≡ take i keys
    → take (i + 1) (set to i (get_or keys i 0)) ≡ take (i + 1) keys
copied_next keys to i h g e = rw (add-one i, take-suc-set to i (get_or keys i 0) g, take-suc keys i 0 h, e)

-- the left half, copied to the start of a list
pub copied : (mid : ℕ) (keys to : List ℕ) → mid ≤ length keys → take (length (take mid keys)) to ≡ take mid keys → take mid to ≡ take mid keys
copied mid keys to h e = ap (λ (n : ℕ). take n to) (sym (length-take-le mid keys h)) ∙ e

-- what merging the copy with the rest comes to
pub merge_copied : (s : List ℕ) (mid : ℕ) (keys to : List ℕ) → mid ≤ length keys → take (length (take mid keys)) to ≡ take mid keys
    → merge (key_le s) (take mid to) (drop (length (take mid to)) keys) ≡ merge (key_le s) (take mid keys) (drop mid keys)
merge_copied s mid keys to h e =
    ap (λ (l : List ℕ). merge (key_le s) l (drop (length l) keys)) (copied mid keys to h e)
    ∙ ap (λ (n : ℕ). merge (key_le s) (take mid keys) (drop n keys)) (length-take-le mid keys h)
