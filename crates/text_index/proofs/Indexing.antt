-- An index has the strings that it is made of, in rising order of content. Assumes nothing.
use Prim.Native.Nat.{ℕ, ◌<◌, ◌≤◌}
use mathlib.Core.Path.{◌≡◌, refl, ap, ◌∙◌}
use mathlib.Core.List.{List, []}
use mathlib.Core.Bool.{Bool, true}
use native.Mathlib.Omega.{arith}
use lib.ListN.{length, get_or}
use Rattle.laws.specs.Any.{any_of}
use Rattle.laws.specs.Order.{leq}
use Rattle.laws.specs.Sort.{sort, Orders}
use Rattle.laws.proofs.Inserting.{any_sorted}
use Rattle.laws.proofs.Order.{leq_total, leq_trans}
use Rattle.laws.proofs.Rising.{Rising, sort_rising, rising_at}
use Rattle.text_index.specs.Index.{entry_text, entry_le, Index}

-- No string has an empty index.
pub no_index : (b at : List ℕ) → Index b at [] []
unfolding sort
no_index b at = record { sorted = refl; entries = λ i h. absurd (omega arith) }

-- Some string of the index passes a test exactly if some string that it is made of does.
pub index_any : {b at es order : List ℕ} → Index b at es order → (p : ℕ → Bool) → any_of p order ≡ any_of p es
index_any {b} {at} {es} x p = ap (any_of p) x.sorted ∙ any_sorted (entry_le b at) p es

module _ (b at : List ℕ) where
  entries_order : Orders (entry_le b at)
  unfolding entry_le
  entries_order = record {
    total = λ e f. leq_total (entry_text b at e) (entry_text b at f);
    trans = λ e f g. leq_trans (entry_text b at e) (entry_text b at f) (entry_text b at g);
  }

  -- The content of a string of the index does not come after that of a later one.
  pub index_rising : {es order : List ℕ} → Index b at es order → (i j : ℕ) → i ≤ j → j < length order
      → leq (entry_text b at (get_or order i 0)) (entry_text b at (get_or order j 0)) ≡ true
  unfolding entry_le
  index_rising {es} {order} x i j l h = rising_at (entry_le b at) entries_order 0 rising i j l h
    where
      rising : Rising (entry_le b at) order
      rising = rw x.sorted (sort_rising (entry_le b at) entries_order es)
