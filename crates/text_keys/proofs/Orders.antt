-- Keys in rising order: seen from one key to the next, left as they are by sorting, and read off the members' tree.
use Prim.Native.Nat.{ℕ, ◌+◌, ◌<◌, ◌≤◌}
use mathlib.Core.Path.{◌≡◌, refl, sym}
use mathlib.Core.List.{List, [], ◌∷◌}
use mathlib.Core.Bool.{Bool, true, false, ◌&&◌}
use native.Mathlib.Omega.{arith}
use lib.ListN.{length, drop, get_or}
use Rattle.laws.specs.Order.{leq}
use Rattle.laws.specs.Sort.{sort}
use Rattle.laws.proofs.Order.{false_true}
use Rattle.laws.proofs.Rising.{sort_short, sort_more}
use Rattle.text_json.specs.Syntax.{Member, members}
use Rattle.text_content.specs.Value.{fields}
use Rattle.text_content.specs.Canonical.{keys_ordered}
use Rattle.text_strings.specs.InString.{key_le}
use Rattle.text_keys.specs.Keys.{rising_keys}
use Rattle.text_keys.specs.Repeats.{Places, no_places, place_at}
use Rattle.text_keys.proofs.Merges.{opened}

module _ (s : List ℕ) where
  -- one step from a key to the next
  pub rising_step : (keys : List ℕ) (i : ℕ) → i + 1 < length keys
      → rising_keys s (drop i keys) ≡ (key_le s (get_or keys i 0) (get_or keys (i + 1) 0) && rising_keys s (drop (i + 1) keys))
  unfolding rising_keys
  rising_step keys i h = rw (opened keys i (omega arith), opened keys (i + 1) h)

  -- a list of one key at most
  pub rising_short : (keys : List ℕ) → length keys ≤ 1 → rising_keys s keys ≡ true
  unfolding rising_keys
  rising_short [] h = refl
  rising_short (k ∷ []) h = refl
  rising_short (k ∷ l ∷ ls) h = absurd (omega arith)

  -- sorting leaves keys in rising order as they are
  pub rising_sorted : (keys : List ℕ) → rising_keys s keys ≡ true → sort (key_le s) keys ≡ keys
  unfolding rising_keys
  rising_sorted [] e = sort_short (key_le s) [] (omega arith)
  rising_sorted (k ∷ []) e = sort_short (key_le s) (k ∷ []) (omega arith)
  rising_sorted (k ∷ l ∷ ls) e = go (key_le s k l) refl e (rising_sorted (l ∷ ls))
    where
      go : (b : Bool) → key_le s k l ≡ b → (b && rising_keys s (l ∷ ls)) ≡ true → (rising_keys s (l ∷ ls) ≡ true → sort (key_le s) (l ∷ ls) ≡ l ∷ ls)
          → sort (key_le s) (k ∷ l ∷ ls) ≡ k ∷ l ∷ ls
      go true q f ih = sort_more (key_le s) k l ls q (ih f)
      go false q f ih = absurd (false_true f)

  -- the places of an object's keys tell whether its members are in the order of their keys
  pub rising_places : {ms : List Member} {ks : List ℕ} → Places s ms ks → rising_keys s ks ≡ keys_ordered (fields (members ms))
  unfolding rising_keys keys_ordered fields members key_le
  rising_places no_places = refl
  rising_places (place_at p q no_places) = refl
  rising_places (place_at p q (place_at {m = n} {k = l} {ms = ms} {ks = ks} u v r)) =
      λ i. leq (sym q i) (sym v i) && rising_places {ms = n ∷ ms} {ks = l ∷ ks} (place_at u v r) i
