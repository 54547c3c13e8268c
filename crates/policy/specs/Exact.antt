-- What a report says (document 01, "The room" and demand 3): each pair of a guard and another loaded image to which no chain leads from it.
use Rattle.std.specs.Prelude.{ℕ, ◌*◌, ◌≤◌, ◌<◌, ◌≡◌, ◌↔◌, length}
use mathlib.Core.List.{List, Memᴰ as In}
use Rattle.policy_marks.specs.Pairs.{Pair, Ordered}
use Rattle.store_record.specs.Image.{Image}
use Rattle.policy.specs.Chain.{At, Guard, Chain}
use Rattle.policy.specs.Pairs.{pairs}

-- of the images a and b at the places g and o: a is a guard, b is another image, and no chain of loaded images leads from a to b
pub record Unreached (loaded : List Image) (g o : ℕ) (a b : Image) : Type 0 where
  pub guard : Guard a
  pub other : g ≡ o → ⊥
  pub no_chain : Chain loaded a b → ⊥

-- the report on these images is exactly right: it lists a pair of places exactly if no chain leads from the guard at the one to the other
pub record Exact (loaded : List Image) : Type 0 where
  pub listed : (g o : ℕ) (a b : Image) → At loaded g a → At loaded o b → In (record { guard = g; other = o }) (pairs loaded) ↔ Unreached loaded g o a b
  -- it lists places of loaded images only,
  pub places : (p : Pair) → In p (pairs loaded) → (p.guard < length loaded) × (p.other < length loaded)
  -- by guard and then by other, each pair once,
  pub ordered : Ordered (pairs loaded)
  -- and at most 64 times 63 pairs
  pub few : length (pairs loaded) ≤ 64 * 63

-- every guard among these images leads to every other by a chain
abbrev pub AllReached : List Image → Type 0
AllReached loaded = (g o : ℕ) (a b : Image) → At loaded g a → At loaded o b → Guard a → (g ≡ o → ⊥) → Chain loaded a b
