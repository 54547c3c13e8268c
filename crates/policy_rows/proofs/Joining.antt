-- Who accepts whom, rule by rule: the words of single rules are joined to the word of a list of rules.
use Prim.Native.Nat.{ℕ, ◌+◌, ◌^◌, ◌≤◌, ◌<◌}
use mathlib.Core.Path.{◌≡◌, refl, sym, ap, ap₂, ◌∙◌}
use mathlib.Core.Bool.{Bool, false, ◌||◌, or-false}
use mathlib.Core.List.{List, [], ◌∷◌, map}
use native.Mathlib.Omega.{arith}
use lib.Bits.{bit_or, or_lt}
use lib.ListN.{length, take, get_or}
use lib.Pow.{pow_pos}
use lib.Seq.{take_all}
use Rattle.laws.specs.Any.{any_of}
use Rattle.laws.proofs.Any.{any_pointwise, any_swapped}
use Rattle.reference.specs.Matches.{matches}
use Rattle.reference.specs.References.{Id, Rule, image_id}
use Rattle.manifest.specs.Manifest.{rules, self_names, accepts}
use Rattle.manifest.proofs.Accepting.{accepts_any}
use Rattle.policy_marks.specs.Marks.{or_row}
use Rattle.policy_marks.specs.Words.{row_of}
use Rattle.policy_marks.proofs.Words.{row_or}
use Rattle.store_record.specs.Image.{Image}
use Rattle.store_record.specs.Reading.{between, held_in}
use Rattle.store_record.specs.declared.Record.{Record}
use Rattle.laws.proofs.Pairs.{any_last}
use Rattle.policy_rows.specs.Accepting.{accepts_image, matches_image}

-- An image that a record holds is matched under its one ID.
pub matches_held : (y : Rule) (s : List ℕ) (r : Record)
    → matches y (image_id r.algorithm (between s r.signer r.manifest) (between s r.manifest r.text)) (self_names (between s r.text r.end))
    ≡ matches_image y (held_in s r)
unfolding matches_image held_in any_of
matches_held y s r = sym (or-false _)

-- An image accepts another exactly if one of its rules matches it.
accepts_rules : (a b : Image) → accepts_image a b ≡ any_of (λ (y : Rule). matches_image y b) (rules a.text)
unfolding accepts_image matches_image
accepts_rules a b =
    any_pointwise (λ (i : Id). accepts a.text i b.text) _ (λ i. accepts_any a.text i b.text) b.ids
    ∙ any_swapped (λ (i : Id) (y : Rule). matches y i (self_names b.text)) b.ids (rules a.text)

-- functions that agree everywhere
map_pointwise : {A B : Type 0} (f g : A → B) → ((x : A) → f x ≡ g x) → (xs : List A) → map f xs ≡ map g xs
map_pointwise f g e xs = λ i. map (λ x. e x i) xs

-- The row of the images that some rule of an image matches is the row of those that it accepts.
pub accepts_row : (a : Image) (xs : List Image) → map (λ (b : Image). any_of (λ (y : Rule). matches_image y b) (rules a.text)) xs ≡ map (accepts_image a) xs
accepts_row a xs = map_pointwise _ (accepts_image a) (λ b. sym (accepts_rules a b)) xs

-- The row of two tests, joined, is that of either.
or_row_map : {A : Type 0} (f g : A → Bool) (xs : List A) → or_row (map f xs) (map g xs) ≡ map (λ (x : A). f x || g x) xs
unfolding or_row
or_row_map f g [] = refl
or_row_map f g (x ∷ xs) = ap (λ (l : List Bool). (f x || g x) ∷ l) (or_row_map f g xs)

-- The word 0 has no mark.
row_unmarked : {A : Type 0} (xs : List A) → row_of (length xs) 0 ≡ map (λ (x : A). false) xs
unfolding row_of
row_unmarked [] = refl
row_unmarked (x ∷ xs) = ap (λ (l : List Bool). false ∷ l) (row_unmarked xs)

-- the word w has a mark for each of n elements that one of the first j tests takes
pub record Joined {A B : Type 0} (f : B → A → Bool) (xs : List A) (ys : List B) (n j w : ℕ) : Type 0 where
  pub within : j ≤ length ys
  pub row : row_of n w ≡ map (λ (x : A). any_of (λ (y : B). f y x) (take j ys)) xs
  pub small : w < 2 ^ n

module _ {A B : Type 0} (f : B → A → Bool) (xs : List A) (ys : List B) (n : ℕ) where
  -- No test takes an element.
  pub joined_none : length xs ≡ n → Joined f xs ys n 0 0
  unfolding any_of
  joined_none e = record { within = omega arith; row = ap (λ (k : ℕ). row_of k 0) (sym e) ∙ row_unmarked xs; small = pow_pos n }

  module _ (j w : ℕ) (b : Joined f xs ys n j w) where
    -- The word of the next test is joined.
    pub joined_next : (d : B) (v : ℕ) → j < length ys → row_of n v ≡ map (f (get_or ys j d)) xs → v < 2 ^ n
        → Joined f xs ys n (j + 1) (bit_or w v)
    joined_next d v h e k =
        record {
          within = omega arith;
          row = row_or n w v ∙ ap₂ or_row b.row e ∙ or_row_map _ (f (get_or ys j d)) xs
              ∙ map_pointwise _ _ (λ x. sym (any_last (λ (y : B). f y x) ys j d h)) xs;
          small = or_lt n w v b.small k;
        }

    -- At last the word is that of all tests.
    pub joined_all : length ys ≤ j → row_of n w ≡ map (λ (x : A). any_of (λ (y : B). f y x) ys) xs
    joined_all h = rw (take_all j ys h) at b.row
