-- The images that have the alias which a rule asks for, read off the index of all aliases.
use Prim.Native.Nat.{ℕ, zero, suc, ◌+◌, ◌*◌, ◌/◌, ◌≤◌, ◌<◌}
use mathlib.Core.Path.{◌≡◌, refl, ap, ap₂, ◌∙◌}
use mathlib.Core.Bool.{Bool, true, false, ◌&&◌, ◌||◌, or-false, and-true, and-false}
use mathlib.Core.List.{List, []}
use native.Mathlib.Omega.{arith}
use lib.Dec.{eqb}
use lib.ListN.{length, get_or}
use lib.Seq.{take_all}
use borrow.Author.Tests.{eq-eqb, ne_eqb, eqb-true, eqb-false}
use Rattle.laws.specs.Any.{any_of}
use Rattle.laws.proofs.Order.{by_test}
use Rattle.reference.specs.References.{Rule}
use Rattle.manifest_index.specs.Index.{name_at}
use Rattle.manifest.specs.Asks.{asks_for}
use Rattle.manifest.specs.Manifest.{self_names}
use Rattle.manifest_index.proofs.Indexing.{index_any, names_size, names_name}
use Rattle.store_record.specs.Reading.{between, no_record}
use Rattle.store_record.specs.declared.Survey.{Survey}
use Rattle.store_names.specs.Placed.{most_names, PlacedUpTo, with_numbers, numbers_of, Indexed}
use Rattle.store_names.proofs.Numbering.{numbers_names, numbers_none}

module _ (b : List ℕ) (v : Survey) (at counts : List ℕ) (few : v.count ≤ 64) (s : PlacedUpTo v.count b v at counts) (y : Rule) (j : ℕ) where
  -- the own aliases of image i
  abbrev names : ℕ → List (List ℕ)
  names i = self_names (between b (get_or v.records i no_record).text (get_or v.records i no_record).end)

  -- a number of image j, whose name the rule asks for
  abbrev asked : ℕ → Bool
  asked e = asks_for y (name_at b at e) && eqb (e / 64) j

  module _ (i : ℕ) (h : i < v.count) where
    fits : most_names * i + get_or counts i 0 ≤ length at
    fits = omega (arith, s.few i h, s.at_space)

    image : (k : ℕ) → k < get_or counts i 0 → (most_names * i + k) / 64 ≡ i
    image k l = omega (arith, s.few i h)

    -- the numbers of another image are not asked for
    other_image : (i ≡ j → ⊥) → (es : List ℕ) → any_of asked (with_numbers (most_names * i) (get_or counts i 0) es) ≡ any_of asked es
    other_image n es =
        numbers_none asked (most_names * i) es (get_or counts i 0)
        (λ k l. ap (λ (x : Bool). asks_for y (name_at b at (most_names * i + k)) && x) (ap (λ (m : ℕ). eqb m j) (image k l) ∙ ne_eqb i j n)
        ∙ and-false (asks_for y (name_at b at (most_names * i + k))))

    -- those of image j are asked for by their names
    own_image : i ≡ j → (es : List ℕ) → any_of asked (with_numbers (most_names * i) (get_or counts i 0) es) ≡ (any_of (asks_for y) (names i) || any_of asked es)
    own_image e es =
        let size : get_or counts i 0 ≡ length (names i) = names_size b at (most_names * i) (get_or counts i 0) (names i) (s.each i h) fits in
        numbers_names asked (asks_for y) (most_names * i) (names i) es (λ k l. one_name k (omega arith)) (get_or counts i 0) (omega arith)
        ∙ ap (λ (cs : List (List ℕ)). any_of (asks_for y) cs || any_of asked es) (take_all (get_or counts i 0) (names i) (omega arith))
      where
        one_name : (k : ℕ) → k < get_or counts i 0 → asked (most_names * i + k) ≡ asks_for y (get_or (names i) k [])
        one_name k l =
            ap (λ (x : Bool). asks_for y (name_at b at (most_names * i + k)) && x) (ap (λ (m : ℕ). eqb m j) (image k l) ∙ eq-eqb i j e)
            ∙ and-true (asks_for y (name_at b at (most_names * i + k)))
            ∙ ap (asks_for y) (names_name b at (most_names * i) (get_or counts i 0) (names i) (s.each i h) fits k l)

  -- none of the images before image j
  before_image : (m : ℕ) → m ≤ v.count → m ≤ j → any_of asked (numbers_of counts m) ≡ false
  unfolding any_of numbers_of
  before_image zero h l = refl
  before_image (suc m) h l = other_image m (omega arith) (λ e. omega arith) (numbers_of counts m) ∙ before_image m (omega arith) (omega arith)

  -- of all images, image j
  image_named : (m : ℕ) → m ≤ v.count → j < m → any_of asked (numbers_of counts m) ≡ any_of (asks_for y) (names j)
  unfolding numbers_of
  image_named zero h l = absurd (omega arith)
  image_named (suc m) h l = by_test (eqb m j) (here (before_image m (omega arith))) (λ e. later (image_named m (omega arith)) (eqb-false m j e))
    where
      here : (m ≤ j → any_of asked (numbers_of counts m) ≡ false) → eqb m j ≡ true
          → any_of asked (with_numbers (most_names * m) (get_or counts m 0) (numbers_of counts m)) ≡ any_of (asks_for y) (names j)
      here none e =
          let g : m ≡ j = eqb-true m j e in
          own_image m (omega arith) g (numbers_of counts m) ∙ ap₂ (λ (x : ℕ) (z : Bool). any_of (asks_for y) (names x) || z) g (none (omega arith))
          ∙ or-false (any_of (asks_for y) (names j))

      later : (j < m → any_of asked (numbers_of counts m) ≡ any_of (asks_for y) (names j)) → (m ≡ j → ⊥)
          → any_of asked (with_numbers (most_names * m) (get_or counts m 0) (numbers_of counts m)) ≡ any_of (asks_for y) (names j)
      later ih n = other_image m (omega arith) n (numbers_of counts m) ∙ ih (omega arith)

-- Some number of image j in the index has a name that the rule asks for exactly if the image has such an alias.
pub named_in : (b : List ℕ) (v : Survey) (at order : List ℕ) → v.count ≤ 64 → Indexed b v at order → (y : Rule) (j : ℕ) → j < v.count
    → any_of (λ (e : ℕ). asks_for y (name_at b at e) && eqb (e / 64) j) order
    ≡ any_of (asks_for y) (self_names (between b (get_or v.records j no_record).text (get_or v.records j no_record).end))
named_in b v at order few x y j h =
    index_any x.index (λ (e : ℕ). asks_for y (name_at b at e) && eqb (e / 64) j)
    ∙ image_named b v at x.counts few x.placed y j v.count (omega arith) h
