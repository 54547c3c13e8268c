-- Looking a name up among sorted ones by halves. Assumes nothing.
use Prim.Native.Nat.{ℕ, ◌+◌, ◌<◌, ◌≤◌}
use mathlib.Core.Path.{◌≡◌, refl, sym, ap, subst, ◌∙◌}
use mathlib.Core.List.{List}
use mathlib.Core.Bool.{true, false}
use native.Mathlib.Omega.{arith}
use borrow.Author.Tests.{ltb-true, ltb-false}
use lib.Dec.{ltb}
use lib.ListN.{length, get_or}
use Rattle.laws.specs.Order.{leq, same}
use Rattle.laws.proofs.Order.{by_test, false_true, leq_antisym, same_refl, same_eq}
use Rattle.laws.proofs.Rising.{Rising, sort_rising, rising_at}
use Rattle.text_strings.specs.InString.{InString, Inside, content_from, key_le}
use Rattle.text_order.specs.Compare.{order}
use Rattle.std.specs.declared.cmp.Ordering.{Ordering}
use Rattle.std.specs.declared.cmp.Ordering.TheVariants.{Less, Equal, Greater}
use Rattle.text_strings.proofs.Contents.{content_from_is, inside_content}
use Rattle.text_order.proofs.Orders.{Ordered, is_less, is_equal, is_greater, ordered}
use Rattle.text_keys.proofs.Keys.{keys_get, keys_order}
use Rattle.reference.specs.Matches.{is_one_of}
use Rattle.manifest_repeat.specs.Names.{NamesAt, no_names, name_at, SortedNames}
use Rattle.manifest_repeat.proofs.Sorting.{sorted_keys}
use Rattle.laws.specs.Any.{any_of}
use Rattle.manifest_heads.specs.Placed.{Placed, no_place, placed, SomeNames}
use Rattle.manifest_heads.specs.Searches.{Stands, Looks}
use Rattle.std.specs.Prelude.{Option, Some, None}
use Rattle.std.specs.Option.{is_some as some}
use Rattle.manifest_heads.proofs.Any.{one_of_any, any_at, none_at, Reordered, sort_placed}

-- Where strings with the contents `cs` stand at the positions `ks`, the contents are placed at these positions.
pub names_placed : {s ks : List ℕ} {cs : List (List ℕ)} → NamesAt s ks cs → Placed (λ (k : ℕ) (c : List ℕ). InString s (k + 1) c) ks cs
names_placed no_names = no_place
names_placed (name_at p n) = placed p (names_placed n)

-- what sorted names are: strings, in rising order, with the contents cs in some order
module _ {s : List ℕ} {cs : List (List ℕ)} {ks : List ℕ} (n : SortedNames s cs ks) where
  sorted_rising : Rising (key_le s) ks
  sorted_rising = rw n.sorted (sort_rising (key_le s) (keys_order s) n.places)

  sorted_order : (i j : ℕ) → i ≤ j → j < length ks → leq (content_from s (get_or ks i 0 + 1)) (content_from s (get_or ks j 0 + 1)) ≡ true
  unfolding key_le
  sorted_order i j l h = rising_at (key_le s) (keys_order s) 0 sorted_rising i j l h

  sorted_names : Reordered (λ (k : ℕ) (c : List ℕ). InString s (k + 1) c) ks cs
  sorted_names = rw n.sorted (sort_placed (key_le s) (names_placed n.here))

  one_of_sorted : (c : List ℕ) → is_one_of c cs ≡ any_of (same c) sorted_names.items
  one_of_sorted c = one_of_any c cs ∙ sym (sorted_names.any (same c))

  -- a name that stands there is one of them
  pub stands : (c : List ℕ) (p : ℕ) → Stands s ks c p → is_one_of c cs ≡ true
  stands c p e =
      one_of_sorted c ∙ any_at (same c) sorted_names.here e.index e.within
      (λ x h. let same_name : x ≡ c = sym (content_from_is s (p + 1) x (subst (λ (k : ℕ). InString s (k + 1) x) e.is h)) ∙ content_from_is s (p + 1) c e.name in
      ap (same c) same_name ∙ same_refl c)

  -- one that stands nowhere is none of them
  pub stands_nowhere : (c : List ℕ) → ((i : ℕ) → i < length ks → content_from s (get_or ks i 0 + 1) ≡ c → ⊥) → is_one_of c cs ≡ false
  stands_nowhere c f =
      one_of_sorted c ∙ none_at (same c) sorted_names.here
      (λ i l x h. by_test (same c x) (λ e. absurd (f i l (content_from_is s (get_or ks i 0 + 1) x h ∙ sym (same_eq c x e)))) (λ e. e))

  -- It is one of them exactly where it was found.
  pub told : (c : List ℕ) (r : Option ℕ) → Looks s cs ks c r → is_one_of c cs ≡ some r
  told c (Some p) e = stands c p e
  told c None e = e

-- what comparing two contents says
module _ {x y : List ℕ} where
  -- An answer equal to the order of two contents says which of them comes first, or that they are equal.
  pub compared : {r : Ordering} → r ≡ order x y → Ordered x y r
  compared e = subst (Ordered x y) (sym e) (ordered x y)

  is_before : {r : Ordering} → Ordered x y r → r ≡ Less → (leq x y ≡ true) × (x ≡ y → ⊥)
  is_before (is_less a b) e = (a, b)
  is_before (is_equal a) e = let z : ◌≡◌ {A = ℕ} 0 1 = cc in absurd (omega arith)
  is_before (is_greater a) e = let z : ◌≡◌ {A = ℕ} 0 1 = cc in absurd (omega arith)

  is_same : {r : Ordering} → Ordered x y r → r ≡ Equal → x ≡ y
  is_same (is_less a b) e = let z : ◌≡◌ {A = ℕ} 0 1 = cc in absurd (omega arith)
  is_same (is_equal a) e = a
  is_same (is_greater a) e = let z : ◌≡◌ {A = ℕ} 0 1 = cc in absurd (omega arith)

  is_after : {r : Ordering} → Ordered x y r → r ≡ Greater → leq x y ≡ false
  is_after (is_less a b) e = let z : ◌≡◌ {A = ℕ} 0 1 = cc in absurd (omega arith)
  is_after (is_equal a) e = let z : ◌≡◌ {A = ℕ} 0 1 = cc in absurd (omega arith)
  is_after (is_greater a) e = a

-- The content c is none of the names before `low`, and none of those from `high` on.
pub record Searched (s ks c : List ℕ) (low high : ℕ) : Type 0 where
  pub order : low ≤ high
  pub within : high ≤ length ks
  pub below : (i : ℕ) → i < low → content_from s (get_or ks i 0 + 1) ≡ c → ⊥
  pub above : (i : ℕ) → high ≤ i → i < length ks → content_from s (get_or ks i 0 + 1) ≡ c → ⊥

module _ (s ks c : List ℕ) where
  -- At the start the range is all the names, and the content is none of those outside it.
  pub search_started : Searched s ks c 0 (length ks)
  search_started = record { order = omega arith; within = omega arith; below = λ i l e. omega arith; above = λ i l h e. omega arith }

  module _ (low high : ℕ) (p : Searched s ks c low high) (n : SomeNames s ks) where
    -- nothing is left
    pub not_found : high ≤ low → (cs : List (List ℕ)) → SortedNames s cs ks → is_one_of c cs ≡ false
    not_found l cs m =
        stands_nowhere m c
        (λ i h e. by_test (ltb i low) (λ t. p.below i (ltb-true i low t) e) (λ t. let g = ltb-false i low t in p.above i (omega arith) h e))

    module _ (mid : ℕ) (l : low ≤ mid) (h : mid < high) where
      -- The position after the one with the index `mid` stands in a string.
      pub mid_inside : Inside s (get_or ks mid 0 + 1)
      mid_inside = keys_get (sorted_keys n.sorted) mid (omega (arith, p.within))

      module _ (r : Ordering) (e : r ≡ order (content_from s (get_or ks mid 0 + 1)) c) where
        -- If the name with the index `mid` compares as equal to the content, the content stands at that name's position.
        pub found : r ≡ Equal → Stands s ks c (get_or ks mid 0)
        found z =
            record {
              index = mid;
              within = omega (arith, p.within);
              is = refl;
              name = subst (InString s (get_or ks mid 0 + 1)) (is_same (compared e) z) (inside_content s (get_or ks mid 0 + 1) mid_inside);
            }

        -- the middle is before the content, and so is what stands before the middle
        pub goes_up : r ≡ Less → Searched s ks c (mid + 1) high
        goes_up z =
            let b = is_before (compared e) z in
            record {
              order = omega arith;
              within = p.within;
              below = λ i j q. b.1
                  (leq_antisym (content_from s (get_or ks mid 0 + 1)) c b.0
                  (subst (λ (x : List ℕ). leq x (content_from s (get_or ks mid 0 + 1))
                  ≡ true) q (sorted_order n.sorted i mid (omega arith) (omega (arith, p.within)))));
              above = p.above;
            }

        -- the middle is after it, and so is what stands behind
        pub goes_down : r ≡ Greater → Searched s ks c low mid
        goes_down z =
            record {
              order = l;
              within = omega (arith, p.within);
              below = p.below;
              above = λ i j k q. false_true
                  (sym (is_after (compared e) z) ∙ ap (leq (content_from s (get_or ks mid 0 + 1))) (sym q) ∙ sorted_order n.sorted mid i j k);
            }
