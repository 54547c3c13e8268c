-- The numbers of aliases, added to an index one after the other.
use Prim.Native.Nat.{ℕ, zero, suc, ◌+◌, ◌*◌, ◌≤◌, ◌<◌}
use mathlib.Core.Path.{◌≡◌, refl, sym, ap, ap₂, subst, ◌∙◌}
use mathlib.Core.Bool.{Bool, false, ◌||◌, or_assoc}
use mathlib.Core.List.{List, [], ◌∷◌, ◌++◌}
use native.Mathlib.Omega.{arith}
use native.Mathlib.Nat.{add-zero}
use native.Mathlib.Numerals.{add-one}
use lib.ListN.{length, take, drop, get_or}
use lib.Seq.{get_or-take, get_or-drop}
use Rattle.laws.specs.Any.{any_of}
use Rattle.laws.proofs.Any.{or_exchanged}
use Rattle.manifest_index.specs.Index.{NameIndex, SomeNameIndex}
use Rattle.manifest_index.proofs.Indexing.{no_names, some_index}
use Rattle.store_names.specs.Placed.{with_numbers, numbers_of}
use Rattle.laws.proofs.Pairs.{any_last}

-- Numbers whose names are cs: a test of them is a test of the names.
pub numbers_names : (p : ℕ → Bool) (q : List ℕ → Bool) (first : ℕ) (cs : List (List ℕ)) (es : List ℕ)
    → ((k : ℕ) → k < length cs → p (first + k) ≡ q (get_or cs k [])) → (n : ℕ) → n ≤ length cs
    → any_of p (with_numbers first n es) ≡ (any_of q (take n cs) || any_of p es)
unfolding any_of with_numbers
numbers_names p q first cs es f zero h = refl
numbers_names p q first cs es f (suc n) h =
    ap₂ (λ (x y : Bool). x || y) (f n (omega arith)) (numbers_names p q first cs es f n (omega arith))
    ∙ or_exchanged (q (get_or cs n [])) (any_of q (take n cs)) (any_of p es) ∙ sym (or_assoc (any_of q (take n cs)) (q (get_or cs n [])) (any_of p es))
    ∙ ap (λ (x : Bool). x || any_of p es) (sym (any_last q cs n [] (omega arith)) ∙ ap (λ (m : ℕ). any_of q (take m cs)) (add-one n))

-- Numbers that pass no test make no difference.
pub numbers_none : (p : ℕ → Bool) (first : ℕ) (es : List ℕ) (n : ℕ) → ((k : ℕ) → k < n → p (first + k) ≡ false) → any_of p (with_numbers first n es) ≡ any_of p es
unfolding any_of with_numbers
numbers_none p first es zero f = refl
numbers_none p first es (suc n) f =
    ap₂ (λ (x y : Bool). x || y) (f n (omega arith)) (numbers_none p first es n (λ k h. f k (omega arith)))

-- Numbers in front of others are a list of their own.
pub numbers_append : (first n : ℕ) (es : List ℕ) → with_numbers first n es ≡ with_numbers first n [] ++ es
unfolding with_numbers
numbers_append first zero es = refl
numbers_append first (suc n) es = ap (λ (l : List ℕ). (first + n) ∷ l) (numbers_append first n es)

-- to the index of the first n numbers, k numbers from `first` on are added
pub record Adding (b at : List ℕ) (first n k : ℕ) (before after : List ℕ) : Type 0 where
  pub length_kept : length after ≡ length before
  pub index : (es : List ℕ) → NameIndex b at es (take n before) → NameIndex b at (with_numbers first k es) (take (n + k) after)

module _ (b at : List ℕ) (first n : ℕ) (before : List ℕ) where
  -- At first nothing is added.
  pub adding_none : Adding b at first n 0 before before
  unfolding with_numbers
  adding_none = record { length_kept = refl; index = λ es x. rw add-zero x }

  module _ (k : ℕ) (mid : List ℕ) (p : Adding b at first n k before mid) where
    -- What there is so far is an index.
    pub adding_some : SomeNameIndex b at (take n before) → SomeNameIndex b at (take (n + k) mid)
    adding_some x = some_index (p.index x.numbers x.index)

    -- The next number is added.
    pub adding_next : (after : List ℕ) → length after ≡ length mid
        → ((es : List ℕ) → NameIndex b at es (take (n + k) mid) → NameIndex b at ((first + k) ∷ es) (take (n + k + 1) after))
        → Adding b at first n (k + 1) before after
    unfolding with_numbers
    adding_next after e f =
        record {
          length_kept = e ∙ p.length_kept;
          index = λ es x.
              let place : n + k + 1 ≡ n + (k + 1) = omega arith in
              subst (λ (m : ℕ). NameIndex b at (with_numbers first m es) (take (n + (k + 1)) after)) (sym (add-one k))
              (subst (λ (m : ℕ). NameIndex b at ((first + k) ∷ with_numbers first k es) (take m after)) place (f _ (p.index es x)));
        }

-- the numbers of the first i images are in the index, which has n, in an array of that size
pub record IndexedTo (b at counts : List ℕ) (size i n : ℕ) (order : List ℕ) : Type 0 where
  pub space : length order ≡ size
  pub few : n ≤ 64 * i
  pub index : NameIndex b at (numbers_of counts i) (take n order)

module _ (b at counts : List ℕ) where
  -- At first the index is empty.
  pub indexed_none : (order : List ℕ) → IndexedTo b at counts (length order) 0 0 order
  unfolding numbers_of
  indexed_none order = record { space = refl; few = omega arith; index = no_names b at }

  -- The numbers of one more image are added.
  pub indexed_next : (size i n : ℕ) (order : List ℕ) → IndexedTo b at counts size i n order → get_or counts i 0 ≤ 64 → (r : ℕ) (after : List ℕ)
      → r ≡ n + get_or counts i 0 → length after ≡ length order
      → ((es : List ℕ) → NameIndex b at es (take n order) → NameIndex b at (with_numbers (64 * i) (get_or counts i 0) es) (take r after))
      → IndexedTo b at counts size (i + 1) r after
  unfolding numbers_of
  indexed_next size i n order p h r after e l f =
      record {
        space = l ∙ p.space;
        few = omega (arith, p.few);
        index = subst (λ (m : ℕ). NameIndex b at (numbers_of counts m) (take r after)) (sym (add-one i)) (f (numbers_of counts i) p.index);
      }

-- Where all numbers of a list are below m, so are those of a part of it.
pub part_below : (order : List ℕ) (m from n : ℕ) → ((i : ℕ) → i < length order → get_or order i 0 < m) → from + n ≤ length order
    → (i : ℕ) → i < n → get_or (take n (drop from order)) i 0 < m
part_below order m from n f h i l =
    let e : get_or (take n (drop from order)) i 0 ≡ get_or order (from + i) 0 = get_or-take n (drop from order) i 0 l ∙ get_or-drop from order i 0 in
    omega (arith, f (from + i) (omega arith), e)
