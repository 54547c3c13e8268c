-- The images' own aliases in an index, by their numbers: what the crates above need of it. Assumes nothing.
use Prim.Native.Nat.{ℕ, zero, suc, ◌+◌, ◌-◌, ◌≤◌, ◌<◌}
use mathlib.Core.Path.{◌≡◌, refl, sym, ap, subst, ◌∙◌}
use mathlib.Core.List.{List, [], Permᴰ as Permutation}
use mathlib.Core.Bool.{Bool, true, ◌&&◌}
use native.Mathlib.Omega.{arith}
use lib.ListN.{length, take, drop, get_or, length-drop}
use lib.Seq.{length-take-le, get_or-take, get_or-drop}
use Rattle.laws.specs.Any.{any_of}
use Rattle.laws.specs.Order.{leq}
use Rattle.laws.proofs.Inserting.{sort_permuted}
use Rattle.text_strings.specs.InString.{InString}
use Rattle.text_strings.proofs.Contents.{content_from_is}
use Rattle.text_index.specs.Index.{entry_text, entry_le}
use Rattle.text_index.proofs.Indexing.{no_index, index_any as strings_any, index_rising as strings_rising}
use Rattle.text_index.proofs.Lists.{filter_any}
use Rattle.reference.specs.References.{Rule}
use Rattle.manifest_index.specs.Index.{NamesIn, none_in, name_in, name_at, NumberOf, NameIndex, SomeNameIndex, Asked}
use Rattle.manifest.specs.Asks.{asks_for}
use Rattle.manifest_index.specs.declared.Range.{Range}

-- No names have an empty index.
pub no_names : (b at : List ℕ) → NameIndex b at [] []
no_names b at = record { index = no_index b at }

module _ {b at es order : List ℕ} (x : NameIndex b at es order) where
  -- An index of given numbers is an index.
  pub some_index : SomeNameIndex b at order
  some_index = record { numbers = es; index = x }

  -- Some number of the index passes a test exactly if some number that it is made of does.
  pub index_any : (p : ℕ → Bool) → any_of p order ≡ any_of p es
  index_any p = strings_any x.index p

  -- The numbers of an index are those of positions.
  pub index_number : (i : ℕ) → i < length order → get_or order i 0 < length at
  index_number i h = (x.index.entries i h).within

  -- At each of those positions begins a name.
  pub index_names : (i : ℕ) → i < length order → NumberOf b at (get_or order i 0)
  index_names i h = record { entry = x.index.entries i h }

  -- An index has the numbers that it is made of, in another order.
  pub index_permuted : Permutation es order
  index_permuted = rw x.index.sorted (sort_permuted (entry_le b at) es)

  -- The name of a number of the index does not come after that of a later one.
  pub index_rising : (i j : ℕ) → i ≤ j → j < length order → leq (name_at b at (get_or order i 0)) (name_at b at (get_or order j 0)) ≡ true
  unfolding name_at
  index_rising i j l h = strings_rising b at x.index i j l h

-- Some number of those that a rule asks for passes a test exactly if some number of the index does whose name it asks for.
pub asked_any : {b at order : List ℕ} {y : Rule} {r : Range} → Asked b at order y r → (p : ℕ → Bool)
    → any_of p (take (r.to - r.from) (drop r.from order)) ≡ any_of (λ (e : ℕ). asks_for y (name_at b at e) && p e) order
asked_any {b} {at} {order} {y} a p = ap (any_of p) a.all ∙ filter_any (λ (e : ℕ). asks_for y (name_at b at e)) p order

-- There are as many positions as names.
pub names_length : {s ks : List ℕ} {cs : List (List ℕ)} → NamesIn s ks cs → length ks ≡ length cs
names_length none_in = refl
names_length (name_in p n) = ap suc (names_length n)

-- At each position begins its name.
pub names_get : {s ks : List ℕ} {cs : List (List ℕ)} → NamesIn s ks cs → (i : ℕ) → i < length ks → InString s (get_or ks i 0) (get_or cs i [])
names_get none_in i h = absurd (omega arith)
names_get (name_in p n) zero h = p
names_get (name_in p n) (suc i) h = names_get n i (omega arith)

-- the names of n positions from place k on
module _ (b at : List ℕ) (k n : ℕ) (cs : List (List ℕ)) (x : NamesIn b (take n (drop k at)) cs) (fits : k + n ≤ length at) where
  size : length (take n (drop k at)) ≡ n
  size = length-take-le n (drop k at) (omega (arith, length-drop k at))

  -- There are as many names as positions.
  pub names_size : n ≡ length cs
  names_size = sym size ∙ names_length x

  module _ (i : ℕ) (h : i < n) where
    name_here : InString b (get_or at (k + i) 0) (get_or cs i [])
    name_here =
        subst (λ (q : ℕ). InString b q (get_or cs i [])) (get_or-take n (drop k at) i 0 h ∙ get_or-drop k at i 0)
        (names_get x i (omega (arith, size)))

    -- Each place is the number of a name,
    pub names_number : NumberOf b at (k + i)
    names_number = record { entry = record { within = omega arith; inside = record { bytes = get_or cs i []; here = name_here } } }

    -- which is the one that stands there.
    pub names_name : name_at b at (k + i) ≡ get_or cs i []
    unfolding name_at entry_text
    names_name = content_from_is b (get_or at (k + i) 0) (get_or cs i []) name_here
