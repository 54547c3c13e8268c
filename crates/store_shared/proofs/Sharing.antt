-- Some two numbers of an index are those of one name, of images of one group, exactly if some two images of one algorithm and signer have a name in common.
use Prim.Native.Nat.{ℕ, zero, suc, ◌+◌, ◌*◌, ◌/◌, ◌≤◌, ◌<◌}
use mathlib.Core.Path.{◌≡◌, refl, sym, ap, ap₂, ◌∙◌}
use mathlib.Core.Bool.{Bool, false, ◌&&◌, ◌||◌, or-false, or_comm, and-false}
use mathlib.Core.List.{List, []}
use native.Mathlib.Omega.{arith}
use native.Mathlib.Numerals.{add-one}
use lib.Dec.{eqb}
use lib.ListN.{length, take, get_or}
use lib.Seq.{take_all}
use Rattle.laws.specs.Any.{any_of, any_pair}
use Rattle.laws.specs.Order.{same}
use Rattle.laws.proofs.Any.{any_and, any_pointwise, any_swapped}
use Rattle.laws.proofs.Order.{same_sym}
use Rattle.reference_digests.specs.Algorithms.{byte_of}
use Rattle.manifest_index.specs.Index.{name_at, NameIndex}
use Rattle.manifest.proofs.Aliases.{self_different}
use Rattle.manifest_index.proofs.Indexing.{index_permuted, names_size, names_name}
use Rattle.store_record.specs.Reading.{between, no_record}
use Rattle.store_record.specs.declared.Record.{Record}
use Rattle.store_record.specs.declared.Survey.{Survey}
use Rattle.store_record.proofs.Sharing.{eqb_sym}
use Rattle.store_names.specs.Placed.{most_names, PlacedUpTo, with_numbers, numbers_of}
use Rattle.store_names.proofs.Named.{named_sym}
use Rattle.store_names.specs.Shared.{signed_as, one_signer, GroupsOf, group_of, shared, own_names, have_shared}
use Rattle.store_shared.proofs.Groups.{groups_equal}
use Rattle.store_names.proofs.Numbering.{numbers_names, numbers_none, numbers_append}
use Rattle.laws.proofs.Pairs.{any_last, pair_both, pair_last, pair_permuted}
use Rattle.store_shared.proofs.Runs.{shared_sym}

have_sym : (b : List ℕ) (q r : Record) → have_shared b q r ≡ have_shared b r q
unfolding signed_as
have_sym b q r = λ i.
    (eqb_sym (byte_of q.algorithm) (byte_of r.algorithm) i && same_sym (between b q.signer q.manifest) (between b r.signer r.manifest) i)
    && named_sym (own_names b q) (own_names b r) i

module _ (b : List ℕ) (v : Survey) (at counts groups : List ℕ) (few : v.count ≤ 64) (space : v.count ≤ length v.records)
    (s : PlacedUpTo v.count b v at counts) (g : GroupsOf b v v.count groups) where
  abbrev its : ℕ → Record
  its i = get_or v.records i no_record

  -- the first n records
  abbrev first : ℕ → List Record
  first n = take n v.records

  module _ (i : ℕ) (h : i < v.count) where
    fits : most_names * i + get_or counts i 0 ≤ length at
    fits = omega (arith, s.few i h, s.at_space)

    size : get_or counts i 0 ≡ length (own_names b (its i))
    size = names_size b at (most_names * i) (get_or counts i 0) (own_names b (its i)) (s.each i h) fits

    whole : take (get_or counts i 0) (own_names b (its i)) ≡ own_names b (its i)
    whole = take_all (get_or counts i 0) (own_names b (its i)) (omega (arith, size))

    module _ (k : ℕ) (l : k < get_or counts i 0) where
      name_is : name_at b at (most_names * i + k) ≡ get_or (own_names b (its i)) k []
      name_is = names_name b at (most_names * i) (get_or counts i 0) (own_names b (its i)) (s.each i h) fits k l

      group_is : group_of groups (most_names * i + k) ≡ get_or groups i 0
      unfolding group_of
      group_is = let e : (most_names * i + k) / 64 ≡ i = omega (arith, s.few i h) in ap (λ (n : ℕ). get_or groups n 0) e

  -- the number e is that of the name c, of image n
  module _ (n : ℕ) (h : n < v.count) (e : ℕ) (c : List ℕ) (of_group : group_of groups e ≡ get_or groups n 0) (of_name : name_at b at e ≡ c) where
    -- beside a number of image i
    beside_one : (i : ℕ) (l : i < v.count) (k : ℕ) → k < get_or counts i 0
        → shared b at groups e (most_names * i + k) ≡ (one_signer b (its n) (its i) && same c (get_or (own_names b (its i)) k []))
    unfolding shared
    beside_one i l k m =
        ap₂ (λ (x y : Bool). x && y) (ap₂ eqb of_group (group_is i l k m) ∙ groups_equal b v groups v.count g n i h l) (ap₂ same of_name (name_is i l k m))

    -- beside those of the first m images
    beside_all : (m : ℕ) → m ≤ v.count
        → any_of (shared b at groups e) (numbers_of counts m) ≡ any_of (λ (r : Record). one_signer b (its n) r && any_of (same c) (own_names b r)) (first m)
    unfolding any_of numbers_of
    beside_all zero l = refl
    beside_all (suc m) l = next (beside_all m (omega arith))
      where
        next : any_of (shared b at groups e) (numbers_of counts m) ≡ any_of (λ (r : Record). one_signer b (its n) r && any_of (same c) (own_names b r)) (first m)
            → any_of (shared b at groups e) (with_numbers (most_names * m) (get_or counts m 0) (numbers_of counts m))
            ≡ any_of (λ (r : Record). one_signer b (its n) r && any_of (same c) (own_names b r)) (first (suc m))
        next ih =
            numbers_names (shared b at groups e) (λ (d : List ℕ). one_signer b (its n) (its m)
            && same c d) (most_names * m) (own_names b (its m)) (numbers_of counts m)
            (λ k o. beside_one m (omega arith) k (omega (arith, size m (omega arith)))) (get_or counts m 0) (omega (arith, size m (omega arith)))
            ∙ ap₂ (λ (x y : Bool). x || y)
            (ap (any_of (λ (d : List ℕ). one_signer b (its n) (its m) && same c d)) (whole m (omega arith))
            ∙ any_and (one_signer b (its n) (its m)) (same c) (own_names b (its m))) ih
            ∙ or_comm (one_signer b (its n) (its m) && any_of (same c) (own_names b (its m)))
            (any_of (λ (r : Record). one_signer b (its n) r && any_of (same c) (own_names b r)) (first m))
            ∙ sym (any_last (λ (r : Record). one_signer b (its n) r && any_of (same c) (own_names b r)) v.records m no_record (omega arith))
            ∙ ap (λ (k : ℕ). any_of (λ (r : Record). one_signer b (its n) r && any_of (same c) (own_names b r)) (first k)) (add-one m)

  module _ (n : ℕ) (h : n < v.count) where
    -- the numbers of an image beside those of the images before it
    across : any_of (λ (e : ℕ). any_of (shared b at groups e) (numbers_of counts n)) (with_numbers (most_names * n) (get_or counts n 0) [])
        ≡ any_of (λ (r : Record). have_shared b r (its n)) (first n)
    unfolding any_of
    across =
        numbers_names (λ (e : ℕ). any_of (shared b at groups e) (numbers_of counts n))
        (λ (c : List ℕ). any_of (λ (r : Record). one_signer b (its n) r && any_of (same c) (own_names b r)) (first n)) (most_names * n) (own_names b (its n)) []
        (λ k l. let o : k < get_or counts n 0 = omega (arith, size n h) in
        beside_all n h (most_names * n + k) (get_or (own_names b (its n)) k []) (group_is n h k o) (name_is n h k o) n (omega arith))
        (get_or counts n 0) (omega (arith, size n h))
        ∙ or-false _
        ∙ ap (any_of (λ (c : List ℕ). any_of (λ (r : Record). one_signer b (its n) r && any_of (same c) (own_names b r)) (first n))) (whole n h)
        ∙ any_swapped (λ (c : List ℕ) (r : Record). one_signer b (its n) r && any_of (same c) (own_names b r)) (own_names b (its n)) (first n)
        ∙ any_pointwise _ _ (λ r. any_and (one_signer b (its n) r) (λ (c : List ℕ). any_of (same c) (own_names b r)) (own_names b (its n))
        ∙ have_sym b (its n) r) (first n)

    -- the numbers of an image among themselves
    within : (c : ℕ) → c ≤ get_or counts n 0 → any_pair (shared b at groups) (with_numbers (most_names * n) c []) ≡ false
    unfolding any_pair any_of with_numbers shared
    within zero l = refl
    within (suc c) l =
        ap₂ (λ (x y : Bool). x || y)
        (numbers_none (shared b at groups (most_names * n + c)) (most_names * n) [] c (λ k m.
        ap (λ (x : Bool). eqb (group_of groups (most_names * n + c)) (group_of groups (most_names * n + k)) && x)
        (ap₂ same (name_is n h c (omega arith)) (name_is n h k (omega arith))
        ∙ self_different (between b (its n).text (its n).end) k c m (omega (arith, size n h)))
        ∙ and-false (eqb (group_of groups (most_names * n + c)) (group_of groups (most_names * n + k)))))
        (within c (omega arith))

  -- the numbers of the first n images
  numbers_shared : (n : ℕ) → n ≤ v.count → any_pair (shared b at groups) (numbers_of counts n) ≡ any_pair (have_shared b) (first n)
  unfolding any_pair numbers_of
  numbers_shared zero h = refl
  numbers_shared (suc n) h = next (numbers_shared n (omega arith))
    where
      next : any_pair (shared b at groups) (numbers_of counts n) ≡ any_pair (have_shared b) (first n)
          → any_pair (shared b at groups) (with_numbers (most_names * n) (get_or counts n 0) (numbers_of counts n)) ≡ any_pair (have_shared b) (first (suc n))
      next ih =
          ap (any_pair (shared b at groups)) (numbers_append (most_names * n) (get_or counts n 0) (numbers_of counts n))
          ∙ pair_both (shared b at groups) (with_numbers (most_names * n) (get_or counts n 0) []) (numbers_of counts n)
          ∙ (λ i. (within n (omega arith) (get_or counts n 0) (omega arith) i || across n (omega arith) i) || ih i)
          ∙ or_comm (any_of (λ (r : Record). have_shared b r (its n)) (first n)) (any_pair (have_shared b) (first n))
          ∙ sym (pair_last (have_shared b) v.records n no_record (omega arith))
          ∙ ap (λ (k : ℕ). any_pair (have_shared b) (first k)) (add-one n)

  -- Two numbers of the index are shared exactly if two images share a name.
  pub index_shared : {order : List ℕ} → NameIndex b at (numbers_of counts v.count) order
      → any_pair (shared b at groups) order ≡ any_pair (have_shared b) (first v.count)
  index_shared {order} x =
      sym (pair_permuted (shared b at groups) (λ e f m n. shared_sym b at order groups e f) (index_permuted x)) ∙ numbers_shared v.count (omega arith)
