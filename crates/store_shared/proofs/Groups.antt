-- Images are of one group exactly if they are of one algorithm and signer.
use Prim.Native.Nat.{ℕ, ◌+◌, ◌≤◌, ◌<◌}
use mathlib.Core.Path.{◌≡◌, refl, sym, ap, ap₂, ◌∙◌}
use mathlib.Core.Bool.{Bool, true, false, ◌&&◌}
use mathlib.Core.List.{List}
use native.Mathlib.Omega.{arith}
use lib.Dec.{eqb, ltb}
use lib.ListN.{length, get_or, set}
use lib.Seq.{get_or-set_same, get_or-set_other}
use borrow.Author.Tests.{eqb-true, eqb-false, eq-eqb, ltb-true, ltb-false}
use Rattle.laws.specs.Order.{same}
use Rattle.laws.proofs.Order.{by_test, false_true, same_refl, same_eq}
use Rattle.reference_digests.specs.Algorithms.{byte_of}
use Rattle.reference_digests.specs.declared.algorithm.Algorithm.{Algorithm}
use Rattle.store_record.specs.Reading.{between, no_record}
use Rattle.store_record.specs.declared.Record.{Record}
use Rattle.store_record.specs.declared.Survey.{Survey}
use Rattle.store_names.specs.Shared.{signed_as, one_signer, FirstSigned, GroupsOf}

-- where a conjunction is true, both of its parts are
and_parts : (x y : Bool) → (x && y) ≡ true → (x ≡ true) × (y ≡ true)
and_parts true y e = (refl, e)
and_parts false y e = false_true e

module _ (b : List ℕ) where
  -- the digest of a record's signer
  abbrev signer : Record → List ℕ
  signer r = between b r.signer r.manifest

  -- An image is of its own algorithm and signer.
  signer_refl : (r : Record) → one_signer b r r ≡ true
  unfolding signed_as
  signer_refl r = ap₂ (λ (x y : Bool). x && y) (eq-eqb (byte_of r.algorithm) (byte_of r.algorithm) refl) (same_refl (signer r))

  module _ (q r : Record) where
    signer_parts : one_signer b q r ≡ true → (byte_of q.algorithm ≡ byte_of r.algorithm) × (signer q ≡ signer r)
    unfolding signed_as
    signer_parts e =
        let p = and_parts (eqb (byte_of q.algorithm) (byte_of r.algorithm)) (same (signer q) (signer r)) e in
        (eqb-true _ _ p.0, same_eq _ _ p.1)

    parts_signer : byte_of q.algorithm ≡ byte_of r.algorithm → signer q ≡ signer r → one_signer b q r ≡ true
    unfolding signed_as
    parts_signer e f = ap₂ (λ (x : ℕ) (s : List ℕ). eqb x (byte_of r.algorithm) && same s (signer r)) e f ∙ signer_refl r

    -- two such images are alike to every other
    signer_agrees : one_signer b q r ≡ true → (z : Record) → one_signer b q z ≡ one_signer b r z
    unfolding signed_as
    signer_agrees e z =
        let p = signer_parts e in
        ap₂ (λ (x : ℕ) (s : List ℕ). eqb x (byte_of z.algorithm) && same s (signer z)) p.0 p.1

  module _ (v : Survey) where
    abbrev its : ℕ → Record
    its i = get_or v.records i no_record

    -- At first none is passed.
    pub none_passed : (a : Algorithm) (s : List ℕ) (j : ℕ) → j < 0 → signed_as b a s (its j) ≡ false
    none_passed a s j h = absurd (omega arith)

    -- One more that is not of the signer is passed.
    pub one_passed : (a : Algorithm) (s : List ℕ) (n : ℕ) → ((j : ℕ) → j < n → signed_as b a s (its j) ≡ false) → signed_as b a s (its n) ≡ false
        → (j : ℕ) → j < n + 1 → signed_as b a s (its j) ≡ false
    one_passed a s n f e j h =
        by_test (eqb j n) (λ g. ap (λ (k : ℕ). signed_as b a s (its k)) (eqb-true j n g) ∙ e) (λ g. f j (omega (arith, eqb-false j n g)))

    -- the first of an image's signer is of its signer
    abbrev FirstOf : ℕ → ℕ → Type 0
    FirstOf i g = FirstSigned b v (its i).algorithm (signer (its i)) i g

    at_first : (i g : ℕ) → FirstOf i g → one_signer b (its i) (its g) ≡ true
    at_first i g x =
        by_test (ltb g i) (λ e. x.here (ltb-true g i e))
        (λ e. let f : i ≡ g = omega (arith, ltb-false g i e, x.within) in ap (λ (k : ℕ). one_signer b (its i) (its k)) (sym f) ∙ signer_refl (its i))

    module _ (i j g h : ℕ) (x : FirstOf i g) (y : FirstOf j h) where
      not_earlier : one_signer b (its i) (its j) ≡ true → h ≤ g
      not_earlier e =
          by_test (ltb g h)
          (λ f. false_true (sym (y.before g (ltb-true g h f)) ∙ sym (signer_agrees (its i) (its j) e (its g)) ∙ at_first i g x))
          (λ f. ltb-false g h f)

      one_group : g ≡ h → one_signer b (its i) (its j) ≡ true
      one_group e =
          let p = signer_parts (its i) (its g) (at_first i g x) in
          let q = signer_parts (its j) (its g) (ap (λ (k : ℕ). one_signer b (its j) (its k)) e ∙ at_first j h y) in
          parts_signer (its i) (its j) (p.0 ∙ sym q.0) (p.1 ∙ sym q.1)

    signer_turned : (q r : Record) → one_signer b q r ≡ true → one_signer b r q ≡ true
    signer_turned q r e = let p = signer_parts q r e in parts_signer r q (sym p.0) (sym p.1)

    groups_alike : (i j g h : ℕ) → FirstOf i g → FirstOf j h → eqb g h ≡ one_signer b (its i) (its j)
    groups_alike i j g h x y =
        by_test (one_signer b (its i) (its j))
        (λ e. eq-eqb g h (let l = not_earlier i j g h x y e in let k = not_earlier j i h g y x (signer_turned _ _ e) in omega arith) ∙ sym e)
        (λ e. by_test (eqb g h) (λ f. false_true (sym e ∙ one_group i j g h x y (eqb-true g h f))) (λ f. f ∙ sym e))

    module _ (groups : List ℕ) where
      -- Two images are of one group exactly if they are of one algorithm and signer.
      pub groups_equal : (n : ℕ) → GroupsOf b v n groups → (i j : ℕ) → i < n → j < n
          → eqb (get_or groups i 0) (get_or groups j 0) ≡ one_signer b (its i) (its j)
      groups_equal n s i j h k = groups_alike i j _ _ (s.each i h) (s.each j k)

      -- At first no image's group is asked for.
      pub groups_none : GroupsOf b v 0 groups
      groups_none = record { each = λ i h. absurd (omega arith) }

      -- The group of the next image is written.
      pub groups_next : (n g : ℕ) → GroupsOf b v n groups → n < length groups → FirstOf n g → GroupsOf b v (n + 1) (set groups n g)
      groups_next n g s h x =
          record {
            each = λ i l. by_test (eqb i n)
                (λ e. rw (eqb-true i n e, get_or-set_same groups n g 0 h) x)
                (λ e. rw (get_or-set_other groups n i g 0 (λ f. eqb-false i n e f)) (s.each i (omega (arith, eqb-false i n e))));
          }
