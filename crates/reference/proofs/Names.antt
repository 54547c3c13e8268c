-- A name is one of a list of names exactly if it stands there with all its bytes.
-- Assumes nothing.
use Prim.Native.Nat.{ℕ}
use mathlib.Core.Path.{◌≡◌, refl, ap, ◌∙◌}
use mathlib.Core.List.{List, [], ◌∷◌, Permᴰ as Permutation}
use mathlib.Core.Bool.{Bool, true, false, ◌&&◌, ◌||◌}
use lib.Dec.{eqb}
use Rattle.laws.specs.Order.{same}
use Rattle.laws.proofs.Order.{by_test, false_true, same_refl, same_eq}
use Rattle.reference_digests.specs.Algorithms.{byte_of}
use Rattle.reference.specs.References.{Manifest, any_manifest, manifest, self_alias, Rule, accepts, no_rule, Id, image_id, no_id}
use Rattle.reference.specs.Matches.{is_one_of, signer_matches, manifest_matches, matches}

-- the name stands in the list
pub data StandsIn (c : List ℕ) : List (List ℕ) → Type 0 where
  first : {ns : List (List ℕ)} → StandsIn c (c ∷ ns)
  later : {n : List ℕ} {ns : List (List ℕ)} → StandsIn c ns → StandsIn c (n ∷ ns)

-- A name that the test finds in a list stands there.
pub one_of : (c : List ℕ) (ns : List (List ℕ)) → is_one_of c ns ≡ true → StandsIn c ns
unfolding is_one_of
one_of c [] e = false_true e
one_of c (n ∷ ns) e =
    by_test (same c n)
    (λ f. let g = same_eq c n f in rw g first)
    (λ f. later (one_of c ns (rw f at e)))

-- A name that stands in a list is found there by the test.
pub one_of_these : (c : List ℕ) (ns : List (List ℕ)) → StandsIn c ns → is_one_of c ns ≡ true
unfolding is_one_of
one_of_these c [] x = elim x [ ]
one_of_these c (n ∷ ns) first = rw (same_refl c)
one_of_these c (n ∷ ns) (later p) = by_test (same c n) (λ f. rw f) (λ f. rw f (one_of_these c ns p))

or_swap : (a b c : Bool) → (a || (b || c)) ≡ (b || (a || c))
or_swap true true c = refl
or_swap true false c = refl
or_swap false true c = refl
or_swap false false c = refl

-- Whether a name is one of a list does not depend on the list's order.
pub one_of_permuted : (c : List ℕ) {ns ms : List (List ℕ)} → Permutation ns ms → is_one_of c ns ≡ is_one_of c ms
unfolding is_one_of
one_of_permuted c Permutation.nil = refl
one_of_permuted c (Permutation.cons e p) = λ i. same c (e i) || one_of_permuted c p i
one_of_permuted c (Permutation.swap {a = a} {b = b} {l = l} e f) =
    or_swap (same c a) (same c b) (is_one_of c l) ∙ (λ i. same c (f i) || (same c (e i) || is_one_of c l))
one_of_permuted c (Permutation.trans p q) = one_of_permuted c p ∙ one_of_permuted c q

manifest_permuted : (x : Manifest) (m : List ℕ) {ns ms : List (List ℕ)} → Permutation ns ms → manifest_matches x m ns ≡ manifest_matches x m ms
unfolding manifest_matches
manifest_permuted any_manifest m p = refl
manifest_permuted (manifest d) m p = refl
manifest_permuted (self_alias c) m p = one_of_permuted c p

-- So a rule that matches an image matches it whatever the order of its aliases.
pub matches_permuted : (r : Rule) (i : Id) {ns ms : List (List ℕ)} → Permutation ns ms → matches r i ns ≡ matches r i ms
unfolding matches
matches_permuted no_rule i p = refl
matches_permuted (accepts a s x) no_id p = refl
matches_permuted (accepts a s x) (image_id b t m) p = ap (λ (z : Bool). eqb (byte_of a) (byte_of b) && (signer_matches s t && z)) (manifest_permuted x m p)
