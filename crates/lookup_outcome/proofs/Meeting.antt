-- Digests among references, by their numbers. Assumes nothing.
use Prim.Native.Nat.{ℕ, zero, suc, ◌<◌}
use mathlib.Core.Path.{◌≡◌, refl, sym, ap, subst, ◌∙◌}
use mathlib.Core.List.{List, [], ◌∷◌, ◌++◌}
use native.Mathlib.Omega.{arith}
use lib.ListN.{length, get_or}
use Rattle.reference_digests.specs.declared.algorithm.Algorithm.{Algorithm}
use Rattle.reference.specs.References.{Layer, layer_digest}
use Rattle.manifest_objects.specs.Objects.{StandsAt, SomeReference, AllStand}
use Rattle.manifest_objects.proofs.Standing.{stand_length, stand_at}
use Rattle.lookup_layers.specs.Layers.{LayerDigest}
use Rattle.lookup_outcome.specs.Resolving.{DigestStands, DigestAt, AllMet, none_met, met_too}

-- Where a digest is the reference with a number, it stands at the position with that number.
pub digest_stands : {b keys : List ℕ} {refs : List Layer} → AllStand b keys refs → (o : ℕ) (d : LayerDigest) → DigestAt refs o d
    → DigestStands b (get_or keys o 0) d
digest_stands {b} {keys} s o d a =
    record { stands = subst (StandsAt b (get_or keys o 0)) a.is (stand_at s o (omega (arith, a.within, stand_length s))) }

-- A reference stands where a digest does.
pub some_reference : {b : List ℕ} {k : ℕ} {d : LayerDigest} → DigestStands b k d → SomeReference b k
some_reference {d = d} s = record { layer = layer_digest d.algorithm d.bytes; stands = s.stands }

-- There are as many numbers as digests.
pub met_length : {refs : List Layer} {os : List ℕ} {ds : List LayerDigest} → AllMet refs os ds → length os ≡ length ds
met_length none_met = refl
met_length (met_too a n) = ap suc (met_length n)

-- Each digest is the reference with its number.
pub met_at : {refs : List Layer} {os : List ℕ} {ds : List LayerDigest} → AllMet refs os ds → (k : ℕ) (x : LayerDigest) → k < length os
    → DigestAt refs (get_or os k 0) (get_or ds k x)
met_at none_met k x l = absurd (omega arith)
met_at (met_too a n) zero x l = a
met_at (met_too a n) (suc k) x l = met_at n k x (omega arith)

-- One more is met.
pub met_more : {refs : List Layer} {os : List ℕ} {ds : List LayerDigest} {o : ℕ} {d : LayerDigest} → AllMet refs os ds → DigestAt refs o d
    → AllMet refs (os ++ o ∷ []) (ds ++ d ∷ [])
met_more none_met b = met_too b none_met
met_more (met_too a n) b = met_too a (met_more n b)

-- One layer has one algorithm
pub one_algorithm : {a c : Algorithm} {d e : List ℕ} → layer_digest a d ≡ layer_digest c e → a ≡ c
one_algorithm f = cc

-- and one digest.
pub one_digest : {a c : Algorithm} {d e : List ℕ} → layer_digest a d ≡ layer_digest c e → d ≡ e
one_digest f = cc

same_digest : (d e : LayerDigest) → layer_digest d.algorithm d.bytes ≡ layer_digest e.algorithm e.bytes → d ≡ e
same_digest d e p = λ i. record { algorithm = one_algorithm p i; bytes = one_digest p i }

-- The digests with given numbers are given.
pub met_same : {refs : List Layer} {os : List ℕ} {ds es : List LayerDigest} → AllMet refs os ds → AllMet refs os es → ds ≡ es
met_same none_met none_met = refl
met_same (met_too {d = d} a n) (met_too {d = e} b m) = λ i. same_digest d e (sym a.is ∙ b.is) i ∷ met_same n m i
