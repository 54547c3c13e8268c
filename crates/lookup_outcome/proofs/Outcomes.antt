-- How layers come out, one after the other: those that were found before the rest, and the first that fails. Assumes nothing.
use Prim.Native.Nat.{ℕ, suc, ◌≤◌}
use mathlib.Core.Path.{◌≡◌, refl, sym, ap, ◌∙◌}
use mathlib.Core.List.Memᴰ
use mathlib.Core.List.{List, [], ◌∷◌, ◌++◌, Memᴰ as In}
use mathlib.Core.Bool.{Bool, true}
use native.Mathlib.Omega.{arith}
use lib.ListN.{length}
use Rattle.laws.proofs.Order.{by_test}
use Rattle.reference_digests.specs.Algorithms.{digest_bytes}
use Rattle.reference_digests.proofs.Digests.{digest_bounds}
use Rattle.lookup_layers.specs.Layers.{LayerDigest, entry_of, AllSized, none_sized, sized, is_listed}
use Rattle.lookup_layers.proofs.Listing.{listed}
use Rattle.lookup_paths.specs.Follow.{End, met, undefined, endless}
use Rattle.lookup_outcome.specs.Outcome.{Fate, found, lost, if_listed, fate, Outcome, resolved, fails, before, outcome}
use Rattle.lookup_outcome.specs.declared.Failure.{Failure}
use Rattle.lookup_outcome.specs.declared.Failure.TheVariants.{Undefined, Endless}

-- layers that were found, and then the rest that comes out so
unfoldable pub after : List LayerDigest → Outcome → Outcome
after [] o = o
after (d ∷ ds) o = before (found d) (after ds o)

-- One more was found after the others.
pub after_more : (ds : List LayerDigest) (d : LayerDigest) (o : Outcome) → after (ds ++ d ∷ []) o ≡ after ds (before (found d) o)
unfolding after
after_more [] d o = refl
after_more (x ∷ ds) d o = ap (before (found x)) (after_more ds d o)

-- The first that fails has as many before it as were found.
pub after_fails : (ds : List LayerDigest) (f : Failure) (o : Outcome) → after ds (before (lost f) o) ≡ fails (length ds) f
unfolding after before
after_fails [] f o = refl
after_fails (x ∷ ds) f o = ap (before (found x)) (after_fails ds f o)

-- Where nothing is left, those that were found are all.
pub after_all : (ds : List LayerDigest) → after ds (resolved []) ≡ resolved ds
unfolding after before
after_all [] = refl
after_all (x ∷ ds) = ap (before (found x)) (after_all ds)

-- The first layer of a list comes out before the rest.
pub outcome_next : (present : List LayerDigest) (e : End) (es : List End) → outcome present (e ∷ es) ≡ before (fate present e) (outcome present es)
unfolding outcome
outcome_next present e es = refl

-- No layers come out as no digests.
pub outcome_none : (present : List LayerDigest) → outcome present [] ≡ resolved []
unfolding outcome
outcome_none present = refl

one_list : {ds es : List LayerDigest} → resolved ds ≡ resolved es → ds ≡ es
one_list e = cc

not_fails : {C : Type 0} {ds : List LayerDigest} {k : ℕ} {f : Failure} → fails k f ≡ resolved ds → C
not_fails e = let z : ◌≡◌ {A = ℕ} 0 1 = cc in absurd (omega arith)

-- one layer more than the rest
one_longer : (ds : List LayerDigest) (n : ℕ) (f : Fate) (o : Outcome) → before f o ≡ resolved ds
    → ((es : List LayerDigest) → o ≡ resolved es → length es ≡ n) → length ds ≡ suc n
unfolding before
one_longer ds n (lost f) o e ih = not_fails e
one_longer ds n (found d) (fails k f) e ih = not_fails e
one_longer ds n (found d) (resolved es) e ih = sym (ap length (one_list e)) ∙ ap suc (ih es refl)

-- Layers that are all found have as many digests.
pub all_counted : (present : List LayerDigest) (es : List End) (ds : List LayerDigest) → outcome present es ≡ resolved ds → length ds ≡ length es
unfolding outcome
all_counted present [] ds e = sym (ap length (one_list e))
all_counted present (x ∷ es) ds e = one_longer ds (length es) (fate present x) (outcome present es) e (all_counted present es)

-- A path that comes to an alias that is not defined is a layer's failure,
pub fate_undefined : (present : List LayerDigest) (e : End) → e ≡ undefined → fate present e ≡ lost Undefined
unfolding fate
fate_undefined present e p = ap (fate present) p

-- as is one that never meets a digest.
pub fate_endless : (present : List LayerDigest) (e : End) → e ≡ endless → fate present e ≡ lost Endless
unfolding fate
fate_endless present e p = ap (fate present) p

-- A digest that is met makes the fate by whether it is listed.
pub fate_met : (present : List LayerDigest) (e : End) (d : LayerDigest) → e ≡ met d.algorithm d.bytes → (t : Bool) → is_listed d present ≡ t
    → fate present e ≡ if_listed d t
unfolding fate
fate_met present e d p t q = ap (fate present) p ∙ ap (if_listed d) q

-- digests of the lengths of their algorithms
listed_sized : (d : LayerDigest) {ds : List LayerDigest} → AllSized ds → In d ds → length d.bytes ≡ digest_bytes d.algorithm
listed_sized d none_sized m = absurd (Memᴰ.not-nil m)
listed_sized d (sized {d = x} e h) (In.head q) = rw q e
listed_sized d (sized e h) (In.tail m) = listed_sized d h m

one_found : {d e : LayerDigest} → found d ≡ found e → d ≡ e
one_found p = cc

not_lost : {C : Type 0} {f : Failure} {d : LayerDigest} → lost f ≡ found d → C
not_lost p = let z : ◌≡◌ {A = ℕ} 0 1 = cc in absurd (omega arith)

found_listed : (present : List LayerDigest) (e : End) (d : LayerDigest) → fate present e ≡ found d → is_listed d present ≡ true
unfolding fate if_listed
found_listed present undefined d p = not_lost p
found_listed present endless d p = not_lost p
found_listed present (met a x) d p =
    let y : LayerDigest = record { algorithm = a; bytes = x } in
    by_test (is_listed y present)
    (λ t. let q : y ≡ d = one_found (ap (if_listed y) (sym t) ∙ p) in ap (λ (z : LayerDigest). is_listed z present) (sym q) ∙ t)
    (λ t. not_lost (ap (if_listed y) (sym t) ∙ p))

-- The entry of a layer that is found in a layer list has 49 bytes at most.
pub found_small : (present : List LayerDigest) (e : End) (d : LayerDigest) → AllSized present → fate present e ≡ found d → length (entry_of d) ≤ 49
unfolding entry_of
found_small present e d s p =
    omega (arith, listed_sized d s ((listed d present).0 (found_listed present e d p)), (digest_bounds d.algorithm).1)
