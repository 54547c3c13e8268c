-- How layers come out, in terms of their paths: their digests are what the paths meet, and a layer that fails has a path which says why.
-- Assumes nothing.
use Prim.Native.Nat.{ℕ, suc, ◌<◌}
use mathlib.Core.Path.{◌≡◌, refl, sym, ap, subst, ◌∙◌}
use mathlib.Core.Logic.{◌↔◌}
use mathlib.Core.Bool.{false}
use mathlib.Core.List.{List, [], ◌∷◌, map, Memᴰ as In}
use native.Mathlib.Omega.{arith}
use lib.ListN.{length}
use Rattle.laws.proofs.Order.{by_test, false_true}
use Rattle.reference.specs.References.{Layer}
use Rattle.store_record.specs.Image.{Image}
use Rattle.store_keys.specs.Clash.{any_clash}
use Rattle.lookup_layers.specs.Layers.{LayerDigest, is_listed}
use Rattle.lookup_layers.proofs.Listing.{listed}
use Rattle.lookup_paths.specs.Path.{Meets}
use Rattle.lookup_paths.specs.Follow.{End, met, undefined, endless, end_of}
use Rattle.lookup_paths.proofs.Ends.{met_exactly, lost_exactly, endless_exactly}
use Rattle.lookup_outcome.specs.Outcome.{Fate, found, lost as not_found, if_listed, fate, Outcome, resolved, fails, before, outcome}
use Rattle.lookup_outcome.specs.declared.Failure.{Failure}
use Rattle.lookup_image.specs.Layers.{layers_at, outcome_in}
use Rattle.lookup.specs.Resolved.{AllMeet, none_meets, meets_too, Fails, lost, goes_on, absent, FirstFails, first_fails, later_fails}

module _ (room : List Image) (apart : any_clash room ≡ false) (present : List LayerDigest) where
  unlisted : {d : LayerDigest} → (In d present → ⊥) → is_listed d present ≡ false
  unlisted {d} n = by_test (is_listed d present) (λ t. absurd (n ((listed d present).0 t))) (λ f. f)

  -- a path that meets a digest which is present
  meets_found : {l : Layer} {d : LayerDigest} → Meets room l d.algorithm d.bytes → In d present → fate present (end_of room l) ≡ found d
  unfolding fate if_listed
  meets_found {l} {d} h m =
      ap (fate present) ((met_exactly room apart l d.algorithm d.bytes).1 h) ∙ ap (if_listed d) ((listed d present).1 m)

  -- a layer that fails
  fails_lost : {l : Layer} {f : Failure} → Fails room present l f → fate present (end_of room l) ≡ not_found f
  unfolding fate if_listed
  fails_lost {l} (lost h) = ap (fate present) ((lost_exactly room apart l).1 h)
  fails_lost {l} (goes_on n u) = ap (fate present) ((endless_exactly room apart l).1 (n, u))
  fails_lost {l} (absent {d = d} h n) =
      ap (fate present) ((met_exactly room apart l d.algorithm d.bytes).1 h) ∙ ap (if_listed d) (unlisted n)

  -- what the fate of a layer tells
  abbrev Comes : Layer → Fate → Type 0
  Comes l (found d) = Meets room l d.algorithm d.bytes × In d present
  Comes l (not_found f) = Fails room present l f

  comes_end : (l : Layer) (e : End) → end_of room l ≡ e → Comes l (fate present e)
  unfolding fate if_listed
  comes_end l (met a d) q =
      let x : LayerDigest = record { algorithm = a; bytes = d } in
      let h = (met_exactly room apart l a d).0 q in
      by_test (is_listed x present)
      (λ t. subst (Comes l) (sym (ap (if_listed x) t)) (h, (listed x present).0 t))
      (λ f. subst (Comes l) (sym (ap (if_listed x) f)) (absent {d = x} h (λ m. false_true (sym f ∙ (listed x present).1 m))))
  comes_end l undefined q = lost ((lost_exactly room apart l).0 q)
  comes_end l endless q = let n = (endless_exactly room apart l).0 q in goes_on n.0 n.1

  -- what the outcome of some layers tells
  abbrev ComeOut : List Layer → Outcome → Type 0
  ComeOut ls (resolved ds) = AllMeet room present ls ds
  ComeOut ls (fails k f) = FirstFails room present ls k f

  comes_before : (l : Layer) (ls : List Layer) (w : Fate) → Comes l w → (o : Outcome) → ComeOut ls o → ComeOut (l ∷ ls) (before w o)
  unfolding before
  comes_before l ls (not_found f) h o k = first_fails h
  comes_before l ls (found d) h (resolved ds) k = meets_too h.0 h.1 k
  comes_before l ls (found d) h (fails i f) k = later_fails h.0 h.1 k

  come_out : (ls : List Layer) → ComeOut ls (outcome present (map (end_of room) ls))
  unfolding outcome
  come_out [] = none_meets
  come_out (l ∷ ls) =
      comes_before l ls (fate present (end_of room l)) (comes_end l (end_of room l) refl) (outcome present (map (end_of room) ls)) (come_out ls)

  meet_resolved : {ls : List Layer} {ds : List LayerDigest} → AllMeet room present ls ds → outcome present (map (end_of room) ls) ≡ resolved ds
  unfolding outcome before
  meet_resolved none_meets = refl
  meet_resolved (meets_too h m k) = λ i. before (meets_found h m i) (meet_resolved k i)

  first_failed : {ls : List Layer} {k : ℕ} {f : Failure} → FirstFails room present ls k f → outcome present (map (end_of room) ls) ≡ fails k f
  unfolding outcome before
  first_failed (first_fails {ls = ls} h) = ap (λ (w : Fate). before w (outcome present (map (end_of room) ls))) (fails_lost h)
  first_failed (later_fails h m k) = λ i. before (meets_found h m i) (first_failed k i)

  module _ (place : ℕ) where
    -- The layers of an image come out as digests exactly if their paths meet these, one by one, and all are in the layer list.
    pub resolved_exactly : (ds : List LayerDigest) → (outcome_in room place present ≡ resolved ds) ↔ AllMeet room present (layers_at room place) ds
    unfolding outcome_in
    resolved_exactly ds = (λ e. subst (ComeOut (layers_at room place)) e (come_out (layers_at room place)), λ m. meet_resolved m)

    -- A layer is told to be the first that fails exactly if those before it meet digests in the layer list, and it fails for the reason that is told: it is
    -- lost, it meets no digest and is not lost, or it meets a digest that is not in the layer list.
    pub fails_exactly : (k : ℕ) (f : Failure) → (outcome_in room place present ≡ fails k f) ↔ FirstFails room present (layers_at room place) k f
    unfolding outcome_in
    fails_exactly k f = (λ e. subst (ComeOut (layers_at room place)) e (come_out (layers_at room place)), λ m. first_failed m)

module _ {room : List Image} {present : List LayerDigest} where
  -- Every digest that is met stands in the layer list.
  pub met_present : {ls : List Layer} {ds : List LayerDigest} {d : LayerDigest} → AllMeet room present ls ds → In d ds → In d present
  met_present (meets_too h m k) (In.head e) = subst (λ (x : LayerDigest). In x present) (sym e) m
  met_present none_meets x4 = elim x4 [ ]
  met_present (meets_too h m k) (In.tail i) = met_present k i

  -- There are as many digests as layers.
  pub met_length : {ls : List Layer} {ds : List LayerDigest} → AllMeet room present ls ds → length ds ≡ length ls
  met_length none_meets = refl
  met_length (meets_too h m k) = ap suc (met_length k)

  -- The layer that fails is one of them.
  pub failing_within : {ls : List Layer} {k : ℕ} {f : Failure} → FirstFails room present ls k f → k < length ls
  failing_within (first_fails h) = omega arith
  failing_within (later_fails h m k) = let l = failing_within k in omega arith
