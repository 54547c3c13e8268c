-- How many steps a path takes. Once it has ended more steps do not change its end, and a path that ends takes at most one step more than there are objects.
-- Assumes nothing.
use Rattle.std.specs.Prelude.{None, Some}
use Prim.Native.Nat.{ℕ, zero, suc, ◌+◌, ◌-◌, ◌≤◌, ◌<◌}
use mathlib.Core.Path.{◌≡◌, refl, sym, ap, subst, ◌∙◌}
use mathlib.Core.List.{List, Memᴰ as In}
use native.Mathlib.Omega.{arith}
use lib.Dec.{eqb, ltb}
use borrow.Author.Tests.{eqb-true, eqb-false, ltb-true, ltb-false}
use Rattle.laws.proofs.Order.{by_test}
use Rattle.reference_digests.specs.declared.algorithm.Algorithm.{Algorithm}
use Rattle.reference.specs.References.{Layer, layer_digest, layer_alias, no_layer}
use Rattle.store_record.specs.Image.{Image}
use Rattle.lookup_paths.specs.Follow.{aliased_object, objects_of, End, met, undefined, endless, on_from, follow, object_count, end_of}
use Rattle.lookup_paths.proofs.Objects.{by_option, none_some, objects_counted, object_of_room}
use Rattle.lookup_paths.proofs.Pigeonhole.{many_elements}

-- A path has ended or has not, and the equation stays at hand.
pub by_end : {C : Type 0} (e : End) → (e ≡ endless → C) → ((e ≡ endless → ⊥) → C) → C
by_end endless f g = f refl
by_end undefined f g = g (λ e. let z : ◌≡◌ {A = ℕ} 0 1 = cc in absurd (omega arith))
by_end (met a d) f g = g (λ e. let z : ◌≡◌ {A = ℕ} 0 1 = cc in absurd (omega arith))

-- A path that meets a digest has ended.
pub met_endless : {C : Type 0} {a : Algorithm} {d : List ℕ} → met a d ≡ endless → C
met_endless e = let z : ◌≡◌ {A = ℕ} 0 1 = cc in absurd (omega arith)

-- A path that is lost has ended.
pub undefined_endless : {C : Type 0} → undefined ≡ endless → C
undefined_endless e = let z : ◌≡◌ {A = ℕ} 0 1 = cc in absurd (omega arith)

module _ (room : List Image) where
  -- A digest is met at once.
  pub digest_met : (n : ℕ) (a : Algorithm) (d : List ℕ) → follow n room (layer_digest a d) ≡ met a d
  unfolding follow
  digest_met zero a d = refl
  digest_met (suc n) a d = refl

  -- What is no reference is not defined.
  pub bad_undefined : (n : ℕ) → follow n room no_layer ≡ undefined
  unfolding follow
  bad_undefined zero = refl
  bad_undefined (suc n) = refl

  -- One step leads from an alias to its object.
  pub follow_on : (k : ℕ) (l m : Layer) → aliased_object room l ≡ Some m → follow (suc k) room l ≡ follow k room m
  unfolding follow on_from aliased_object
  follow_on k (layer_alias a s n) m e = ap (on_from (λ (l : Layer). follow k room l)) e
  follow_on k (layer_digest a d) m e = none_some e
  follow_on k no_layer m e = none_some e

  -- The path ends at an alias without an object.
  pub follow_none :
      (k : ℕ) (a : Algorithm) (s n : List ℕ) → aliased_object room (layer_alias a s n) ≡ None → follow (suc k) room (layer_alias a s n) ≡ undefined
  unfolding follow on_from
  follow_none k a s n e = ap (on_from (λ (l : Layer). follow k room l)) e

  -- A path that has come to an alias goes on.
  pub alias_endless : (a : Algorithm) (s n : List ℕ) → follow zero room (layer_alias a s n) ≡ endless
  unfolding follow
  alias_endless a s n = refl

  -- Once a path has ended, more steps do not change its end.
  pub ended_stays : (n k : ℕ) (l : Layer) → (follow n room l ≡ endless → ⊥) → follow (n + k) room l ≡ follow n room l
  ended_stays zero k (layer_digest a d) h = digest_met (zero + k) a d ∙ sym (digest_met zero a d)
  ended_stays zero k no_layer h = bad_undefined (zero + k) ∙ sym (bad_undefined zero)
  ended_stays zero k (layer_alias a s n) h = absurd (h (alias_endless a s n))
  ended_stays (suc j) k (layer_digest a d) h = digest_met (suc j + k) a d ∙ sym (digest_met (suc j) a d)
  ended_stays (suc j) k no_layer h = bad_undefined (suc j + k) ∙ sym (bad_undefined (suc j))
  ended_stays (suc j) k (layer_alias a s n) h =
      let l = layer_alias a s n in
      let q : suc j + k ≡ suc (j + k) = omega arith in
      ap (λ (i : ℕ). follow i room l) q
      ∙ by_option (aliased_object room l)
      (λ e. follow_none (j + k) a s n e ∙ sym (follow_none j a s n e))
      (λ m e. let g = follow_on j l m e in follow_on (j + k) l m e ∙ ended_stays j k m (λ f. h (g ∙ f)) ∙ sym g)

  -- A path that has ended within n steps has ended within more.
  pub ended_later : (n m : ℕ) (l : Layer) → n ≤ m → (follow n room l ≡ endless → ⊥) → follow m room l ≡ endless → ⊥
  ended_later n m l h f g =
      let q : n + (m - n) ≡ m = omega arith in f (sym (ended_stays n (m - n) l f) ∙ ap (λ (k : ℕ). follow k room l) q ∙ g)

  -- the path has not ended within n steps, and has within one more
  record Exactly (l : Layer) (n : ℕ) : Type 0 where
    going : follow n room l ≡ endless
    ended : follow (suc n) room l ≡ endless → ⊥

  exactly_one : (l : Layer) (i j : ℕ) → Exactly l i → Exactly l j → i ≡ j
  exactly_one l i j p q =
      by_test (ltb i j)
      (λ e. let h = ltb-true i j e in absurd (ended_later (suc i) j l (omega arith) p.ended q.going))
      (λ e. by_test (ltb j i)
      (λ f. let h = ltb-true j i f in absurd (ended_later (suc j) i l (omega arith) q.ended p.going))
      (λ f. let h = ltb-false i j e in let k = ltb-false j i f in omega arith))

  -- the object that comes next
  next : (l : Layer) (n : ℕ) → Exactly l (suc n) → (m : Layer) × In m (objects_of room) × Exactly m n
  next (layer_digest a d) n p = met_endless (sym (digest_met (suc n) a d) ∙ p.going)
  next no_layer n p = undefined_endless (sym (bad_undefined (suc n)) ∙ p.going)
  next (layer_alias a s k) n p =
      let l = layer_alias a s k in
      by_option (aliased_object room l)
      (λ e. undefined_endless (sym (follow_none n a s k e) ∙ p.going))
      (λ m e. (m, object_of_room room l m e, record { going = sym (follow_on n l m e) ∙ p.going; ended = λ f. p.ended (follow_on (suc n) l m e ∙ f) }))

  -- each smaller number of steps is that of an object on the way
  each : (n : ℕ) (l : Layer) → Exactly l n → (k : ℕ) → k < n → (m : Layer) × In m (objects_of room) × Exactly m k
  each zero l p k h = absurd (omega arith)
  each (suc n) l p k h =
      let w = next l n p in
      by_test (eqb k n)
      (λ e. let q = eqb-true k n e in (w.0, w.1, subst (Exactly w.0) (sym q) w.2))
      (λ e. let q = eqb-false k n e in each n w.0 w.2 k (less q))
    where
      less : (k ≡ n → ⊥) → k < n
      less q = omega arith

  -- a path that ends takes few steps
  few_steps : (l : Layer) (n : ℕ) → Exactly l n → n ≤ object_count room
  few_steps l n p =
      let h = many_elements Exactly exactly_one n (objects_of room) (each n l p) in
      let q = objects_counted room in omega arith

  -- the step before the end
  last : (l : Layer) → follow zero room l ≡ endless → (n : ℕ) → (follow n room l ≡ endless → ⊥) → (k : ℕ) × Exactly l k
  last l z zero h = absurd (h z)
  last l z (suc n) h = by_end (follow n room l) (λ e. (n, record { going = e; ended = h })) (λ g. last l z n g)

  -- A path that has not ended within one step more than there are objects never ends.
  pub never_ends : (l : Layer) → end_of room l ≡ endless → (n : ℕ) → follow n room l ≡ endless
  unfolding end_of
  never_ends l e n = by_end (follow n room l) (λ f. f) (λ h. absurd (too_late (last l begun n h)))
    where
      begun : follow zero room l ≡ endless
      begun = by_end (follow zero room l) (λ f. f) (λ h. absurd (ended_later zero (suc (object_count room)) l (omega arith) h e))

      too_late : (k : ℕ) × Exactly l k → ⊥
      too_late w =
          let h = few_steps l w.0 w.1 in ended_later (suc w.0) (suc (object_count room)) l (omega arith) w.1.ended e

  -- The end that a path has come to is its end.
  pub its_end : (n : ℕ) (l : Layer) → (follow n room l ≡ endless → ⊥) → end_of room l ≡ follow n room l
  unfolding end_of
  its_end n l h =
      let c = suc (object_count room) in
      by_end (follow c room l)
      (λ e. absurd (h (never_ends l e n)))
      (λ g. let q : c + n ≡ n + c = omega arith in
      sym (ended_stays c n l g) ∙ ap (λ (k : ℕ). follow k room l) q ∙ ended_stays n c l h)

  -- An alias has the end of its object.
  pub end_on : (l m : Layer) → aliased_object room l ≡ Some m → end_of room l ≡ end_of room m
  unfolding end_of
  end_on l m e =
      let c = object_count room in
      by_end (follow c room m)
      (λ f. let g = follow_on c l m e ∙ f in g ∙ sym (sym (follow_on (suc c) l m e) ∙ never_ends l g (suc (suc c))))
      (λ h. follow_on c l m e ∙ sym (its_end c m h))
