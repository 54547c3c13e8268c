-- The end that is computed for a path is the one that it has: it meets a digest, it is lost, or it does neither. Assumes nothing.
use Prim.Native.Nat.{ℕ, zero, suc}
use mathlib.Core.Path.{◌≡◌, refl, sym, subst, ◌∙◌}
use mathlib.Core.Logic.{◌↔◌}
use mathlib.Core.Bool.{false}
use mathlib.Core.List.{List}
use native.Mathlib.Omega.{arith}
use Rattle.reference_digests.specs.declared.algorithm.Algorithm.{Algorithm}
use Rattle.reference.specs.References.{Layer, layer_digest, layer_alias, no_layer}
use Rattle.store_record.specs.Image.{Image}
use Rattle.store_keys.specs.Clash.{any_clash}
use Rattle.lookup_paths.specs.Path.{Defines, Meets, here, onward, Lost, lost_onward, undefined as no_object}
use Rattle.lookup_paths.specs.Follow.{aliased_object, End, met, undefined, endless, follow, object_count, end_of}
use Rattle.lookup_paths.proofs.Objects.{by_option, object_defined, object_undefined, object_exactly, no_object_exactly}
use Rattle.lookup_paths.proofs.Steps.{met_endless, undefined_endless, digest_met, bad_undefined, follow_on, follow_none, alias_endless, its_end}

met_undefined : {C : Type 0} {a : Algorithm} {d : List ℕ} → met a d ≡ undefined → C
met_undefined e = let z : ◌≡◌ {A = ℕ} 0 1 = cc in absurd (omega arith)

no_digest : {a : Algorithm} {s n : List ℕ} (b : Algorithm) (d : List ℕ) → layer_alias a s n ≡ layer_digest b d → ⊥
no_digest b d e = let z : ◌≡◌ {A = ℕ} 0 1 = cc in absurd (omega arith)

bad_no_digest : (b : Algorithm) (d : List ℕ) → no_layer ≡ layer_digest b d → ⊥
bad_no_digest b d e = let z : ◌≡◌ {A = ℕ} 0 1 = cc in absurd (omega arith)

-- the path from a reference meets no digest and is not lost
abbrev pub Neither : List Image → Layer → Type 0
Neither room l = ((a : Algorithm) (d : List ℕ) → Meets room l a d → ⊥) × (Lost room l → ⊥)

module _ (room : List Image) where
  at_digest : (b : Algorithm) (c : List ℕ) (a : Algorithm) (d : List ℕ) → met b c ≡ met a d → Meets room (layer_digest b c) a d
  at_digest b c a d e =
      let p : b ≡ a = cc in
      let q : c ≡ d = cc in
      subst (λ (x : Algorithm). Meets room (layer_digest b c) x d) p (subst (λ (y : List ℕ). Meets room (layer_digest b c) b y) q here)

  -- a path that is computed to meet a digest meets it, and one that is computed to be lost is lost
  meets : (n : ℕ) (l : Layer) (a : Algorithm) (d : List ℕ) → follow n room l ≡ met a d → Meets room l a d
  meets zero (layer_digest b c) a d e = at_digest b c a d (sym (digest_met room zero b c) ∙ e)
  meets zero no_layer a d e = met_undefined (sym e ∙ bad_undefined room zero)
  meets zero (layer_alias b s k) a d e = met_endless (sym e ∙ alias_endless room b s k)
  meets (suc n) (layer_digest b c) a d e = at_digest b c a d (sym (digest_met room (suc n) b c) ∙ e)
  meets (suc n) no_layer a d e = met_undefined (sym e ∙ bad_undefined room (suc n))
  meets (suc n) (layer_alias b s k) a d e =
      let l = layer_alias b s k in
      by_option (aliased_object room l)
      (λ f. met_undefined (sym e ∙ follow_none room n b s k f))
      (λ m f. onward (object_defined room l m f) (meets n m a d (sym (follow_on room n l m f) ∙ e)))

  bad_lost : Lost room no_layer
  unfolding aliased_object
  bad_lost = no_object bad_no_digest (λ m h. object_undefined room refl h)

  lost : (n : ℕ) (l : Layer) → follow n room l ≡ undefined → Lost room l
  lost zero (layer_digest b c) e = met_undefined (sym (digest_met room zero b c) ∙ e)
  lost zero no_layer e = bad_lost
  lost zero (layer_alias b s k) e = undefined_endless (sym e ∙ alias_endless room b s k)
  lost (suc n) (layer_digest b c) e = met_undefined (sym (digest_met room (suc n) b c) ∙ e)
  lost (suc n) no_layer e = bad_lost
  lost (suc n) (layer_alias b s k) e =
      let l = layer_alias b s k in
      by_option (aliased_object room l)
      (λ f. no_object no_digest (λ m h. object_undefined room f h))
      (λ m f. lost_onward (object_defined room l m f) (lost n m (sym (follow_on room n l m f) ∙ e)))

  module _ (c : any_clash room ≡ false) where
    -- the steps after which a path meets its digest or is lost
    meeting : {l : Layer} {a : Algorithm} {d : List ℕ} → Meets room l a d → (n : ℕ) × (follow n room l ≡ met a d)
    meeting (here {a = a} {d = d}) = (zero, digest_met room zero a d)
    meeting (onward {l = l} {m = m} h k) =
        let w = meeting k in (suc w.0, follow_on room w.0 l m ((object_exactly room c).1 h) ∙ w.1)

    ends_here :
        (l : Layer) → ((a : Algorithm) (d : List ℕ) → l ≡ layer_digest a d → ⊥) → ((m : Layer) → Defines room l m → ⊥)
        → follow 1 room l ≡ undefined
    ends_here (layer_digest a d) n u = absurd (n a d refl)
    ends_here no_layer n u = bad_undefined room 1
    ends_here (layer_alias a s k) n u = follow_none room zero a s k ((no_object_exactly room (layer_alias a s k)).1 u)

    losing : {l : Layer} → Lost room l → (n : ℕ) × (follow n room l ≡ undefined)
    losing (no_object {l = l} n u) = (1, ends_here l n u)
    losing (lost_onward {l = l} {m = m} h k) =
        let w = losing k in (suc w.0, follow_on room w.0 l m ((object_exactly room c).1 h) ∙ w.1)

    module _ (l : Layer) where
      its_digest : (a : Algorithm) (d : List ℕ) → Meets room l a d → end_of room l ≡ met a d
      its_digest a d h = let w = meeting h in its_end room w.0 l (λ e. met_endless (sym w.1 ∙ e)) ∙ w.1

      its_loss : Lost room l → end_of room l ≡ undefined
      its_loss h = let w = losing h in its_end room w.0 l (λ e. undefined_endless (sym w.1 ∙ e)) ∙ w.1

      -- A path ends at a digest exactly if it meets it.
      pub met_exactly : (a : Algorithm) (d : List ℕ) → (end_of room l ≡ met a d) ↔ Meets room l a d
      unfolding end_of
      met_exactly a d = (meets (suc (object_count room)) l a d, its_digest a d)

      -- A path ends at a reference that is not defined exactly if it is lost.
      pub lost_exactly : (end_of room l ≡ undefined) ↔ Lost room l
      unfolding end_of
      lost_exactly = (lost (suc (object_count room)) l, its_loss)

      -- A path has no end exactly if it meets no digest and is not lost.
      pub endless_exactly : (end_of room l ≡ endless) ↔ Neither room l
      endless_exactly = (neither, otherwise)
        where
          neither : end_of room l ≡ endless → Neither room l
          neither e = (λ a d h. met_endless (sym (its_digest a d h) ∙ e), λ h. undefined_endless (sym (its_loss h) ∙ e))

          by_cases : (e : End) → end_of room l ≡ e → Neither room l → e ≡ endless
          by_cases (met a d) e n = absurd (n.0 a d ((met_exactly a d).0 e))
          by_cases undefined e n = absurd (n.1 (lost_exactly.0 e))
          by_cases endless e n = refl

          otherwise : Neither room l → end_of room l ≡ endless
          otherwise n = by_cases (end_of room l) refl n
