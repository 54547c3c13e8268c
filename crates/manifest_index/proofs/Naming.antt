-- The alias that a rule asks for: what the answers of looking it up say. Assumes nothing.
use Prim.Native.Nat.{ℕ}
use mathlib.Core.Path.{◌≡◌, refl, sym, ap}
use mathlib.Core.List.{List, [], ◌∷◌}
use mathlib.Core.Bool.{Bool, false}
use native.Mathlib.Omega.{arith}
use Rattle.text_index.specs.Index.{filter, Holds}
use Rattle.text_index.specs.declared.Range.{Range as Places}
use Rattle.reference.specs.References.{Rule, accepts, no_rule, Signer, any_manifest, manifest, self_alias}
use Rattle.reference_digests.specs.declared.algorithm.Algorithm.{Algorithm}
use Rattle.manifest_index.specs.Index.{name_at, Asked}
use Rattle.manifest.specs.Asks.{asks_for}

-- no element passes a test that nothing passes
filter_never : (p : ℕ → Bool) → ((e : ℕ) → p e ≡ false) → (xs : List ℕ) → filter p xs ≡ []
unfolding filter
filter_never p f [] = refl
filter_never p f (x ∷ xs) = rw (f x, filter) (filter_never p f xs)

module _ (b at order : List ℕ) (y : Rule) where
  asks_nothing : ((n : List ℕ) → asks_for y n ≡ false) → Asked b at order y (record { from = 0; to = 0 })
  asks_nothing f =
      record {
        rising = omega arith;
        within = omega arith;
        all = sym (filter_never (λ (e : ℕ). asks_for y (name_at b at e)) (λ e. f (name_at b at e)) order);
      }

  -- What is no rule asks for no alias,
  pub asks_bad : y ≡ no_rule → Asked b at order y (record { from = 0; to = 0 })
  unfolding asks_for
  asks_bad e = asks_nothing (λ n. ap (λ (r : Rule). asks_for r n) e)

  module _ (a : Algorithm) (g : Signer) where
    -- nor does a rule for any manifest,
    pub asks_any : y ≡ accepts a g any_manifest → Asked b at order y (record { from = 0; to = 0 })
    unfolding asks_for
    asks_any e = asks_nothing (λ n. ap (λ (r : Rule). asks_for r n) e)

    -- nor one with a digest.
    pub asks_digest : (d : List ℕ) → y ≡ accepts a g (manifest d) → Asked b at order y (record { from = 0; to = 0 })
    unfolding asks_for
    asks_digest d e = asks_nothing (λ n. ap (λ (r : Rule). asks_for r n) e)

    -- One with an alias asks for the names with that content.
    pub asks_alias : (n : List ℕ) → y ≡ accepts a g (self_alias n) → (r : Places) → Holds b at order n r
        → Asked b at order y (record { from = r.from; to = r.to })
    unfolding asks_for name_at
    asks_alias n e r h = record { rising = h.rising; within = h.within; all = rw e h.all }
