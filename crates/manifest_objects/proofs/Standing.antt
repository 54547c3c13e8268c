-- References by their positions, one by one. Assumes nothing.
use Prim.Native.Nat.{ℕ, zero, suc, ◌<◌}
use mathlib.Core.Path.{◌≡◌, refl, sym, ap, ◌∙◌}
use mathlib.Core.List.{List, ◌∷◌}
use native.Mathlib.Omega.{arith}
use lib.ListN.{length, get_or}
use Rattle.reference.specs.References.{Layer, no_layer}
use Rattle.manifest_objects.specs.Objects.{StandsAt, SomeReference, AllStand, none_stands, stands_too}

-- There are as many positions as references.
pub stand_length : {b ks : List ℕ} {ls : List Layer} → AllStand b ks ls → length ks ≡ length ls
stand_length none_stands = refl
stand_length (stands_too h n) = ap suc (stand_length n)

-- At each position stands the reference with its number.
pub stand_at : {b ks : List ℕ} {ls : List Layer} → AllStand b ks ls → (e : ℕ) → e < length ks → StandsAt b (get_or ks e 0) (get_or ls e no_layer)
stand_at none_stands e l = absurd (omega arith)
stand_at (stands_too h n) zero l = h
stand_at (stands_too h n) (suc e) l = stand_at n e (omega arith)

-- Some reference stands at each position.
pub some_stands : {b ks : List ℕ} {ls : List Layer} → AllStand b ks ls → (e : ℕ) → e < length ks → SomeReference b (get_or ks e 0)
some_stands {ls = ls} s e l = record { layer = get_or ls e no_layer; stands = stand_at s e l }

-- At given positions stand given references.
pub stand_same : {b ks : List ℕ} {ls ms : List Layer} → AllStand b ks ls → AllStand b ks ms → ls ≡ ms
stand_same none_stands none_stands = refl
stand_same (stands_too h n) (stands_too k m) = λ i. (sym h.is ∙ k.is) i ∷ stand_same n m i
