-- An answer packed into one number. Assumes nothing.
use Prim.Native.Nat.{ℕ}
use mathlib.Core.Path.{◌≡◌, ap, ap₂, ◌∙◌}
use Rattle.acon.specs.Packed.{packed}

-- What is packed of a number and two values is packed of those that they equal.
pub packed_same : {r n l s m k t : ℕ} → r ≡ packed n l s → n ≡ m → l ≡ k → s ≡ t → r ≡ packed m k t
packed_same {s = s} {m = m} {k = k} e p q u = e ∙ ap₂ (λ (x y : ℕ). packed x y s) p q ∙ ap (packed m k) u
