-- Names that two lists have in common. Assumes nothing.
use Prim.Native.Nat.{ℕ}
use mathlib.Core.Path.{◌≡◌, ◌∙◌}
use mathlib.Core.List.{List}
use Rattle.laws.specs.Order.{same}
use Rattle.laws.proofs.Any.{any_pointwise, any_swapped}
use Rattle.laws.proofs.Order.{same_sym}
use Rattle.store_names.specs.Shared.{named}

-- Which of the lists is the first makes no difference.
pub named_sym : (ns ms : List (List ℕ)) → named ns ms ≡ named ms ns
named_sym ns ms = any_swapped (λ (n m : List ℕ). same n m) ns ms ∙ any_pointwise _ _ (λ m. any_pointwise _ _ (λ n. same_sym n m) ns) ms
