-- The members of an object by its tree.
use Prim.Native.Nat.{ℕ}
use mathlib.Core.Path.{◌≡◌, refl}
use mathlib.Core.List.{List, [], ◌∷◌}
use native.Mathlib.Omega.{arith}
use Rattle.text_json.specs.Syntax.{Member, members}

-- one tree, one list of members
pub members_same : (ms ns : List Member) → members ms ≡ members ns → ms ≡ ns
unfolding members
members_same [] [] e = refl
members_same [] (n ∷ ns) e = let z : ◌≡◌ {A = ℕ} 0 1 = cc in absurd (omega arith)
members_same (m ∷ ms) [] e = let z : ◌≡◌ {A = ℕ} 0 1 = cc in absurd (omega arith)
members_same (m ∷ ms) (n ∷ ns) e =
    let p : m.place ≡ n.place = cc in
    let k : m.key ≡ n.key = cc in
    let v : m.value ≡ n.value = cc in
    let r : members ms ≡ members ns = cc in
    λ i. record { place = p i; key = k i; value = v i } ∷ members_same ms ns r i
