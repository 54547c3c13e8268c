use Prim.Native.Nat.{ℕ, ◌-◌}
use mathlib.Core.List.{List}
use mathlib.Core.Bool.{Bool}
use lib.ListN.{length}
use Rattle.text_strings.specs.InString.{content_from}
use Rattle.manifest_names.specs.Asked.{Against, passes}
use Rattle.manifest_names.specs.declared.asked.Asked.{Asked}
use Rattle.manifest_names.proofs.Walking.{InTexts}
use Rattle.manifest_names.proofs.asked.any_listed.Given as goal

-- what is asked of a string as a name under the key k
abbrev test : (a : Asked) (s keys ks k : List ℕ) → Against a s keys ks → List ℕ → Bool
test a s keys ks k i n = passes a s keys ks i (record { name = n; key = k })

-- one of the strings that are left passes where one of the array's does
abbrev pub invariant-loop-p : goal.invariant-loop-p
invariant-loop-p l = InTexts (test l.asked l.s l.keys l.names (content_from l.t l.k)) l.t l.at l.depth l.left

abbrev pub decreases-loop-p : goal.decreases-loop-p
decreases-loop-p l = length l.t - l.left.at
