-- The heads of sorted names, as they are filled in and as they are compared. Assumes nothing.
use Prim.Native.Nat.{ℕ, ◌+◌, ◌<◌}
use mathlib.Core.Path.{◌≡◌, sym, subst, ◌∙◌}
use mathlib.Core.List.{List}
use native.Mathlib.Omega.{arith}
use borrow.Author.Tests.{eqb-true, eqb-false}
use lib.Dec.{eqb}
use lib.ListN.{length, get_or, set}
use lib.Seq.{get_or-set_same, get_or-set_other}
use Rattle.laws.proofs.Order.{by_test}
use Rattle.text_names.specs.Head.{head_of}
use Rattle.text_strings.specs.InString.{Inside, content_from}
use Rattle.text_keys.proofs.Keys.{keys_get}
use Rattle.manifest_heads.specs.Placed.{SomeNames}
use Rattle.manifest_repeat.proofs.Sorting.{sorted_keys}

-- The position after that of each sorted name stands in a string.
pub name_inside : {s ks : List ℕ} → SomeNames s ks → (i : ℕ) → i < length ks → Inside s (get_or ks i 0 + 1)
name_inside n i l = keys_get (sorted_keys n.sorted) i l

-- the heads of the first n names are there
abbrev pub FirstHeads : (s ks heads : List ℕ) (n : ℕ) → Type 0
FirstHeads s ks heads n = (i : ℕ) → i < n → get_or heads i 0 ≡ head_of (content_from s (get_or ks i 0 + 1))

-- If the heads of the first `n` names are there and that of the next one is written at index `n`, one more is there.
pub one_more : (s ks heads : List ℕ) (n h : ℕ) → n < length heads → h ≡ head_of (content_from s (get_or ks n 0 + 1))
    → FirstHeads s ks heads n → FirstHeads s ks (set heads n h) (n + 1)
one_more s ks heads n h l e f i k = by_test (eqb i n) (λ z. here (eqb-true i n z)) (λ z. before_it (eqb-false i n z))
  where
    here : i ≡ n → get_or (set heads n h) i 0 ≡ head_of (content_from s (get_or ks i 0 + 1))
    here z = subst (λ (j : ℕ). get_or (set heads n h) j 0 ≡ head_of (content_from s (get_or ks j 0 + 1))) (sym z) (get_or-set_same heads n h 0 l ∙ e)

    before_it : (i ≡ n → ⊥) → get_or (set heads n h) i 0 ≡ head_of (content_from s (get_or ks i 0 + 1))
    before_it z = get_or-set_other heads n i h 0 z ∙ f i (omega arith)
