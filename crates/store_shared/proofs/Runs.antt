-- Equal names stand side by side in an index: where those begin that have the name at a place, and which images they are of.
use Prim.Native.Nat.{ℕ, ◌+◌, ◌-◌, ◌≤◌, ◌<◌}
use mathlib.Core.Path.{◌≡◌, refl, sym, ap, ap₂, subst, ◌∙◌}
use mathlib.Core.Bool.{Bool, true, false, ◌&&◌, ◌||◌, and-true, and-false}
use mathlib.Core.List.{List}
use native.Mathlib.Omega.{arith}
use lib.Dec.{eqb}
use lib.ListN.{length, take, drop, get_or, length-drop}
use lib.Seq.{length-take-le, take-add, take_all, get_or-take, get_or-drop}
use borrow.Author.Tests.{eqb-true, eqb-false}
use Rattle.laws.specs.Any.{any_of, any_pair}
use Rattle.laws.specs.Order.{leq, same}
use Rattle.laws.proofs.Any.{any_both, any_pointwise}
use Rattle.laws.proofs.Order.{by_test, false_true, leq_antisym, same_refl, same_eq, same_sym}
use Rattle.manifest_index.specs.Index.{name_at, NameIndex}
use Rattle.manifest_index.proofs.Indexing.{index_rising}
use Rattle.store_record.proofs.Sharing.{eqb_sym}
use Rattle.store_names.specs.Shared.{group_of, shared, Run, RunBefore}
use Rattle.laws.proofs.Pairs.{any_places, none_places, pair_last, pair_part}

module _ (b at order : List ℕ) where
  -- the name at a place
  abbrev name : ℕ → List ℕ
  name i = name_at b at (get_or order i 0)

  -- Before the first place there is none.
  pub run_first : (m : ℕ) → m ≡ 0 → Run b at order 0 m
  run_first m e = record { within = omega arith; other = λ i h. absurd (omega arith); equal = λ i l h. absurd (omega arith) }

  -- Where the name before is the same, the same places have it.
  pub run_same : (start m : ℕ) → 0 < m → RunBefore b at order start m → same (name (m - 1)) (name m) ≡ true → Run b at order start m
  run_same start m h before e =
      record {
        within = omega (arith, r.within);
        other = λ i l. ap (λ (n : List ℕ). same n (name i)) (sym (same_eq _ _ e)) ∙ r.other i l;
        equal = λ i l k. ap (λ (n : List ℕ). same n (name i)) (sym (same_eq _ _ e))
            ∙ by_test (eqb i (m - 1)) (λ f. ap (λ (j : ℕ). same (name (m - 1)) (name j)) (eqb-true i (m - 1) f) ∙ same_refl (name (m - 1)))
            (λ f. r.equal i l (omega (arith, eqb-false i (m - 1) f)));
      }
    where
      r : Run b at order start (m - 1)
      r = before (m - 1) (omega arith)

  -- Where it is another, no earlier place has the name.
  pub run_new : {es : List ℕ} → NameIndex b at es order → (m : ℕ) → 0 < m → m < length order → same (name (m - 1)) (name m) ≡ false → Run b at order m m
  run_new x m h l e =
      record {
        within = omega arith;
        other = λ i k. by_test (same (name m) (name i)) (λ f. false_true (sym e ∙ contrary i k (same_eq _ _ f))) (λ f. f);
        equal = λ i k n. absurd (omega arith);
      }
    where
      contrary : (i : ℕ) → i < m → name m ≡ name i → same (name (m - 1)) (name m) ≡ true
      contrary i k f =
          let above : leq (name m) (name (m - 1)) ≡ true = ap (λ (n : List ℕ). leq n (name (m - 1))) f ∙ index_rising x i (m - 1) (omega arith) (omega arith) in
          ap (λ (n : List ℕ). same n (name m)) (leq_antisym _ _ (index_rising x (m - 1) m (omega arith) l) above) ∙ same_refl (name m)

  -- Where the names of a place begin is known for the next place.
  pub run_before : (start m : ℕ) → Run b at order start m → RunBefore b at order start (m + 1)
  run_before start m r n e = let f : m ≡ n = omega arith in subst (λ (k : ℕ). Run b at order start k) f r

  module _ (groups : List ℕ) where
    -- the group of the image whose alias stands at place m is that of the alias e
    abbrev beside : ℕ → ℕ → Bool
    beside m e = eqb (group_of groups (get_or order m 0)) (group_of groups e)

    -- Whether two numbers are shared does not depend on their order.
    pub shared_sym : (e f : ℕ) → shared b at groups e f ≡ shared b at groups f e
    unfolding shared
    shared_sym e f = λ i. eqb_sym (group_of groups e) (group_of groups f) i && same_sym (name_at b at e) (name_at b at f) i

    -- it is shared with it
    abbrev sharing : ℕ → ℕ → Bool
    sharing m = shared b at groups (get_or order m 0)

    -- An earlier alias is shared with that at place m exactly if it stands where the names are the same and is of its group.
    run_any : (start m : ℕ) → m < length order → Run b at order start m
        → any_of (shared b at groups (get_or order m 0)) (take m order) ≡ any_of (beside m) (take (m - start) (drop start order))
    unfolding shared
    run_any start m h r =
        ap (λ (n : ℕ). any_of (sharing m) (take n order)) parts ∙ ap (any_of (sharing m)) (take-add start (m - start) order)
        ∙ any_both (sharing m) (take start order) (take (m - start) (drop start order))
        ∙ ap₂ (λ (x y : Bool). x || y)
        (none_places (sharing m) (take start order) (λ i l.
        let k : i < start = omega (arith, length-take-le start order (omega (arith, r.within))) in
        ap (sharing m) (get_or-take start order i 0 k) ∙ ap (λ (x : Bool). beside m (get_or order i 0) && x) (r.other i k)
        ∙ and-false (beside m (get_or order i 0))))
        (any_places (sharing m) (beside m) (take (m - start) (drop start order)) (λ i l.
        let k : i < m - start = omega (arith, length-take-le (m - start) (drop start order) (omega (arith, length-drop start order, r.within))) in
        let g : get_or (take (m - start) (drop start order)) i 0 ≡ get_or order (start + i) 0 = get_or-take (m - start) (drop start order) i 0 k
        ∙ get_or-drop start order i 0 in
        ap (sharing m) g ∙ ap (λ (x : Bool). beside m (get_or order (start + i) 0) && x) (r.equal (start + i) (omega arith) (omega arith))
        ∙ and-true (beside m (get_or order (start + i) 0))
        ∙ ap (beside m) (sym g)))
      where
        parts : m ≡ start + (m - start)
        parts = omega (arith, r.within)

    -- of the first m places no two share a name, and `start` is where the names of the last begin
    pub record NoneTo (start m : ℕ) : Type 0 where
      pub within : m ≤ length order
      pub last : RunBefore b at order start m
      pub none : any_pair (shared b at groups) (take m order) ≡ false

    -- Of the first 0 places no two share a name.
    pub none_first : NoneTo 0 0
    unfolding any_pair
    none_first = record { within = omega arith; last = λ n e. absurd (omega arith); none = refl }

    module _ (before start m : ℕ) (s : NoneTo before m) (h : m < length order) (r : Run b at order start m) where
      next : any_pair (shared b at groups) (take (m + 1) order) ≡ any_of (beside m) (take (m - start) (drop start order))
      next =
          pair_last (shared b at groups) order m 0 h ∙ ap (λ (x : Bool). x || any_of (λ (e : ℕ). shared b at groups e (get_or order m 0)) (take m order)) s.none
          ∙ any_pointwise _ _ (λ e. shared_sym e (get_or order m 0)) (take m order) ∙ run_any start m h r

      -- Two are found.
      pub some_shared : any_of (beside m) (take (m - start) (drop start order)) ≡ true → any_pair (shared b at groups) order ≡ true
      some_shared e = pair_part (shared b at groups) order (m + 1) (next ∙ e)

      -- The next place shares its name with none before it.
      pub none_next : any_of (beside m) (take (m - start) (drop start order)) ≡ false → NoneTo start (m + 1)
      none_next e = record { within = omega arith; last = run_before start m r; none = next ∙ e }

    -- No two of all places share a name.
    pub none_shared : (start m : ℕ) → length order ≤ m → NoneTo start m → any_pair (shared b at groups) order ≡ false
    none_shared start m h s = ap (any_pair (shared b at groups)) (sym (take_all m order h)) ∙ s.none
