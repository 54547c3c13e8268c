-- The report is exactly right: it lists a pair of places exactly if no chain leads from the guard at the one to the other. Assumes nothing.
use Prim.Native.Nat.{ℕ, ◌*◌, ◌≤◌, ◌<◌}
use mathlib.Core.Path.{◌≡◌, refl, sym, ◌∙◌}
use mathlib.Core.Logic.{◌↔◌, ⊎_elim}
use mathlib.Core.Bool.{Bool, true, false, not, ◌&&◌}
use mathlib.Core.List.{List, Memᴰ as In}
use native.Mathlib.Omega.{arith}
use borrow.Author.Tests.{eqb-false, ne_eqb}
use lib.ListN.{length}
use Rattle.laws.proofs.Order.{by_test, false_true}
use Rattle.store_record.specs.Image.{Image}
use Rattle.store_record.specs.Ids.{id_twice}
use Rattle.store_record.specs.Store.{AllShaped}
use Rattle.policy_marks.specs.Marks.{mark, closed}
use Rattle.policy_marks.specs.Pairs.{Ordered, is_reported, pairs_in, pairs_of}
use Rattle.policy_marks.proofs.Closing.{closed_leads, leads_closed}
use Rattle.policy_pairs.proofs.Pairs.{pair_in, pairs_rising, reported_few}
use Rattle.policy.specs.Chain.{Guard, Chain, At}
use Rattle.policy_rows.specs.Accepting.{is_guard, guards, marks}
use Rattle.policy.specs.Pairs.{pairs}
use Rattle.policy.specs.Exact.{Unreached, Exact}
use Rattle.policy.proofs.Chains.{at_below, guard_at, guards_length, leads_chain, chain_leads}

all_three : (a b c : Bool) → (a && (not b && not c)) ≡ true → (a ≡ true) × (b ≡ false) × (c ≡ false)
all_three true false false e = (refl, refl, refl)
all_three true false true e = false_true e
all_three true true c e = false_true e
all_three false b c e = false_true e

module _ (xs : List Image) where
  -- The pairs are those of two places below the length that are reported.
  pub pair_listed : (g o : ℕ)
      → In (record { guard = g; other = o }) (pairs xs) ↔ ((g < length xs) × (o < length xs) × (is_reported (guards xs) (closed (marks xs)) g o ≡ true))
  unfolding pairs pairs_of pairs_in
  pair_listed g o = rw (← guards_length xs) (pair_in (is_reported (guards xs) (closed (marks xs))) (length (guards xs)) g o)

  -- The pairs stand by guard and then by other, each once.
  pub pairs_ordered : Ordered (pairs xs)
  unfolding pairs pairs_of pairs_in
  pairs_ordered = pairs_rising _ _

  -- Of at most 64 images there are at most 64 times 63 pairs.
  pub few_pairs : length xs ≤ 64 → length (pairs xs) ≤ 64 * 63
  unfolding pairs pairs_of pairs_in
  few_pairs h = reported_few (guards xs) (closed (marks xs)) (omega (arith, guards_length xs))

  module _ {g o : ℕ} {a b : Image} (h : At xs g a) (k : At xs o b) where
    -- what a reported pair says
    reported : is_reported (guards xs) (closed (marks xs)) g o ≡ true → Guard a × (g ≡ o → ⊥) × (mark (closed (marks xs)) g o ≡ false)
    unfolding is_reported is_guard
    reported e =
        let w = all_three _ _ _ e in (sym (guard_at h) ∙ w.0, eqb-false g o w.1, w.2)

    listed_by : Guard a → (g ≡ o → ⊥) → mark (closed (marks xs)) g o ≡ false → In (record { guard = g; other = o }) (pairs xs)
    unfolding is_reported is_guard
    listed_by c n m = (pair_listed g o).1 (at_below h, at_below k, rw (guard_at h, c, ne_eqb g o n, m))

    -- A guard whose pair with another image is not listed leads to that image by a chain.
    pub unlisted_reached : Guard a → (g ≡ o → ⊥) → (In (record { guard = g; other = o }) (pairs xs) → ⊥) → Chain xs a b
    unlisted_reached c n l =
        by_test (mark (closed (marks xs)) g o)
        (λ m. leads_chain xs (closed_leads (marks xs) g o m) h k)
        (λ m. absurd (l (listed_by c n m)))

    module _ (s : AllShaped xs) (d : id_twice xs ≡ false) where
      -- A pair is listed exactly if no chain leads from its guard to its other.
      pub listed_exactly : In (record { guard = g; other = o }) (pairs xs) ↔ Unreached xs g o a b
      listed_exactly = (from, to)
        where
          from : In (record { guard = g; other = o }) (pairs xs) → Unreached xs g o a b
          from m =
              let w = reported ((pair_listed g o).0 m).2 in
              record {
                guard = w.0;
                other = w.1;
                no_chain = λ c. ⊎_elim w.1 (λ l. false_true (sym w.2 ∙ leads_closed (marks xs) l)) (chain_leads xs s d c h k);
              }

          to : Unreached xs g o a b → In (record { guard = g; other = o }) (pairs xs)
          to u =
              by_test (mark (closed (marks xs)) g o)
              (λ m. absurd (u.no_chain (leads_chain xs (closed_leads (marks xs) g o m) h k)))
              (λ m. listed_by u.guard u.other m)

-- The report on at most 64 images with different IDs is exactly right.
pub exact : (xs : List Image) → AllShaped xs → id_twice xs ≡ false → length xs ≤ 64 → Exact xs
exact xs s d l =
    record {
      listed = λ g o a b h k. listed_exactly xs h k s d;
      places = λ p m. let w = (pair_listed xs p.guard p.other).0 m in (w.0, w.1);
      ordered = pairs_ordered xs;
      few = few_pairs xs l;
    }
