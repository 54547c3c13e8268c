-- The positions of the references, image after image. Assumes nothing.
use Prim.Native.Nat.{ℕ, ◌+◌, ◌-◌, ◌*◌, ◌<◌, ◌≤◌}
use mathlib.Core.Path.{◌≡◌, refl, sym, subst, ◌∙◌}
use mathlib.Core.List.{List, ◌++◌}
use native.Mathlib.Omega.{arith}
use lib.Dec.{eqb}
use lib.ListN.{length, take, get_or, set, length-set}
use lib.Seq.{get_or-set_same, get_or-set_other}
use borrow.Author.Tests.{eqb-true, eqb-false}
use borrow.Rule.Slice.PartMut.{put_mid}
use Rattle.laws.proofs.Order.{by_test}
use Rattle.laws.proofs.Writing.{back_start, back_size}
use Rattle.reference.specs.References.{Layer}
use Rattle.manifest.specs.Names.{objects}
use Rattle.manifest_objects.specs.Objects.{AllStand, none_stands}
use Rattle.manifest_objects.proofs.Placing.{stand_append}
use Rattle.store_record.specs.Reading.{between, images_in, no_record}
use Rattle.store_record.specs.declared.Survey.{Survey}
use Rattle.lookup_paths.specs.Follow.{objects_of}
use Rattle.lookup_table.specs.Placed.{CountedTo}
use Rattle.manifest_objects.proofs.Standing.{stand_length}
use Rattle.lookup_table.proofs.Walking.{objects_next}

-- the part of a list past place n is lent, and another comes back
module _ (n : ℕ) (l part : List ℕ) (h : n ≤ length l) where
  -- References that stand at the places lent stand after those before them.
  pub stand_behind : {b : List ℕ} {xs ys : List Layer} (m : ℕ) → AllStand b (take n l) xs → AllStand b (take m part) ys
      → AllStand b (take (n + m) (put_mid n (length l - n) l part)) (xs ++ ys)
  stand_behind {b} {xs} {ys} m p q = subst (λ (ks : List ℕ). AllStand b ks (xs ++ ys)) (sym (back_start n l part h m)) (stand_append p q)

-- the objects of the first i images are placed, which are n
pub record PlacedTo (b : List ℕ) (v : Survey) (i n : ℕ) (before keys counts : List ℕ) : Type 0 where
  pub size : length keys ≡ length before
  pub few : n ≤ 64 * i
  pub counted : CountedTo i b v counts
  pub stand : AllStand b (take n keys) (objects_of (take i (images_in b v)))

module _ (b : List ℕ) (v : Survey) where
  -- At first there are none.
  pub placed_none : (keys counts : List ℕ) → length counts ≡ 64 → PlacedTo b v 0 0 keys keys counts
  unfolding objects_of
  placed_none keys counts h =
      record { size = refl; few = omega arith; counted = record { space = h; each = λ k l. absurd (omega arith) }; stand = none_stands }

  module _ (fits : v.count ≤ length v.records) (i n : ℕ) (before keys counts : List ℕ) (p : PlacedTo b v i n before keys counts) (h : i < v.count)
      (k : i < 64) (room : n ≤ length keys) (m : ℕ) (few : m ≤ 64) (part : List ℕ) (size : length part ≡ length keys - n)
      (stand : AllStand b (take m part) (objects (between b (get_or v.records i no_record).text (get_or v.records i no_record).end)))
      (w : length (take m part) ≡ m) where
    counted_next : CountedTo (i + 1) b v (set counts i m)
    counted_next =
        record {
          space = length-set counts i m ∙ p.counted.space;
          each = λ j l. by_test (eqb j i)
              (λ e. let q = eqb-true j i e in
              rw q (get_or-set_same counts i m 0 (omega (arith, p.counted.space)) ∙ sym w ∙ stand_length stand))
              (λ e. let q = eqb-false j i e in get_or-set_other counts i j m 0 q ∙ p.counted.each j (omega arith));
        }

    -- The objects of one more image are placed.
    pub placed_next : PlacedTo b v (i + 1) (n + m) before (put_mid n (length keys - n) keys part) (set counts i m)
    placed_next =
        record {
          size = back_size n keys part room size ∙ p.size;
          few = omega (arith, p.few);
          counted = counted_next;
          stand = subst (AllStand b (take (n + m) (put_mid n (length keys - n) keys part))) (sym (objects_next b v fits i h))
              (stand_behind n keys part room m p.stand stand);
        }
