-- Having an ID in common goes both ways. Assumes nothing.
use Prim.Native.Nat.{ℕ}
use mathlib.Core.Path.{◌≡◌, refl, sym, ◌∙◌}
use mathlib.Core.Bool.{◌&&◌}
use borrow.Author.Tests.{eqb-true, eqb-false, ne_eqb}
use lib.Dec.{eqb}
use Rattle.laws.proofs.Any.{any_swapped, any_pointwise}
use Rattle.laws.proofs.Order.{by_test, same_sym}
use Rattle.reference_digests.specs.Algorithms.{byte_of}
use Rattle.reference.specs.References.{Id, image_id, no_id}
use Rattle.store_record.specs.Image.{Image}
use Rattle.store_record.specs.Ids.{same_id, has_id, share_id}

-- Equality of two numbers goes both ways.
pub eqb_sym : (m n : ℕ) → eqb m n ≡ eqb n m
eqb_sym m n = by_test (eqb m n) (λ e. rw (eqb-true m n e)) (λ e. e ∙ sym (ne_eqb n m (λ f. eqb-false m n e (sym f))))

same_id_sym : (i j : Id) → same_id i j ≡ same_id j i
unfolding same_id
same_id_sym no_id no_id = refl
same_id_sym no_id (image_id b t n) = refl
same_id_sym (image_id a s m) no_id = refl
same_id_sym (image_id a s m) (image_id b t n) = λ k. eqb_sym (byte_of a) (byte_of b) k && (same_sym s t k && same_sym m n k)

-- Two images have an ID in common, whichever is asked first.
pub share_id_sym : (x y : Image) → share_id x y ≡ share_id y x
unfolding share_id has_id
share_id_sym x y =
    any_swapped same_id x.ids y.ids ∙ any_pointwise _ _ (λ j. any_pointwise _ _ (λ i. same_id_sym i j) x.ids) y.ids
