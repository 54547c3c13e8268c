-- What does not depend on the order of the images: which pairs are listed, by the images at their places, and what a sound store asks of
-- its images. Assumes nothing.
use Prim.Native.Nat.{ℕ}
use mathlib.Core.Path.{◌≡◌, refl, sym, ap, subst, ◌∙◌}
use mathlib.Core.Logic.{◌↔◌}
use mathlib.Core.Bool.{false, ◌||◌}
use mathlib.Core.List.Permᴰ
use mathlib.Core.List.{List, ◌++◌, Memᴰ as In, Permᴰ as Permutation}
use native.Mathlib.Omega.{arith}
use lib.Dec.{ltb}
use lib.ListN.{length, length-append}
use Rattle.laws.proofs.Any.{any_permuted}
use Rattle.laws.proofs.Pairs.{pair_permuted}
use Rattle.laws.proofs.Permutations.{length_permuted, same_elements}
use Rattle.store_record.specs.Image.{Image}
use Rattle.store_record.specs.Ids.{share_id, id_twice}
use Rattle.store_record.specs.Record.{record_of, Shaped}
use Rattle.store_record.specs.Store.{most_images, store_of, AllShaped, none_shaped, shaped}
use Rattle.store_record.proofs.Sharing.{share_id_sym}
use Rattle.store_keys.specs.Clash.{clash, any_clash}
use Rattle.store_conflict.proofs.Clashing.{clash_sym}
use Rattle.store_open.specs.Held.{is_unfit, too_many, are_unsound}
use Rattle.store_open.proofs.Holding.{shaped_single}
use Rattle.policy.specs.Chain.{Chain, alone, onward, At}
use Rattle.policy.specs.Pairs.{pairs}
use Rattle.policy.proofs.Chains.{at_in, in_at, at_one, distinct}
use Rattle.policy.proofs.Exact.{listed_exactly}

-- Images in another order are as a record holds them, if the images are.
pub shaped_permuted : {xs ys : List Image} → Permutation xs ys → AllShaped xs → AllShaped ys
shaped_permuted Permutation.nil h = h
shaped_permuted (Permutation.cons e q) (shaped s t) = shaped (subst Shaped e s) (shaped_permuted q t)
shaped_permuted (Permutation.swap e f) (shaped s (shaped t u)) = shaped (subst Shaped f t) (shaped (subst Shaped e s) u)
shaped_permuted (Permutation.trans q r) h = shaped_permuted r (shaped_permuted q h)

-- Images in another order have an ID twice exactly if the images have.
pub id_twice_permuted : {xs ys : List Image} → Permutation xs ys → id_twice xs ≡ id_twice ys
unfolding id_twice
id_twice_permuted q = pair_permuted share_id (λ x y m n. share_id_sym x y) q

-- What stands among images as a record holds them is such an image.
pub in_shaped : {xs : List Image} {x : Image} → AllShaped xs → In x xs → Shaped x
in_shaped (shaped s t) (In.head e) = subst Shaped (sym e) s
in_shaped none_shaped x6 = elim x6 [ ]
in_shaped (shaped s t) (In.tail m) = in_shaped t m

-- Images in another order clash exactly if the images do.
pub clash_permuted : {xs ys : List Image} → AllShaped xs → Permutation xs ys → any_clash xs ≡ any_clash ys
unfolding any_clash
clash_permuted h q = pair_permuted clash (λ x y m n. clash_sym (shaped_single (in_shaped h m)) (shaped_single (in_shaped h n))) q

-- The store of images in another order is as long.
pub store_permuted : {xs ys : List Image} → Permutation xs ys → length (store_of xs) ≡ length (store_of ys)
unfolding store_of
store_permuted Permutation.nil = refl
store_permuted (Permutation.cons {a = a} {b = b} {l₁ = xs} {l₂ = ys} e q) =
    let l = store_permuted q in
    omega (arith, length-append (record_of a) (store_of xs), length-append (record_of b) (store_of ys), ap (λ (x : Image). length (record_of x)) e)
store_permuted (Permutation.swap {a = a} {b = b} {a' = c} {b' = d} {l = xs} e f) =
    omega (
      arith,
      length-append (record_of a) (record_of b ++ store_of xs),
      length-append (record_of b) (store_of xs),
      length-append (record_of c) (record_of d ++ store_of xs),
      length-append (record_of d) (store_of xs),
      ap (λ (x : Image). length (record_of x)) e,
      ap (λ (x : Image). length (record_of x)) f,
    )
store_permuted (Permutation.trans q r) = store_permuted q ∙ store_permuted r

-- Images in another order make a sound store exactly if the images do.
pub unsound_permuted : (size : ℕ) {xs ys : List Image} → AllShaped xs → Permutation xs ys → are_unsound size xs ≡ are_unsound size ys
unfolding are_unsound too_many
unsound_permuted size h q =
    λ i. (ltb most_images (length_permuted q i) || ltb size (store_permuted q i))
    || (any_permuted is_unfit q i || (id_twice_permuted q i || clash_permuted h q i))

-- A chain of images is one of the images in another order.
pub chain_permuted : {xs ys : List Image} → Permutation xs ys → {a b : Image} → Chain xs a b → Chain ys a b
chain_permuted q (alone a m) = alone a ((same_elements a q).0 m)
chain_permuted q (onward a b c m e l) = onward a b c ((same_elements a q).0 m) e (chain_permuted q l)

-- two images at the places of a listed pair
pub record PairOf (xs : List Image) (a b : Image) : Type 0 where
  pub guard : ℕ
  pub other : ℕ
  pub guard_at : At xs guard a
  pub other_at : At xs other b
  pub listed : In (record { guard = guard; other = other }) (pairs xs)

carried : {xs ys : List Image} {a b : Image} → Permutation xs ys → AllShaped xs → id_twice xs ≡ false → PairOf xs a b → PairOf ys a b
carried {xs} {ys} {a} {b} q s d p =
    let u = (listed_exactly xs p.guard_at p.other_at s d).0 p.listed in
    let g = in_at ((same_elements a q).0 (at_in p.guard_at)) in
    let o = in_at ((same_elements b q).0 (at_in p.other_at)) in
    let one_image : g.0 ≡ o.0 → a ≡ b = λ e. at_one g.1 (subst (λ (k : ℕ). At ys k b) (sym e) o.1) in
    record {
      guard = g.0;
      other = o.0;
      guard_at = g.1;
      other_at = o.1;
      listed = (listed_exactly ys g.1 o.1 (shaped_permuted q s) (sym (id_twice_permuted q) ∙ d)).1 (record {
        guard = u.guard;
        other = λ e. u.other (distinct s d p.guard_at (subst (At xs p.other) (sym (one_image e)) p.other_at));
        no_chain = λ c. u.no_chain (chain_permuted (Permᴰ.symm q) c);
      });
    }

-- The report on images in another order lists the same pairs of images.
pub pairs_permuted : {xs ys : List Image} {a b : Image} → Permutation xs ys → AllShaped xs → id_twice xs ≡ false → PairOf xs a b ↔ PairOf ys a b
pairs_permuted q s d =
    (carried q s d, carried (Permᴰ.symm q) (shaped_permuted q s) (sym (id_twice_permuted q) ∙ d))
