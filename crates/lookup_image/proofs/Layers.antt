-- The layers of an image by its place, and how many bytes the list of their digests has. Assumes nothing.
use Prim.Native.Nat.{ℕ, zero, suc, ◌*◌, ◌≤◌, ◌<◌}
use mathlib.Core.Path.{◌≡◌, refl, sym, ap, subst, ◌∙◌}
use mathlib.Core.Bool.{false, not}
use mathlib.Core.List.{List, [], ◌∷◌, Memᴰ as In}
use native.Mathlib.Omega.{arith}
use lib.Dec.{eqb}
use lib.ListN.{length, get_or, length-append}
use borrow.Author.Tests.{eqb-true, not-false}
use Rattle.laws.specs.Any.{any_of}
use Rattle.laws.proofs.Any.{or_none}
use Rattle.text.specs.Answer.{is_canonical}
use Rattle.reference_digests.specs.Algorithms.{digest_bytes}
use Rattle.reference_digests.proofs.Digests.{digest_bounds}
use Rattle.manifest.specs.Manifest.{layers}
use Rattle.manifest.specs.Number.{manifest_text_number}
use Rattle.manifest.proofs.Limits.{layers_few}
use Rattle.store_record.specs.Image.{Image}
use Rattle.store_record.specs.Reading.{held_in, images_in, no_record}
use Rattle.store_record.specs.declared.Survey.{Survey}
use Rattle.store_record.proofs.Walks.{images_length, image_at}
use Rattle.store_open.specs.Held.{is_unfit}
use Rattle.lookup_layers.specs.Layers.{LayerDigest, entry_of, list_of, AllSized, none_sized, sized}
use Rattle.lookup_image.specs.Layers.{layers_at}

-- The layers at a place are those of the image there.
pub layers_at_is : (room : List Image) (i : ℕ) (d : Image) → i < length room → layers_at room i ≡ layers (get_or room i d).text
unfolding layers_at
layers_at_is [] i d h = absurd (omega arith)
layers_at_is (x ∷ xs) zero d h = refl
layers_at_is (x ∷ xs) (suc i) d h = layers_at_is xs i d (omega arith)

-- The layers at a place of a store's images are those of the record there.
pub image_layers : (b : List ℕ) (v : Survey) → v.count ≤ length v.records → (i : ℕ) → i < v.count
    → layers_at (images_in b v) i ≡ layers (held_in b (get_or v.records i no_record)).text
image_layers b v fits i h =
    layers_at_is (images_in b v) i (held_in b no_record) (omega (arith, images_length b v fits))
    ∙ ap (λ (x : Image). layers x.text) (image_at b v fits i h)

fit_number : (x : Image) → is_unfit x ≡ false → manifest_text_number x.text ≡ 0
unfolding is_unfit
fit_number x e =
    let good = eqb (manifest_text_number x.text) 0 in
    eqb-true (manifest_text_number x.text) 0 (not-false good (or_none (not (is_canonical x.text)) (not good) e).1)

-- An image that is fit for a store has at most 64 layers.
pub layers_at_few : (room : List Image) (i : ℕ) → any_of is_unfit room ≡ false → length (layers_at room i) ≤ 64
unfolding layers_at any_of
layers_at_few [] i e = omega arith
layers_at_few (x ∷ xs) zero e = layers_few x.text (fit_number x (or_none (is_unfit x) (any_of is_unfit xs) e).0)
layers_at_few (x ∷ xs) (suc i) e = layers_at_few xs i (or_none (is_unfit x) (any_of is_unfit xs) e).1

in_sized : {d : LayerDigest} {ds : List LayerDigest} → AllSized ds → In d ds → length d.bytes ≡ digest_bytes d.algorithm
in_sized {d} (sized e h) (In.head q) = subst (λ (x : LayerDigest). length x.bytes ≡ digest_bytes x.algorithm) (sym q) e
in_sized none_sized x3 = elim x3 [ ]
in_sized (sized e h) (In.tail m) = in_sized h m

-- Layers of a list whose digests have the lengths of their algorithms have digests of such lengths.
pub all_sized : {present : List LayerDigest} → AllSized present → (ds : List LayerDigest) → ((d : LayerDigest) → In d ds → In d present) → AllSized ds
all_sized h [] f = none_sized
all_sized h (d ∷ ds) f = sized (in_sized h (f d (In.head refl))) (all_sized h ds (λ x m. f x (In.tail m)))

-- An entry has 49 bytes at most.
pub list_short : {ds : List LayerDigest} → AllSized ds → length (list_of ds) ≤ 49 * length ds
unfolding list_of entry_of
list_short none_sized = omega arith
list_short (sized {d = d} {ds = ds} e h) =
    omega (arith, length-append d.bytes (list_of ds), digest_bounds d.algorithm, list_short h)
