-- Laws of clashing images. Assumes nothing.
use Prim.Native.Nat.{ℕ}
use mathlib.Core.Path.{◌≡◌, refl, sym, ap, ◌∙◌}
use mathlib.Core.List.{List, [], ◌∷◌, append-nil}
use mathlib.Core.Bool.{Bool, false, not, ◌&&◌, ◌||◌, or-false, and_assoc, and-or_distrib_left}
use lib.Dec.{eqb}
use Rattle.laws.specs.Order.{same}
use Rattle.laws.specs.Any.{any_of}
use Rattle.laws.proofs.Any.{any_and, any_permuted, any_swapped, any_map, any_pointwise}
use Rattle.laws.proofs.Order.{same_sym}
use Rattle.text.specs.Answer.{form}
use Rattle.text.specs.Question.{text_number}
use Rattle.reference_digests.specs.Algorithms.{byte_of}
use Rattle.reference_digests.specs.declared.algorithm.Algorithm.{Algorithm}
use Rattle.reference.specs.References.{image_id, layer_text}
use Rattle.manifest_heads.specs.Contents.{share_name}
use Rattle.manifest_heads.proofs.Any.{one_of_any}
use Rattle.manifest.specs.Manifest.{self_names, Alias, contents}
use Rattle.manifest.specs.Names.{differ, conflict}
use Rattle.manifest.proofs.Canonical.{form_self_names, form_contents}
use Rattle.store_record.specs.Image.{Image}
use Rattle.store_record.proofs.Sharing.{eqb_sym}
use Rattle.store_names.specs.Shared.{named}
use Rattle.store_names.proofs.Named.{named_sym}
use Rattle.store_keys.specs.Keys.{Key, LayerKey, keys_under, layer_keys_under, image_keys_of, layer_keys_of, image_keys, layer_keys}
use Rattle.store_keys.specs.Clash.{is_same_key, disagree, clash}
use Rattle.store_keys.specs.Signed.{one, signed_by, is_signed, shares_with, conflicts_with, names_clash, layers_clash}

share_named : (ns ms : List (List ℕ)) → share_name ms ns ≡ named ns ms
unfolding share_name
share_named ns ms =
    any_pointwise _ _ (λ m. one_of_any m ns) ms
    ∙ any_swapped (λ (m n : List ℕ). same m n) ms ns
    ∙ any_pointwise _ _ (λ n. any_pointwise _ _ (λ m. same_sym m n) ms) ns

differ_sym : (x y : Alias) → differ x y ≡ differ y x
unfolding differ
differ_sym x y = λ i. same_sym x.name y.name i && not (same_sym (layer_text x.object) (layer_text y.object) i)

-- One name for different objects stands in two lists, whichever is asked first.
pub conflict_sym : (xs ys : List Alias) → conflict xs ys ≡ conflict ys xs
unfolding conflict
conflict_sym xs ys = any_swapped differ xs ys ∙ any_pointwise _ _ (λ y. any_pointwise _ _ (λ x. differ_sym x y) xs) ys

-- the same signer under the same algorithm
abbrev signed : Algorithm → List ℕ → Algorithm → List ℕ → Bool
signed a s b u = eqb (byte_of a) (byte_of b) && same s u

module _ (a : Algorithm) (s m : List ℕ) (b : Algorithm) (u n : List ℕ) where
  -- the image keys of two images with one ID each
  names_clash_is :
      (ns ms : List (List ℕ))
      → any_of (λ (k : Key). any_of (is_same_key k) (image_keys_of (image_id b u n ∷ []) ms)) (image_keys_of (image_id a s m ∷ []) ns) ≡ (signed a s b u && named ns ms)
  unfolding image_keys_of keys_under is_same_key
  names_clash_is ns ms =
      rw (append-nil, append-nil)
      (any_map _ _ ns
      ∙ any_pointwise _ _ (λ x. any_map _ _ ms ∙ any_pointwise _ _ (λ y. sym (and_assoc (eqb (byte_of a) (byte_of b)) (same s u) (same x y))) ms
      ∙ any_and (signed a s b u) (same x) ms) ns
      ∙ any_and (signed a s b u) (λ (x : List ℕ). any_of (same x) ms) ns)

  -- and their layer keys
  layers_clash_is :
      (xs ys : List Alias)
      → any_of (λ (k : LayerKey). any_of (disagree k) (layer_keys_of (image_id b u n ∷ []) ys)) (layer_keys_of (image_id a s m ∷ []) xs)
      ≡ (signed a s b u && conflict xs ys)
  unfolding layer_keys_of layer_keys_under disagree is_same_key conflict differ
  layers_clash_is xs ys =
      rw (append-nil, append-nil)
      (any_map _ _ xs
      ∙ any_pointwise _ _ (λ x. any_map _ _ ys ∙ any_pointwise _ _ (λ y. regrouped x y) ys ∙ any_and (signed a s b u) (differ x) ys) xs
      ∙ any_and (signed a s b u) (λ (x : Alias). any_of (differ x) ys) xs)
    where
      regrouped :
          (x y : Alias)
          → ((eqb (byte_of a) (byte_of b) && (same s u && same x.name y.name)) && not (same (layer_text x.object) (layer_text y.object)))
          ≡ (signed a s b u && (same x.name y.name && not (same (layer_text x.object) (layer_text y.object))))
      regrouped x y =
          ap (λ (p : Bool). p && not (same (layer_text x.object) (layer_text y.object)))
          (sym (and_assoc (eqb (byte_of a) (byte_of b)) (same s u) (same x.name y.name)))
          ∙ and_assoc (signed a s b u) (same x.name y.name) (not (same (layer_text x.object) (layer_text y.object)))

  -- Two images of one ID each clash exactly if they have one signer under one algorithm, and share a name of their own or have one name of a layer
  -- for different objects.
  pub clash_ones :
      (t w : List ℕ)
      → clash (record { ids = image_id a s m ∷ []; text = t }) (record { ids = image_id b u n ∷ []; text = w })
      ≡ (signed a s b u && (named (self_names t) (self_names w) || conflict (contents t) (contents w)))
  unfolding clash image_keys layer_keys
  clash_ones t w =
      (λ i. names_clash_is (self_names t) (self_names w) i || layers_clash_is (contents t) (contents w) i)
      ∙ sym (and-or_distrib_left (signed a s b u) (named (self_names t) (self_names w)) (conflict (contents t) (contents w)))

  -- The order of two images makes no difference.
  pub clash_ones_sym :
      (t w : List ℕ)
      → clash (record { ids = image_id a s m ∷ []; text = t }) (record { ids = image_id b u n ∷ []; text = w })
      ≡ (signed b u a s && (named (self_names w) (self_names t) || conflict (contents w) (contents t)))
  clash_ones_sym t w =
      clash_ones t w
      ∙ (λ i. (eqb_sym (byte_of a) (byte_of b) i && same_sym s u i) && (named_sym (self_names t) (self_names w) i || conflict_sym (contents t) (contents w) i))

-- an image with one ID
pub data Single : Image → Type 0 where
  single : {a : Algorithm} {s m t : List ℕ} → Single (record { ids = image_id a s m ∷ []; text = t })

-- Clashing is asked in two steps: of the image's own names, and of those of its layers.
pub clash_split : (a : Algorithm) (s t : List ℕ) {y : Image} → Single y → clash (one a s t) y ≡ (shares_with a s t y || conflicts_with a s t y)
unfolding shares_with conflicts_with is_signed signed_by any_of
clash_split a s t (single {a = b} {s = u} {m = n} {t = w}) =
    clash_ones a s [] b u n t w
    ∙ and-or_distrib_left (signed a s b u) (named (self_names t) (self_names w)) (conflict (contents t) (contents w))
    ∙ (λ i. (its i && sym (share_named (self_names t) (self_names w)) i) || (its i && conflict_sym (contents t) (contents w) i))
  where
    its : signed a s b u ≡ (signed a s b u || false)
    its = sym (or-false (signed a s b u))

-- Two images with one ID each have an image key in common exactly if they have one signer under one algorithm, and share a name of their own.
pub names_ones :
    (a : Algorithm) (s m t : List ℕ) (b : Algorithm) (u n w : List ℕ)
    → names_clash (record { ids = image_id a s m ∷ []; text = t }) (record { ids = image_id b u n ∷ []; text = w })
    ≡ (signed a s b u && named (self_names t) (self_names w))
unfolding names_clash image_keys
names_ones a s m t b u n w = names_clash_is a s m b u n (self_names t) (self_names w)

-- An image with one ID has a layer key for another object exactly if the other is of its signer, and has an alias of a layer for another object.
pub layers_one : (a : Algorithm) (s m t : List ℕ) {y : Image} → Single y
    → layers_clash (record { ids = image_id a s m ∷ []; text = t }) y ≡ conflicts_with a s t y
unfolding layers_clash layer_keys conflicts_with is_signed signed_by any_of
layers_one a s m t (single {a = b} {s = u} {m = n} {t = w}) =
    layers_clash_is a s m b u n (contents t) (contents w) ∙ (λ i. sym (or-false (signed a s b u)) i && conflict_sym (contents t) (contents w) i)

-- A clash is one of image keys or one of layer keys.
pub clash_parts : (x y : Image) → clash x y ≡ (names_clash x y || layers_clash x y)
unfolding clash names_clash layers_clash
clash_parts x y = refl

-- Clashing goes both ways.
pub clash_sym : {x y : Image} → Single x → Single y → clash x y ≡ clash y x
clash_sym (single {a} {s} {m} {t}) (single {a = b} {s = u} {m = n} {t = w}) = clash_ones_sym a s m b u n t w ∙ sym (clash_ones b u n a s m w t)

-- An image whose manifest is a text's canonical form clashes with those that it would clash with by the text.
pub clash_form :
    (a : Algorithm) (s m t : List ℕ) {y : Image} → text_number t ≡ 0 → Single y
    → clash (record { ids = image_id a s m ∷ []; text = form t }) y ≡ clash (one a s t) y
unfolding conflict
clash_form a s m t e (single {a = b} {s = u} {m = n} {t = w}) =
    clash_ones a s m b u n (form t) w
    ∙ (λ i. signed a s b u && (any_permuted (λ (x : List ℕ). any_of (same x) (self_names w)) (form_self_names t e) i || permuted i))
    ∙ sym (clash_ones a s [] b u n t w)
  where
    permuted : conflict (contents (form t)) (contents w) ≡ conflict (contents t) (contents w)
    permuted = any_permuted (λ (x : Alias). any_of (differ x) (contents w)) (form_contents t e)
