-- The aliases of one image, linked one after the other to its objects. Assumes nothing.
use Prim.Native.Nat.{ℕ, zero, suc, ◌+◌, ◌<◌, ◌≤◌}
use mathlib.Core.Path.{◌≡◌, refl, sym, ap, subst, ◌∙◌}
use mathlib.Core.List.{List, [], ◌∷◌, ◌++◌, append_assoc, append-nil}
use native.Mathlib.Omega.{arith}
use native.Mathlib.Numerals.{add-one}
use lib.ListN.{length, take, get_or, length-map, get_or-map}
use lib.Seq.{take-suc, take-length, length-take-le, get_or-take}
use Rattle.reference_digests.specs.declared.algorithm.Algorithm.{Algorithm}
use Rattle.reference.specs.References.{Layer, no_layer, image_id}
use Rattle.manifest.specs.Manifest.{Alias, contents}
use Rattle.manifest.specs.Names.{objects}
use Rattle.manifest_objects.specs.Objects.{AliasAt, Listed, none_listed, listed_too}
use Rattle.store_record.specs.Reading.{between, held_in}
use Rattle.store_record.specs.declared.Record.{Record}
use Rattle.store_keys.specs.Keys.{LayerKey, layer_keys_under, layer_keys_of, layer_keys}
use Rattle.lookup_links.specs.Links.{Links}
use Rattle.lookup_table.specs.Linking.{layer_key, ObjectsFrom}

-- no alias
abbrev pub no_alias : Alias
no_alias = record { name = []; object = no_layer }

-- There are as many positions and numbers as aliases.
pub listed_length : {s ks os : List ℕ} {xs : List Alias} → Listed s ks os xs → length ks ≡ length xs
listed_length none_listed = refl
listed_length (listed_too a n) = ap suc (listed_length n)

listed_at : {s ks os : List ℕ} {xs : List Alias} → Listed s ks os xs → (i : ℕ) → i < length ks → AliasAt s (get_or ks i 0) (get_or os i 0) (get_or xs i no_alias)
listed_at none_listed i h = absurd (omega arith)
listed_at (listed_too a n) zero h = a
listed_at (listed_too a n) (suc i) h = listed_at n i (omega arith)

-- the keys that the aliases of a manifest make up under an algorithm and a signer
unfoldable pub keys_under : Algorithm → List ℕ → List ℕ → List LayerKey
keys_under a s text = layer_keys_under (image_id a s []) (contents text)

-- They are those of the image.
pub keys_held : (b : List ℕ) (r : Record) → keys_under r.algorithm (between b r.signer r.manifest) (between b r.text r.end)
    ≡ layer_keys (held_in b r)
unfolding keys_under layer_keys layer_keys_of layer_keys_under held_in
keys_held b r = sym (append-nil _)

-- aliases that were listed at the first n places
module _ (s names owners : List ℕ) (n : ℕ) (fits : n ≤ length names) (x : Listed s (take n names) (take n owners) (contents s)) where
  size : length (take n names) ≡ n
  size = length-take-le n names fits

  -- The list has all of them.
  pub aliases_count : n ≡ length (contents s)
  aliases_count = sym size ∙ listed_length x

  module _ (k : ℕ) (h : k < n) where
    -- the alias with number k
    abbrev pub alias_at : Alias
    alias_at = get_or (contents s) k no_alias

    -- At each place stands an alias, with the number of its object.
    pub alias_here : AliasAt s (get_or names k 0) (get_or owners k 0) alias_at
    alias_here =
        subst (λ (p : ℕ). AliasAt s p (get_or owners k 0) alias_at) (get_or-take n names k 0 h)
        (subst (λ (o : ℕ). AliasAt s (get_or (take n names) k 0) o alias_at) (get_or-take n owners k 0 h) (listed_at x k (omega (arith, size))))

  -- the keys of the image are linked one after the other
  module _ (a : Algorithm) (signer : List ℕ) (refs : List Layer) (first : ℕ) (o : ObjectsFrom refs first (objects s)) (ks : List LayerKey) where
    keys_size : length (keys_under a signer s) ≡ n
    unfolding keys_under layer_keys_under
    keys_size = length-map (contents s) _ ∙ sym aliases_count

    key_here : (k : ℕ) → k < n → get_or (keys_under a signer s) k (layer_key a signer [] no_layer)
        ≡ layer_key a signer (get_or (contents s) k no_alias).name (get_or refs (first + get_or owners k 0) no_layer)
    unfolding keys_under layer_keys_under
    key_here k h =
        let i = alias_here k h in
        get_or-map (λ (y : Alias). layer_key a signer y.name y.object) (contents s) k no_alias
        ∙ ap (λ (l : Layer). layer_key a signer (get_or (contents s) k no_alias).name l) (sym i.object ∙ sym (o.each (get_or owners k 0) i.within))

    -- At first none is linked,
    pub keys_none : (next : List ℕ) → Links ks refs next → Links (ks ++ take 0 (keys_under a signer s)) refs next
    keys_none next p = subst (λ (l : List LayerKey). Links l refs next) (sym (append-nil ks)) p

    -- then one more,
    pub keys_next : (k : ℕ) (h : k < n) (next after : List ℕ) → Links (ks ++ take k (keys_under a signer s)) refs next
        → ((l : List LayerKey) → Links l refs next
        → Links (l ++ (layer_key a signer (get_or (contents s) k no_alias).name (get_or refs (first + get_or owners k 0) no_layer) ∷ [])) refs after)
        → Links (ks ++ take (k + 1) (keys_under a signer s)) refs after
    keys_next k h next after p f =
        subst (λ (l : List LayerKey). Links l refs after) (append_assoc ks (take k (keys_under a signer s)) _
        ∙ ap (λ (l : List LayerKey). ks ++ l) (sym grown)) (f _ p)
      where
        grown : take (k + 1) (keys_under a signer s)
            ≡ take k (keys_under a signer s) ++ (layer_key a signer (get_or (contents s) k no_alias).name (get_or refs (first + get_or owners k 0) no_layer) ∷ [])
        grown =
            ap (λ (m : ℕ). take m (keys_under a signer s)) (add-one k)
            ∙ take-suc (keys_under a signer s) k (layer_key a signer [] no_layer) (omega (arith, keys_size))
            ∙ ap (λ (l : LayerKey). take k (keys_under a signer s) ++ (l ∷ [])) (key_here k h)

    -- and at last all.
    pub keys_all : (k : ℕ) → k ≡ n → (next : List ℕ) → Links (ks ++ take k (keys_under a signer s)) refs next → Links (ks ++ keys_under a signer s) refs next
    keys_all k e next p =
        subst (λ (l : List LayerKey). Links (ks ++ l) refs next) (ap (λ (m : ℕ). take m (keys_under a signer s)) (e ∙ sym keys_size)
        ∙ take-length (keys_under a signer s)) p
