-- References to layers at the positions that are written of their strings. Assumes nothing.
use Prim.Native.Nat.{ℕ, ◌+◌}
use mathlib.Core.Path.{◌≡◌, refl, ap, subst}
use mathlib.Core.List.{List, ◌∷◌, ◌++◌, map}
use native.Mathlib.Omega.{arith}
use lib.ListN.{take, drop}
use Rattle.text_content.specs.Value.{Fields, no_fields, field}
use Rattle.text_strings.specs.InString.{InString}
use Rattle.text_strings.proofs.Contents.{content_from_is}
use Rattle.text_index.proofs.Parts.{in_part}
use Rattle.reference.specs.References.{Layer, layer}
use Rattle.manifest_repeat.specs.Names.{NamesAt, no_names, name_at}
use Rattle.manifest_strings.specs.Strings.{keys, Placed}
use Rattle.manifest.specs.Names.{keys_of}
use Rattle.manifest_objects.specs.Objects.{AllStand, none_stands, stands_too}

-- References that stand after others stand with them.
pub stand_append : {b ks ls : List ℕ} {xs ys : List Layer} → AllStand b ks xs → AllStand b ls ys → AllStand b (ks ++ ls) (xs ++ ys)
stand_append none_stands m = m
stand_append (stands_too h n) m = stands_too h (stand_append n m)

-- The keys of an object are read as references.
pub keys_layers : (fs : Fields) → map layer (keys fs) ≡ keys_of fs
unfolding keys keys_of
keys_layers no_fields = refl
keys_layers (field k v fs) = ap (λ (ls : List Layer). layer k ∷ ls) (keys_layers fs)

module _ (b : List ℕ) (start m : ℕ) where
  -- the strings of a part of some bytes stand there as references behind their quotation marks
  named_stand : {ks : List ℕ} {cs : List (List ℕ)} → NamesAt (take m (drop start b)) ks cs → AllStand b (map (λ (k : ℕ). start + k + 1) ks) (map layer cs)
  named_stand no_names = none_stands
  named_stand (name_at {k} {c = c} p n) =
      let e : start + (k + 1) ≡ start + k + 1 = omega arith in
      let i = subst (λ (j : ℕ). InString b j c) e (in_part b start m (k + 1) c p) in
      stands_too (record { inside = record { bytes = c; here = i }; is = ap layer (content_from_is b (start + k + 1) c i) }) (named_stand n)

  -- Strings that were placed in a part of some bytes stand there as references, and the other positions are as they were.
  pub placed_stand : {s before after : List ℕ} {r : ℕ} {cs : List (List ℕ)} {ls : List Layer} → s ≡ take m (drop start b) → Placed s start before after r cs
      → map layer cs ≡ ls → (drop r after ≡ drop r before) × AllStand b (take r after) ls
  placed_stand {cs = cs} e w f = (w.rest, rw (w.first, ← f) (named_stand (subst (λ (t : List ℕ). NamesAt t w.marks cs) e w.strings)))
