-- The references of a room by their numbers, and for each the number of the object that it stands for: what following aliases needs. References are the objects
-- of all images, image by image in the text's order, and after them the layers of one image.
use Rattle.std.specs.Prelude.{ℕ, ◌≤◌, ◌<◌, ◌≡◌, true, length, get_or, None}
use mathlib.Core.List.{List, Memᴰ as In}
use Rattle.reference.specs.References.{Layer, layer_digest, layer_alias, no_layer}
use Rattle.store_keys.specs.Keys.{Key, LayerKey}
use Rattle.store_keys.specs.Clash.{is_same_key}
use Rattle.lookup_paths.specs.Follow.{object_in}

-- what stands for a number: the reference is a digest itself, it is an alias that nothing defines so far, or it is no reference
abbrev pub digest_mark : ℕ
digest_mark = 65535

abbrev pub undefined_mark : ℕ
undefined_mark = 65534

abbrev pub bad_mark : ℕ
bad_mark = 65533

-- the object of the alias with key k, among the keys ks, is the reference with number o; objects have the lower numbers
pub record LinkedTo (ks : List LayerKey) (refs : List Layer) (k : Key) (o : ℕ) : Type 0 where
  pub within : o < length refs
  pub small : o < bad_mark
  pub by : LayerKey
  pub defined : In by ks
  pub same_key : is_same_key by.key k ≡ true
  pub object : by.object ≡ get_or refs o no_layer

pub data AliasLink (ks : List LayerKey) (refs : List Layer) (k : Key) : ℕ → Type 0 where
  undefined : object_in k ks ≡ None → AliasLink ks refs k undefined_mark
  linked : {o : ℕ} → LinkedTo ks refs k o → AliasLink ks refs k o

-- what a reference is linked to, as far as the keys ks define it
abbrev pub Link : List LayerKey → List Layer → Layer → ℕ → Type 0
Link ks refs (layer_digest a d) o = o ≡ digest_mark
Link ks refs (layer_alias a s n) o = AliasLink ks refs (record { algorithm = a; signer = s; name = n }) o
Link ks refs no_layer o = o ≡ bad_mark

-- each reference is linked
pub record Links (ks : List LayerKey) (refs : List Layer) (next : List ℕ) : Type 0 where
  pub space : length refs ≤ length next
  pub few : length refs ≤ 4160
  pub each : (e : ℕ) → e < length refs → Link ks refs (get_or refs e no_layer) (get_or next e 0)
