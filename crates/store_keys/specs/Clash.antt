-- When two images clash (document 01, "References, names and rules"): if they define one layer key for different objects, or one image key at all.
-- Two objects are different if their references are: what an alias leads to is not asked.
use Rattle.std.specs.Prelude.{Bool, not, ◌&&◌, ◌||◌, List, eqb}
use Rattle.laws.specs.Any.{any_of, any_pair}
use Rattle.laws.specs.Order.{same}
use Rattle.reference_digests.specs.Algorithms.{byte_of}
use Rattle.reference.specs.References.{layer_text}
use Rattle.store_record.specs.Image.{Image}
use Rattle.store_keys.specs.Keys.{Key, LayerKey, image_keys, layer_keys}

unfoldable pub is_same_key : Key → Key → Bool
is_same_key k l = eqb (byte_of k.algorithm) (byte_of l.algorithm) && (same k.signer l.signer && same k.name l.name)

-- one layer key for different objects
unfoldable pub disagree : LayerKey → LayerKey → Bool
disagree k l = is_same_key k.key l.key && not (same (layer_text k.object) (layer_text l.object))

unfoldable pub clash : Image → Image → Bool
clash x y = any_of (λ k. any_of (is_same_key k) (image_keys y)) (image_keys x) || any_of (λ k. any_of (disagree k) (layer_keys y)) (layer_keys x)

-- some two images clash
unfoldable pub any_clash : List Image → Bool
any_clash xs = any_pair clash xs
