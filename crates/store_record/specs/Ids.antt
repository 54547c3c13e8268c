-- When two images have an ID in common (document 01, "The room": "IDs differ"). An ID is its algorithm and both digests.
use Rattle.std.specs.Prelude.{Bool, false, ◌&&◌, List, eqb}
use Rattle.laws.specs.Any.{any_of, any_pair}
use Rattle.laws.specs.Order.{same}
use Rattle.reference_digests.specs.Algorithms.{byte_of}
use Rattle.reference.specs.References.{Id, image_id, no_id}
use Rattle.store_record.specs.Image.{Image}

unfoldable pub same_id : Id → Id → Bool
same_id no_id j = false
same_id (image_id a s m) no_id = false
same_id (image_id a s m) (image_id b t n) = eqb (byte_of a) (byte_of b) && (same s t && same m n)

-- the image has that ID
unfoldable pub has_id : Id → Image → Bool
has_id i x = any_of (same_id i) x.ids

unfoldable pub share_id : Image → Image → Bool
share_id x y = any_of (λ i. has_id i y) x.ids

-- some ID stands in two images
unfoldable pub id_twice : List Image → Bool
id_twice xs = any_pair share_id xs
