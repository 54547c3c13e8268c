-- Who accepts whom among some images, and who is a guard, computed (document 01, "The room").
use Rattle.std.specs.Prelude.{Bool, List, map}
use Rattle.laws.specs.Any.{any_of}
use Rattle.reference.specs.Matches.{matches}
use Rattle.reference.specs.References.{Id, Rule}
use Rattle.manifest.specs.Manifest.{rejects, accepts, self_names}
use Rattle.store_record.specs.Image.{Image}

-- a accepts b: some rule of a matches b, under one of b's IDs
unfoldable pub accepts_image : Image → Image → Bool
accepts_image a b = any_of (λ (i : Id). accepts a.text i b.text) b.ids

-- one rule matches an image, under one of its IDs
unfoldable pub matches_image : Rule → Image → Bool
matches_image y b = any_of (λ (i : Id). matches y i (self_names b.text)) b.ids

-- a guard rejects whatever it does not accept
unfoldable pub is_guard : Image → Bool
is_guard a = rejects a.text

unfoldable pub guards : List Image → List Bool
guards xs = map is_guard xs

-- a row for each image, with a mark for each image that it accepts
unfoldable pub marks : List Image → List (List Bool)
marks xs = map (λ (x : Image). map (accepts_image x) xs) xs
