-- Names that a content is, or begins with.
use Rattle.std.specs.Prelude.{Bool, true, false, List, ℕ, length, take}
use Rattle.laws.specs.Order.{same}

-- the content c is the name where the whole of it counts; otherwise its first bytes, as many as the name has, are
unfoldable pub holds_name : (whole : Bool) (c name : List ℕ) → Bool
holds_name true c name = same c name
holds_name false c name = same (take (length name) c) name
