-- Who accepts whom, as a table: a row for each image, in it a mark for each image that it accepts; and the transitive closure of such a
-- table, by Warshall's algorithm.
use Rattle.std.specs.Prelude.{ℕ, zero, suc, Bool, true, false, ◌||◌, List, [], ◌∷◌, map, length, get_or}

-- the mark in row i for image j; a table has none outside its rows
unfoldable pub mark : List (List Bool) → ℕ → ℕ → Bool
mark t i j = get_or (get_or t i []) j false

-- the marks of either row
unfoldable pub or_row : List Bool → List Bool → List Bool
or_row [] bs = bs
or_row (a ∷ as₁) [] = a ∷ as₁
or_row (a ∷ as₁) (b ∷ bs) = (a || b) ∷ or_row as₁ bs

-- a row, with the marks of row k where it has one for image k
unfoldable pub through : ℕ → List Bool → List Bool → List Bool
through k next row = elim (get_or row k false) [ true ↦ or_row row next | false ↦ row ]

-- every row so
unfoldable pub closed_at : ℕ → List (List Bool) → List (List Bool)
closed_at k t = map (through k (get_or t k [])) t

-- for images 0 to k, one after the other
unfoldable pub closed_below : ℕ → List (List Bool) → List (List Bool)
closed_below zero t = t
closed_below (suc k) t = closed_at k (closed_below k t)

unfoldable pub closed : List (List Bool) → List (List Bool)
closed t = closed_below (length t) t
