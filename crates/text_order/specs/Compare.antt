-- The order of two contents.
use Rattle.std.specs.Prelude.{ℕ, ◌+◌, List, [], ◌∷◌, Bool, true, false, not, ◌&&◌, ltb, eqb, leb, length, take, get_or}
use Rattle.laws.specs.Order.{same}
use Rattle.text_chars.specs.Measure.{is_unmarked, every}
use Rattle.std.specs.declared.cmp.Ordering.{Ordering}
use Rattle.std.specs.declared.cmp.Ordering.TheVariants.{Less, Equal, Greater}

-- byte by byte from the start, and a content before every longer one that it begins
unfoldable pub order : List ℕ → List ℕ → Ordering
order [] [] = Equal
order [] (y ∷ ys) = Less
order (x ∷ xs) [] = Greater
order (x ∷ xs) (y ∷ ys) = elim (ltb x y) [ true ↦ Less | false ↦ elim (ltb y x) [ true ↦ Greater | false ↦ order xs ys ] ]

-- the order that two different bytes of the text decide; a quotation mark is the end of a content
unfoldable pub differs : ℕ → ℕ → Ordering
differs x y = elim (eqb x 0x22) [ true ↦ Less | false ↦ elim (eqb y 0x22) [ true ↦ Greater | false ↦ elim (ltb x y) [ true ↦ Less | false ↦ Greater ] ] ]

-- the lists begin with the same n bytes, none of which is a quotation mark or a backslash
unfoldable pub alike : ℕ → List ℕ → List ℕ → Bool
alike n xs ys = (leb n (length xs) && leb n (length ys)) && (same (take n xs) (take n ys) && every is_unmarked (take n xs))

-- the same escape of two bytes stands at position p of s and at position q of t
unfoldable pub same_escape : List ℕ → ℕ → List ℕ → ℕ → Bool
same_escape s p t q =
    (eqb (get_or s p 0) 0x5C && eqb (get_or t q 0) 0x5C) && (not (eqb (get_or s (p + 1) 0) 0x75) && eqb (get_or s (p + 1) 0) (get_or t (q + 1) 0))
