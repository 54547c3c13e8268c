-- The first four bytes of a content as one number. Where two contents have different numbers, these have the order of the contents.
use Rattle.std.specs.Prelude.{ℕ, zero, suc, ◌+◌, ◌*◌, List, [], ◌∷◌}

-- n more bytes of a content behind those that make up h; past the content's end each is 0
unfoldable pub head_from : ℕ → ℕ → List ℕ → ℕ
head_from zero h c = h
head_from (suc n) h [] = head_from n (h * 256) []
head_from (suc n) h (b ∷ c) = head_from n (h * 256 + b) c

-- the first byte is the highest
unfoldable pub head_of : List ℕ → ℕ
head_of c = head_from 4 0 c

-- with n of the four bytes to come, what the others make up is below this
abbrev pub head_bound : ℕ → ℕ
head_bound zero = 4294967296
head_bound (suc zero) = 16777216
head_bound (suc (suc zero)) = 65536
head_bound (suc (suc (suc zero))) = 256
head_bound (suc (suc (suc (suc n)))) = 1
