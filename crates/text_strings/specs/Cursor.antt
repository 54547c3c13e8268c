-- What a cursor has before it of a string's content, and what the next byte is.
use Rattle.std.specs.Prelude.{ℕ, ◌+◌, ◌-◌, ◌*◌, ◌≤◌, ◌≡◌, List, [], ◌∷◌, ◌++◌, Bool, true, false, length, take, drop}
use Rattle.text_utf8.specs.Scalar.{encode}
use Rattle.text_strings.specs.InString.{InString}
use Rattle.text_strings.specs.declared.Cursor.{Cursor}
use Rattle.text_strings.specs.declared.Next.{Next}

-- the bytes that the cursor holds of an escape
abbrev pub held_bytes : Cursor → List ℕ
held_bytes c = drop c.from (take c.count c.held)

-- the content c lies before the cursor
pub record Left (s : List ℕ) (k : Cursor) (c : List ℕ) : Type 0 where
  pub order : k.from ≤ k.count
  pub few : k.count ≤ 4
  pub there : k.count ≤ length k.held
  pub tail : List ℕ
  pub inside : InString s k.at tail
  pub content : c ≡ held_bytes k ++ tail

-- some content lies before the cursor
pub record ReadableCursor (s : List ℕ) (k : Cursor) : Type 0 where
  pub bytes : List ℕ
  pub left : Left s k bytes

-- what is given of the content c: its first byte and a cursor with the rest before it, or the end where it is empty
abbrev pub Given : List ℕ → List ℕ → Bool → ℕ → Cursor → Type 0
Given s c true b k = (d : List ℕ) × (c ≡ b ∷ d) × Left s k d
Given s c false b k = c ≡ []

abbrev pub GivesByte : List ℕ → List ℕ → Next → Type 0
GivesByte s c n = Given s c n.found n.byte n.rest

-- the first byte of a character's encoding, with the others held before position `at`
pub record Encodes (at scalar : ℕ) (n : Next) : Type 0 where
  pub found : n.found ≡ true
  pub next : n.rest.at ≡ at
  pub one : n.rest.from ≡ 1
  pub some : 1 ≤ n.rest.count
  pub few : n.rest.count ≤ 4
  pub there : n.rest.count ≤ length n.rest.held
  pub bytes : n.byte ∷ held_bytes n.rest ≡ encode scalar

-- a number that falls with each byte that is taken
abbrev pub weight : List ℕ → Cursor → ℕ
weight s k = (length s - k.at) * 5 + (k.count - k.from)
