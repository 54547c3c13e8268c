-- RFC 8259's grammar as relations. `N s x r` says that s is an N with the tree x, followed by r: so a concatenation in the
-- grammar is two relations one after the other, and a text is a value followed by nothing.
use Rattle.std.specs.Prelude.{ℕ, zero, suc, ◌+◌, ◌*◌, ◌≡◌, List, [], ◌∷◌, Bool, true, false, ◌&&◌}
use Rattle.text_json.specs.Bytes.{is_space, is_digit, is_point, is_exp, is_sign, is_hex, hex_value, is_unescaped, is_short, short_value}
use Rattle.text_json.specs.Syntax.{Char, byte, unit, Numeral, Syntax, null, boolean, number, string, array, object, Member, elements, members}

-- ws = *( %x20 / %x09 / %x0A / %x0D )
pub data Space : List ℕ → List ℕ → Type 0 where
  end : {s : List ℕ} → Space s s
  more : {b : ℕ} {s r : List ℕ} → is_space b ≡ true → Space s r → Space (b ∷ s) r

-- a fixed run of bytes, as a literal name or a punctuation mark
pub data Word : List ℕ → List ℕ → List ℕ → Type 0 where
  end : {s : List ℕ} → Word [] s s
  more : {w b : ℕ} {ws s r : List ℕ} → b ≡ w → Word ws s r → Word (w ∷ ws) (b ∷ s) r

-- *DIGIT
pub data Digits : List ℕ → List ℕ → List ℕ → Type 0 where
  end : {s : List ℕ} → Digits s [] s
  more : {b : ℕ} {s ds r : List ℕ} → is_digit b ≡ true → Digits s ds r → Digits (b ∷ s) (b ∷ ds) r

-- 1*DIGIT
pub data SomeDigits : List ℕ → List ℕ → Type 0 where
  digits : {b : ℕ} {s ds r : List ℕ} → is_digit b ≡ true → Digits s ds r → SomeDigits (b ∷ s) r

-- int = zero / ( digit1-9 *DIGIT )
pub data Int : List ℕ → List ℕ → List ℕ → Type 0 where
  lone_zero : {b : ℕ} {s : List ℕ} → b ≡ 0x30 → Int (b ∷ s) (b ∷ []) s
  from_nonzero : {b : ℕ} {s ds r : List ℕ} → is_digit b ≡ true → (b ≡ 0x30 → ⊥) → Digits s ds r → Int (b ∷ s) (b ∷ ds) r

-- [ frac ], frac = decimal-point 1*DIGIT; true where there is none
pub data Frac : List ℕ → Bool → List ℕ → Type 0 where
  absent : {s : List ℕ} → Frac s true s
  present : {b : ℕ} {s r : List ℕ} → b ≡ 0x2E → SomeDigits s r → Frac (b ∷ s) false r

-- [ exp ], exp = e [ minus / plus ] 1*DIGIT; true where there is none
pub data Exp : List ℕ → Bool → List ℕ → Type 0 where
  absent : {s : List ℕ} → Exp s true s
  unsigned : {b : ℕ} {s r : List ℕ} → is_exp b ≡ true → SomeDigits s r → Exp (b ∷ s) false r
  signed : {b c : ℕ} {s r : List ℕ} → is_exp b ≡ true → is_sign c ≡ true → SomeDigits s r → Exp (b ∷ c ∷ s) false r

-- int [ frac ] [ exp ], with the sign before it
pub data Unsigned (negative : Bool) : List ℕ → Numeral → List ℕ → Type 0 where
  unsigned : {s s₁ s₂ r ds : List ℕ} {f e : Bool} → Int s ds s₁ → Frac s₁ f s₂ → Exp s₂ e r
      → Unsigned negative s (record { negative = negative; digits = ds; whole = f && e }) r

-- number = [ minus ] int [ frac ] [ exp ]
pub data Number : List ℕ → Numeral → List ℕ → Type 0 where
  plain : {s r : List ℕ} {n : Numeral} → Unsigned false s n r → Number s n r
  minus : {b : ℕ} {s r : List ℕ} {n : Numeral} → b ≡ 0x2D → Unsigned true s n r → Number (b ∷ s) n r

-- the number that four hexadecimal digits stand for
unfoldable pub hex_number : ℕ → ℕ → ℕ → ℕ → ℕ
hex_number a b c d = ((hex_value a * 16 + hex_value b) * 16 + hex_value c) * 16 + hex_value d

-- *char quotation-mark
pub data Chars : List ℕ → List Char → List ℕ → Type 0 where
  close : {q : ℕ} {s : List ℕ} → q ≡ 0x22 → Chars (q ∷ s) [] s
  unescaped : {b : ℕ} {s r : List ℕ} {cs : List Char} → is_unescaped b ≡ true → Chars s cs r → Chars (b ∷ s) (byte b ∷ cs) r
  short : {e b : ℕ} {s r : List ℕ} {cs : List Char} → e ≡ 0x5C → is_short b ≡ true → Chars s cs r
      → Chars (e ∷ b ∷ s) (byte (short_value b) ∷ cs) r
  hex : {e u a b c d : ℕ} {s r : List ℕ} {cs : List Char} → e ≡ 0x5C → u ≡ 0x75
      → is_hex a ≡ true → is_hex b ≡ true → is_hex c ≡ true → is_hex d ≡ true → Chars s cs r
      → Chars (e ∷ u ∷ a ∷ b ∷ c ∷ d ∷ s) (unit (hex_number a b c d) ∷ cs) r

-- string = quotation-mark *char quotation-mark
pub data String : List ℕ → List Char → List ℕ → Type 0 where
  quoted : {q : ℕ} {s r : List ℕ} {cs : List Char} → q ≡ 0x22 → Chars s cs r → String (q ∷ s) cs r

-- A value that is neither an array nor an object.
pub data Scalar : List ℕ → Syntax → List ℕ → Type 0 where
  is_null : {s r : List ℕ} → Word (0x6E ∷ 0x75 ∷ 0x6C ∷ 0x6C ∷ []) s r → Scalar s null r
  is_true : {s r : List ℕ} → Word (0x74 ∷ 0x72 ∷ 0x75 ∷ 0x65 ∷ []) s r → Scalar s (boolean true) r
  is_false : {s r : List ℕ} → Word (0x66 ∷ 0x61 ∷ 0x6C ∷ 0x73 ∷ 0x65 ∷ []) s r → Scalar s (boolean false) r
  is_a_number : {s r : List ℕ} {n : Numeral} → Number s n r → Scalar s (number s n) r
  is_a_string : {s r : List ℕ} {cs : List Char} → String s cs r → Scalar s (string s cs) r

-- item *( value-separator item ) end-mark, with the ws that belongs to the marks; `Item` is one item's relation
pub data Items {A : Type 0} (Item : List ℕ → A → List ℕ → Type 0) (mark : ℕ) : List ℕ → List A → List ℕ → Type 0 where
  last : {s s₁ s₂ r : List ℕ} {t : A} → Item s t s₁ → Space s₁ s₂ → Word (mark ∷ []) s₂ r → Items Item mark s (t ∷ []) r
  next : {s s₁ s₂ s₃ s₄ r : List ℕ} {t : A} {ts : List A} → Item s t s₁ → Space s₁ s₂ → Word (0x2C ∷ []) s₂ s₃ → Space s₃ s₄
      → Items Item mark s₄ ts r → Items Item mark s (t ∷ ts) r

-- ws [ item *( value-separator item ) ] end-mark, what follows the opening mark of an array or an object
pub data Listed {A : Type 0} (Item : List ℕ → A → List ℕ → Type 0) (mark : ℕ) : List ℕ → List A → List ℕ → Type 0 where
  empty : {s s₁ r : List ℕ} → Space s s₁ → Word (mark ∷ []) s₁ r → Listed Item mark s [] r
  items : {s s₁ r : List ℕ} {ts : List A} → Space s s₁ → Items Item mark s₁ ts r → Listed Item mark s ts r

-- member = string name-separator value
pub data Pair (Value : List ℕ → Syntax → List ℕ → Type 0) : List ℕ → Member → List ℕ → Type 0 where
  pair : {s s₁ s₂ s₃ s₄ r : List ℕ} {cs : List Char} {t : Syntax} → String s cs s₁ → Space s₁ s₂ → Word (0x3A ∷ []) s₂ s₃ → Space s₃ s₄
      → Value s₄ t r → Pair Value s (record { place = s; key = cs; value = t }) r

-- value = false / null / true / object / array / number / string, where arrays and objects may hold the values of `Value`
pub data Nested (Value : List ℕ → Syntax → List ℕ → Type 0) : List ℕ → Syntax → List ℕ → Type 0 where
  is_scalar : {s r : List ℕ} {t : Syntax} → Scalar s t r → Nested Value s t r
  is_an_array : {b : ℕ} {s r : List ℕ} {ts : List Syntax} → b ≡ 0x5B → Listed Value 0x5D s ts r → Nested Value (b ∷ s) (array (elements ts)) r
  is_an_object : {b : ℕ} {s r : List ℕ} {ms : List Member} → b ≡ 0x7B → Listed (Pair Value) 0x7D s ms r → Nested Value (b ∷ s) (object (members ms)) r

-- a value with arrays and objects nested at most `depth` deep, the outermost counting 1
abbrev pub Value : ℕ → List ℕ → Syntax → List ℕ → Type 0
Value zero = Scalar
Value (suc depth) = Nested (Value depth)

-- JSON-text = ws value ws
pub data Text (depth : ℕ) : List ℕ → Syntax → Type 0 where
  text : {s s₁ s₂ : List ℕ} {t : Syntax} → Space s s₁ → Value depth s₁ t s₂ → Space s₂ [] → Text depth s t

-- the first byte of the text is in the set
abbrev pub starts : (ℕ → Bool) → List ℕ → Bool
starts p [] = false
starts p (b ∷ s) = p b

-- The text does not go on as a number does. The grammar leaves open where a number ends; before such a text only the longest one ends.
pub record Stops (r : List ℕ) : Type 0 where
  pub no_digit : starts is_digit r ≡ false
  pub no_point : starts is_point r ≡ false
  pub no_exp : starts is_exp r ≡ false
