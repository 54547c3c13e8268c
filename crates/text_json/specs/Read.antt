-- Reading a JSON text from the left. The answer is what was found and the rest of the text after it, or, where no JSON text goes
-- on as this one does, the rest from the first byte that does not fit: `stuck []` where the text ends too early.
use Rattle.std.specs.Prelude.{ℕ, zero, suc, ◌+◌, ◌*◌, List, [], ◌∷◌, Bool, true, false, ◌&&◌, length, eqb}
use Rattle.text_json.specs.Bytes.{is_space, is_digit, is_exp, is_sign, is_hex, hex_value, is_unescaped, is_short, short_value}
use Rattle.text_json.specs.Syntax.{Char, byte, unit, Numeral, Syntax, null, boolean, number, string, array, object, Member, elements, members}

pub data Read (A : Type 0) : Type 0 where
  found : A → List ℕ → Read A
  stuck : List ℕ → Read A

-- what is read next goes on where this one ended
unfoldable pub and_then : {A B : Type 0} → Read A → (A → List ℕ → Read B) → Read B
and_then (found x r) f = f x r
and_then (stuck r) f = stuck r

unfoldable pub spaces : List ℕ → List ℕ
spaces [] = []
spaces (b ∷ s) = elim (is_space b) [ true ↦ spaces s | false ↦ b ∷ s ]

unfoldable pub read_word : List ℕ → List ℕ → Read (Unit {0})
read_word [] s = found tt s
read_word (w ∷ ws) [] = stuck []
read_word (w ∷ ws) (b ∷ s) = elim (eqb b w) [ true ↦ read_word ws s | false ↦ stuck (b ∷ s) ]

-- the digits at the start, and what follows them
unfoldable pub digits_of : List ℕ → List ℕ
digits_of [] = []
digits_of (b ∷ s) = elim (is_digit b) [ true ↦ b ∷ digits_of s | false ↦ [] ]

unfoldable pub after_digits : List ℕ → List ℕ
after_digits [] = []
after_digits (b ∷ s) = elim (is_digit b) [ true ↦ after_digits s | false ↦ b ∷ s ]

unfoldable pub read_some_digits : List ℕ → Read (Unit {0})
read_some_digits [] = stuck []
read_some_digits (b ∷ s) = elim (is_digit b) [ true ↦ found tt (after_digits s) | false ↦ stuck (b ∷ s) ]

unfoldable pub read_int : List ℕ → Read (List ℕ)
read_int [] = stuck []
read_int (b ∷ s) =
    elim (eqb b 0x30) [
      | true ↦ found (b ∷ []) s
      | false ↦
          elim (is_digit b) [ true ↦ found (b ∷ digits_of s) (after_digits s) | false ↦ stuck (b ∷ s) ]
    ]

unfoldable pub read_frac : List ℕ → Read Bool
read_frac [] = found true []
read_frac (b ∷ s) = elim (eqb b 0x2E) [ true ↦ and_then (read_some_digits s) (λ _ r. found false r) | false ↦ found true (b ∷ s) ]

unfoldable pub read_signed : List ℕ → Read (Unit {0})
read_signed [] = stuck []
read_signed (b ∷ s) = elim (is_sign b) [ true ↦ read_some_digits s | false ↦ read_some_digits (b ∷ s) ]

unfoldable pub read_exp : List ℕ → Read Bool
read_exp [] = found true []
read_exp (b ∷ s) = elim (is_exp b) [ true ↦ and_then (read_signed s) (λ _ r. found false r) | false ↦ found true (b ∷ s) ]

unfoldable pub read_unsigned : Bool → List ℕ → Read Numeral
read_unsigned negative s =
    and_then (read_int s) (λ ds s₁.
    and_then (read_frac s₁) (λ f s₂.
    and_then (read_exp s₂) (λ e r.
    found (record { negative = negative; digits = ds; whole = f && e }) r)))

unfoldable pub read_number : List ℕ → Read Numeral
read_number [] = stuck []
read_number (b ∷ s) = elim (eqb b 0x2D) [ true ↦ read_unsigned true s | false ↦ read_unsigned false (b ∷ s) ]

-- where reading stands in a string: at a char, after a backslash, or in a \u escape with so many digits to come and so far this number
pub data Pending : Type 0 where
  char : Pending
  escape : Pending
  hex : ℕ → ℕ → Pending

unfoldable pub prepend : {A : Type 0} → A → Read (List A) → Read (List A)
prepend x (found xs r) = found (x ∷ xs) r
prepend x (stuck r) = stuck r

unfoldable pub read_chars : Pending → List ℕ → Read (List Char)
read_chars p [] = stuck []
read_chars char (b ∷ s) =
    elim (eqb b 0x22) [
      | true ↦ found [] s
      | false ↦
          elim (eqb b 0x5C) [
            | true ↦ read_chars escape s
            | false ↦
                elim (is_unescaped b) [ true ↦ prepend (byte b) (read_chars char s) | false ↦ stuck (b ∷ s) ]
          ]
    ]
read_chars escape (b ∷ s) =
    elim (is_short b) [
      | true ↦ prepend (byte (short_value b)) (read_chars char s)
      | false ↦
          elim (eqb b 0x75) [ true ↦ read_chars (hex 3 0) s | false ↦ stuck (b ∷ s) ]
    ]
read_chars (hex zero n) (b ∷ s) =
    elim (is_hex b) [ true ↦ prepend (unit (n * 16 + hex_value b)) (read_chars char s) | false ↦ stuck (b ∷ s) ]
read_chars (hex (suc k) n) (b ∷ s) =
    elim (is_hex b) [ true ↦ read_chars (hex k (n * 16 + hex_value b)) s | false ↦ stuck (b ∷ s) ]

unfoldable pub read_string : List ℕ → Read (List Char)
read_string [] = stuck []
read_string (b ∷ s) = elim (eqb b 0x22) [ true ↦ read_chars char s | false ↦ stuck (b ∷ s) ]

unfoldable pub read_scalar : List ℕ → Read Syntax
read_scalar [] = stuck []
read_scalar (b ∷ s) =
    elim (eqb b 0x22) [
      | true ↦ and_then (read_chars char s) (λ cs r. found (string (b ∷ s) cs) r)
      | false ↦
          elim (eqb b 0x6E) [
            | true ↦ and_then (read_word (0x75 ∷ 0x6C ∷ 0x6C ∷ []) s) (λ _ r. found null r)
            | false ↦
                elim (eqb b 0x74) [
                  | true ↦ and_then (read_word (0x72 ∷ 0x75 ∷ 0x65 ∷ []) s) (λ _ r. found (boolean true) r)
                  | false ↦
                      elim (eqb b 0x66) [
                        | true ↦ and_then (read_word (0x61 ∷ 0x6C ∷ 0x73 ∷ 0x65 ∷ []) s) (λ _ r. found (boolean false) r)
                        | false ↦
                            and_then (read_number (b ∷ s)) (λ n r. found (number (b ∷ s) n) r)
                      ]
                ]
          ]
    ]

-- after an item and spaces: the end mark, or a comma and the items that `more` reads
unfoldable pub after_item : {A : Type 0} → (List ℕ → Read (List A)) → ℕ → A → List ℕ → Read (List A)
after_item more mark t [] = stuck []
after_item more mark t (b ∷ s) =
    elim (eqb b mark) [
      | true ↦ found (t ∷ []) s
      | false ↦
          elim (eqb b 0x2C) [ true ↦ prepend t (more (spaces s)) | false ↦ stuck (b ∷ s) ]
    ]

-- at most so many items; the text's length is enough, since each item has a byte
unfoldable pub read_items : {A : Type 0} → (List ℕ → Read A) → ℕ → ℕ → List ℕ → Read (List A)
read_items item mark zero s = stuck s
read_items item mark (suc n) s = and_then (item s) (λ t r. after_item (read_items item mark n) mark t (spaces r))

unfoldable pub read_first : {A : Type 0} → (List ℕ → Read A) → ℕ → List ℕ → Read (List A)
read_first item mark [] = stuck []
read_first item mark (b ∷ s) = elim (eqb b mark) [ true ↦ found [] s | false ↦ read_items item mark (length (b ∷ s)) (b ∷ s) ]

-- what follows the opening mark of an array or an object
unfoldable pub read_listed : {A : Type 0} → (List ℕ → Read A) → ℕ → List ℕ → Read (List A)
read_listed item mark s = read_first item mark (spaces s)

unfoldable pub read_pair : (List ℕ → Read Syntax) → List ℕ → Read Member
read_pair value s =
    and_then (read_string s) (λ cs s₁.
    and_then (read_word (0x3A ∷ []) (spaces s₁)) (λ _ s₂.
    and_then (value (spaces s₂)) (λ t r.
    found (record { place = s; key = cs; value = t }) r)))

-- a value in which arrays and objects may hold what `value` reads
unfoldable pub read_nested : (List ℕ → Read Syntax) → List ℕ → Read Syntax
read_nested value [] = stuck []
read_nested value (b ∷ s) =
    elim (eqb b 0x5B) [
      | true ↦ and_then (read_listed value 0x5D s) (λ ts r. found (array (elements ts)) r)
      | false ↦
          elim (eqb b 0x7B) [
            | true ↦ and_then (read_listed (read_pair value) 0x7D s) (λ ms r. found (object (members ms)) r)
            | false ↦
                read_scalar (b ∷ s)
          ]
    ]

-- a value with arrays and objects nested at most `depth` deep, the outermost counting 1
unfoldable pub read : ℕ → List ℕ → Read Syntax
read zero = read_scalar
read (suc depth) = read_nested (read depth)

-- the end of the text, after spaces
unfoldable pub at_end : Syntax → List ℕ → Read Syntax
at_end t [] = found t []
at_end t (b ∷ s) = stuck (b ∷ s)

-- the whole text
unfoldable pub read_text : ℕ → List ℕ → Read Syntax
read_text depth s = and_then (read depth (spaces s)) (λ t r. at_end t (spaces r))
