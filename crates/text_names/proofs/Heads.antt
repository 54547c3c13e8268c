-- Heads of contents: one step of making a head up, and the order of contents with different heads. Assumes nothing.
use Prim.Native.Nat.{ℕ, zero, suc, ◌+◌, ◌-◌, ◌*◌, ◌<◌, ◌≤◌, ◌/◌, ◌%◌}
use mathlib.Core.Path.{◌≡◌, refl, sym, ap, subst, ◌∙◌}
use mathlib.Core.List.{List, [], ◌∷◌, ◌++◌}
use mathlib.Core.Bool.{Bool, true, false, and-eq-true_iff}
use native.Mathlib.Omega.{arith}
use native.Mathlib.Numerals.{unary_clauses}
use borrow.Author.Tests.{ltb-true, ltb-false}
use lib.Dec.{ltb}
use lib.ListN.{get_or}
use lib.Seq.{get_or-drop}
use Rattle.laws.proofs.Order.{by_test, Step, less, equal, more, step}
use Rattle.text_utf8.specs.Scalar.{encode}
use Rattle.text_utf8.proofs.Forms.{encode_1, encode_2, encode_3, encode_4}
use Rattle.text_json.specs.Bytes.{short_value, between}
use Rattle.text_json.specs.Syntax.{Char, byte, unit}
use Rattle.text_json.specs.Grammar.{Chars, close, unescaped, short, hex, hex_number}
use Rattle.text_json.proofs.ByteTests.{number_below, between_true}
use Rattle.text_json.specs.Content.{unescape, is_pair, is_high, is_low, pair_value}
use Rattle.text_strings.specs.InString.{Inside, content_from}
use Rattle.text_strings.specs.Cursor.{Left, GivesByte}
use Rattle.text_order.specs.Compare.{order}
use Rattle.text_names.specs.Head.{head_from, head_of, head_bound}
use Rattle.text_strings.specs.declared.Next.{Next}
use Rattle.std.specs.declared.cmp.Ordering.TheVariants.{Less, Greater}
use Rattle.text_strings.proofs.Contents.{inside_content}
use Rattle.text_strings.proofs.Escapes.{short_small}
use Rattle.text_strings.proofs.Cursors.{given_end, given_byte}
use Rattle.text_order.proofs.Orders.{order_less, order_more, order_same}
use Rattle.text_strings.proofs.Positions.{ends, goes_on}

-- each element is a byte
abbrev pub Bytes : List ℕ → Type 0
Bytes c = (k : ℕ) → get_or c k 0 < 256

rest_bytes : (b : ℕ) (c : List ℕ) → Bytes (b ∷ c) → Bytes c
rest_bytes b c f k = f (suc k)

more_bytes : (b : ℕ) (c : List ℕ) → b < 256 → Bytes c → Bytes (b ∷ c)
more_bytes b c h f zero = h
more_bytes b c h f (suc k) = f k

no_bytes : Bytes []
no_bytes k = omega arith

-- one step
pub head_end : (n h : ℕ) → 0 < n → head_from n h [] ≡ head_from (n - 1) (h * 256) []
unfolding head_from
head_end zero h l = absurd (omega arith)
head_end (suc n) h l = simp unary_clauses refl

-- With bytes to come, the first byte of the content is added to the head behind the earlier ones.
pub head_byte : (n h : ℕ) → 0 < n → (b : ℕ) (c : List ℕ) → head_from n h (b ∷ c) ≡ head_from (n - 1) (h * 256 + b) c
unfolding head_from
head_byte zero h l b c = absurd (omega arith)
head_byte (suc n) h l b c = simp unary_clauses refl

-- With no bytes to come, the head is what the earlier ones make up.
pub head_done : (n h : ℕ) (c : List ℕ) → n ≤ 0 → head_from n h c ≡ h
unfolding head_from
head_done zero h c l = refl
head_done (suc n) h c l = absurd (omega arith)

-- the number fits its type
pub bound_more : (n h b : ℕ) → 0 < n → n ≤ 4 → h < head_bound n → b < 256 → h * 256 + b < head_bound (n - 1)
bound_more zero h b l m k i = omega arith
bound_more (suc zero) h b l m k i = omega arith
bound_more (suc (suc zero)) h b l m k i = omega arith
bound_more (suc (suc (suc zero))) h b l m k i = omega arith
bound_more (suc (suc (suc (suc zero)))) h b l m k i = omega arith
bound_more (suc (suc (suc (suc (suc n))))) h b l m k i = omega arith

bound_most : (n : ℕ) → head_bound n ≤ 4294967296
bound_most zero = omega arith
bound_most (suc zero) = omega arith
bound_most (suc (suc zero)) = omega arith
bound_most (suc (suc (suc zero))) = omega arith
bound_most (suc (suc (suc (suc n)))) = omega arith

-- The head so far with one more byte fits in 32 bits.
pub bound_fits : (n h b : ℕ) → 0 < n → n ≤ 4 → h < head_bound n → b < 256 → h * 256 + b < 4294967296
bound_fits n h b l m k i = omega (arith, bound_more n h b l m k i, bound_most (n - 1))

-- a lower number so far stays lower
lower : (n g h : ℕ) (x y : List ℕ) → Bytes x → Bytes y → g < h → head_from n g x < head_from n h y
unfolding head_from
lower zero g h x y p q l = l
lower (suc n) g h [] [] p q l = lower n (g * 256) (h * 256) [] [] p q (omega arith)
lower (suc n) g h [] (b ∷ y) p q l = lower n (g * 256) (h * 256 + b) [] y p (rest_bytes b y q) (omega arith)
lower (suc n) g h (a ∷ x) [] p q l = lower n (g * 256 + a) (h * 256) x [] (rest_bytes a x p) q (omega (arith, p 0))
lower (suc n) g h (a ∷ x) (b ∷ y) p q l = lower n (g * 256 + a) (h * 256 + b) x y (rest_bytes a x p) (rest_bytes b y q) (omega (arith, p 0))

-- past the end of a content stands the lowest byte
lowest : (n h : ℕ) (x : List ℕ) → Bytes x → head_from n h [] ≤ head_from n h x
unfolding head_from
lowest zero h x p = omega arith
lowest (suc n) h [] p = omega arith
lowest (suc n) h (a ∷ x) p =
    by_test (ltb 0 a)
    (λ e. let l = lower n (h * 256) (h * 256 + a) [] x no_bytes (rest_bytes a x p) (omega (arith, ltb-true 0 a e)) in omega arith)
    (λ e. let z : h * 256 ≡ h * 256 + a = omega (arith, ltb-false 0 a e) in
    subst (λ (g : ℕ). head_from n (h * 256) [] ≤ head_from n g x) z (lowest n (h * 256) x (rest_bytes a x p)))

from_less : (n h : ℕ) (x y : List ℕ) → Bytes x → Bytes y → head_from n h x < head_from n h y → order x y ≡ Less
unfolding head_from order
from_less zero h x y p q l = absurd (omega arith)
from_less (suc n) h [] [] p q l = absurd (omega arith)
from_less (suc n) h [] (b ∷ y) p q l = refl
from_less (suc n) h (a ∷ x) [] p q l = absurd (omega (arith, lowest (suc n) h (a ∷ x) p))
from_less (suc n) h (a ∷ x) (b ∷ y) p q l = go (from_less n (h * 256 + a) x y (rest_bytes a x p) (rest_bytes b y q)) (step a b x y)
  where
    go : (head_from n (h * 256 + a) x < head_from n (h * 256 + a) y → order x y ≡ Less) → Step a b x y → order (a ∷ x) (b ∷ y) ≡ Less
    go ih (less k) = order_less a b x y k
    go ih (equal k) = order_same a b x y k ∙ ih (subst (λ (c : ℕ). head_from n (h * 256 + a) x < head_from n (h * 256 + c) y) (sym k) l)
    go ih (more k) = absurd (omega (arith, lower n (h * 256 + b) (h * 256 + a) y x (rest_bytes b y q) (rest_bytes a x p) (omega arith)))

from_greater : (n h : ℕ) (x y : List ℕ) → Bytes x → Bytes y → head_from n h y < head_from n h x → order x y ≡ Greater
unfolding head_from order
from_greater zero h x y p q l = absurd (omega arith)
from_greater (suc n) h [] [] p q l = absurd (omega arith)
from_greater (suc n) h (a ∷ x) [] p q l = refl
from_greater (suc n) h [] (b ∷ y) p q l = absurd (omega (arith, lowest (suc n) h (b ∷ y) q))
from_greater (suc n) h (a ∷ x) (b ∷ y) p q l = go (from_greater n (h * 256 + a) x y (rest_bytes a x p) (rest_bytes b y q)) (step a b x y)
  where
    go : (head_from n (h * 256 + a) y < head_from n (h * 256 + a) x → order x y ≡ Greater) → Step a b x y → order (a ∷ x) (b ∷ y) ≡ Greater
    go ih (less k) = absurd (omega (arith, lower n (h * 256 + a) (h * 256 + b) x y (rest_bytes a x p) (rest_bytes b y q) (omega arith)))
    go ih (equal k) = order_same a b x y k ∙ ih (subst (λ (c : ℕ). head_from n (h * 256 + c) y < head_from n (h * 256 + a) x) (sym k) l)
    go ih (more k) = order_more a b x y k

-- A content of bytes with the lower head comes first.
pub head_less : (x y : List ℕ) → Bytes x → Bytes y → head_of x < head_of y → order x y ≡ Less
unfolding head_of
head_less = from_less 4 0

-- A content of bytes with the higher head comes after the other.
pub head_greater : (x y : List ℕ) → Bytes x → Bytes y → head_of y < head_of x → order x y ≡ Greater
unfolding head_of
head_greater = from_greater 4 0

-- the chars of a string stand for bytes
SmallChar : Char → Type 0
SmallChar (byte b) = b < 256
SmallChar (unit u) = u < 0x10000

data Smalls : List Char → Type 0 where
  no_small : Smalls []
  small : {c : Char} {cs : List Char} → SmallChar c → Smalls cs → Smalls (c ∷ cs)

chars_small : {s r : List ℕ} {cs : List Char} → Chars s cs r → Bytes s → Smalls cs
unfolding SmallChar
chars_small (close e) f = no_small
chars_small (unescaped {b = b} e h) f = small {c = byte b} (f 0) (chars_small h (λ k. f (suc k)))
chars_small (short {b = b} e g h) f = small {c = byte (short_value b)} (omega (arith, (short_small b g).0)) (chars_small h (λ k. f (suc (suc k))))
chars_small (hex {a = a} {b = b} {c = c} {d = d} e u i j k l h) f =
    small {c = unit (hex_number a b c d)} (number_below a b c d i j k l) (chars_small h (λ m. f (suc (suc (suc (suc (suc (suc m))))))))

encode_bytes : (u : ℕ) → u < 0x110000 → Bytes (encode u)
encode_bytes u h =
    by_test (ltb u 0x80)
    (λ e. let k = ltb-true u 0x80 e in subst Bytes (sym (encode_1 u k)) (one u (omega arith)))
    (λ e. by_test (ltb u 0x800)
    (λ f. let k = ltb-true u 0x800 f in subst Bytes (sym (encode_2 u (ltb-false u 0x80 e) k)) (two (0xC0 + u / 64) (0x80 + u % 64) (omega arith) (omega arith)))
    (λ f. by_test (ltb u 0x10000)
    (λ g. let k = ltb-true u 0x10000 g in subst Bytes (sym (encode_3 u (ltb-false u 0x800 f) k))
    (three (0xE0 + u / 4096) (0x80 + u / 64 % 64) (0x80 + u % 64) (omega arith) (omega arith) (omega arith)))
    (λ g. subst Bytes (sym (encode_4 u (ltb-false u 0x10000 g)))
    (more_bytes (0xF0 + u / 262144) ((0x80 + u / 4096 % 64) ∷ (0x80 + u / 64 % 64) ∷ (0x80 + u % 64) ∷ []) (omega arith)
    (three (0x80 + u / 4096 % 64) (0x80 + u / 64 % 64) (0x80 + u % 64) (omega arith) (omega arith) (omega arith))))))
  where
    one : (a : ℕ) → a < 256 → Bytes (a ∷ [])
    one a i = more_bytes a [] i no_bytes

    two : (a b : ℕ) → a < 256 → b < 256 → Bytes (a ∷ b ∷ [])
    two a b i j = more_bytes a (b ∷ []) i (one b j)

    three : (a b c : ℕ) → a < 256 → b < 256 → c < 256 → Bytes (a ∷ b ∷ c ∷ [])
    three a b c i j k = more_bytes a (b ∷ c ∷ []) i (two b c j k)

both_bytes : (xs ys : List ℕ) → Bytes xs → Bytes ys → Bytes (xs ++ ys)
both_bytes [] ys f g = g
both_bytes (x ∷ xs) ys f g = more_bytes x (xs ++ ys) (f 0) (both_bytes xs ys (λ k. f (suc k)) g)

either_bytes : (t : Bool) (a b : List ℕ) → (t ≡ true → Bytes a) → (t ≡ false → Bytes b) → Bytes (elim t as (λ _. List ℕ) [ true ↦ a | false ↦ b ])
either_bytes true a b p q = p refl
either_bytes false a b p q = q refl

pair_below : (u v : ℕ) → is_pair u v ≡ true → pair_value u v < 0x110000
unfolding is_pair is_high is_low pair_value
pair_below u v e =
    let p = (and-eq-true_iff (between 0xD800 0xDBFF u) (between 0xDC00 0xDFFF v)).0 e in
    let a = between_true 0xD800 0xDBFF u p.0 in
    let b = between_true 0xDC00 0xDFFF v p.1 in
    omega arith

unescape_bytes : (cs : List Char) → Smalls cs → Bytes (unescape cs)
unfolding unescape SmallChar
unescape_bytes [] p = no_bytes
unescape_bytes (byte b ∷ cs) (small h p) = more_bytes b (unescape cs) h (unescape_bytes cs p)
unescape_bytes (unit u ∷ []) (small h p) = encode_bytes u (omega arith)
unescape_bytes (unit u ∷ byte b ∷ cs) (small h p) = both_bytes (encode u) (unescape (byte b ∷ cs)) (encode_bytes u (omega arith))
    (unescape_bytes (byte b ∷ cs) p)
unescape_bytes (unit u ∷ unit v ∷ cs) (small h (small i p)) =
    let one = encode_bytes u (omega arith) in
    let rest = unescape_bytes cs p in
    let next = unescape_bytes (unit v ∷ cs) (small i p) in
    either_bytes (is_pair u v) _ _ (λ e. both_bytes (encode (pair_value u v)) (unescape cs) (encode_bytes (pair_value u v) (pair_below u v e)) rest)
    (λ e. both_bytes (encode u) (unescape (unit v ∷ cs)) one next)

-- The content of a string in a text of bytes is of bytes.
pub content_bytes : (s : List ℕ) (i : ℕ) → Bytes s → Inside s i → Bytes (content_from s i)
content_bytes s i f p =
    let h = inside_content s i p in
    subst Bytes h.content (unescape_bytes h.chars (chars_small h.reads (λ k. subst (λ (b : ℕ). b < 256) (sym (get_or-drop i s k 0)) (f (i + k)))))

-- the order of two contents by their heads
module _ (s : List ℕ) (i : ℕ) (t : List ℕ) (j : ℕ) (f : Bytes s) (g : Bytes t) (p : Inside s i) (q : Inside t j) where
  -- In texts of bytes, a string's content with a lower head than another's is less than that one.
  pub heads_less : head_of (content_from s i) < head_of (content_from t j) → Less ≡ order (content_from s i) (content_from t j)
  heads_less l = sym (head_less (content_from s i) (content_from t j) (content_bytes s i f p) (content_bytes t j g q) l)

  -- In texts of bytes, a string's content with a higher head than another's is greater than that one.
  pub heads_greater : head_of (content_from t j) < head_of (content_from s i) → Greater ≡ order (content_from s i) (content_from t j)
  heads_greater l = sym (head_greater (content_from s i) (content_from t j) (content_bytes s i f p) (content_bytes t j g q) l)

-- what a loop over the bytes of the text keeps
module _ (s : List ℕ) (i n h : ℕ) (l : 0 < n) (p : Inside s i) where
  -- At the closing quotation mark a byte 0 is added to the head, and the position stays.
  pub over_end : get_or s i 0 ≡ 0x22 → head_from n h (content_from s i) ≡ head_from (n - 1) (h * 256) (content_from s i)
  over_end e =
      let z = ends s i p e in
      ap (head_from n h) z ∙ head_end n h l ∙ ap (head_from (n - 1) (h * 256)) (sym z)

  -- A byte that is neither a quotation mark nor a backslash is added to the head, and the string goes on at the next position.
  pub over_byte : (get_or s i 0 ≡ 0x22 → ⊥) → (get_or s i 0 ≡ 0x5C → ⊥)
      → (head_from n h (content_from s i) ≡ head_from (n - 1) (h * 256 + get_or s i 0) (content_from s (i + 1))) × Inside s (i + 1)
  over_byte a b = let g = goes_on s i p a b in (ap (head_from n h) g.0 ∙ head_byte n h l (get_or s i 0) (content_from s (i + 1)), g.1)

-- a content that fits P makes up what one that fits Q does
abbrev pub Continues : (P Q : List ℕ → Type 0) (n h m g : ℕ) → Type 0
Continues P Q n h m g = (x : List ℕ) → P x → (y : List ℕ) × Q y × (head_from n h x ≡ head_from m g y)

-- what a loop over a cursor keeps
module _ (s : List ℕ) (x : Next) {P Q : List ℕ → Type 0} (n₀ h₀ n h : ℕ) (keep : Continues P Q n₀ h₀ n h) (l : 0 < n) (g : (c : List ℕ) → Q c
    → GivesByte s c x) where
  -- Where the cursor gives no byte, a byte 0 is added to the head.
  pub cursor_end : x.found ≡ false → Continues P Q n₀ h₀ (n - 1) (h * 256)
  cursor_end e c p =
      let k = keep c p in
      let z = given_end s k.0 x e (g k.0 k.1) in
      (k.0, k.1, k.2 ∙ ap (head_from n h) z ∙ head_end n h l ∙ ap (head_from (n - 1) (h * 256)) (sym z))

  -- Where the cursor gives a byte, that byte is added to the head, and the rest lies before the cursor.
  pub cursor_byte : x.found ≡ true → Continues P (Left s x.rest) n₀ h₀ (n - 1) (h * 256 + x.byte)
  cursor_byte e c p =
      let k = keep c p in
      let b = given_byte s k.0 x e (g k.0 k.1) in
      (b.0, b.2, k.2 ∙ ap (head_from n h) b.1 ∙ head_byte n h l x.byte b.0)
