-- The content from a position on, by what stands there, and how long it can be.
use Prim.Native.Nat.{ℕ, ◌+◌, ◌<◌, ◌≤◌}
use mathlib.Core.Path.{◌≡◌, refl, sym, ap, subst, ◌∙◌}
use mathlib.Core.List.{List, [], ◌∷◌, ◌++◌}
use mathlib.Core.Bool.{Bool, true, false}
use native.Mathlib.Omega.{arith}
use lib.ListN.{length, get_or, length-append, length-drop}
use lib.Seq.{take-length}
use Rattle.text_utf8.specs.Scalar.{encode}
use Rattle.text_json.specs.Syntax.{Char, byte, unit}
use Rattle.text_json.specs.Grammar.{Chars, close, unescaped, short, hex}
use Rattle.text_json.specs.Content.{unescape, is_pair, pair_value}
use Rattle.text_strings.specs.InString.{InString, Inside, EscapeAt, Escapes, content_from}
use Rattle.text_strings.proofs.Contents.{content_from_is, inside_content}
use Rattle.text_strings.proofs.Cursors.{closes, plain, encodes}
use Rattle.text_strings.proofs.Views.{View, at_close, at_byte, at_short, at_hex, view}

-- The encoding of a number has one to four bytes.
pub encode_length : (u : ℕ) → (1 ≤ length (encode u)) × (length (encode u) ≤ 4)
encode_length u =
    let e = encodes 0 u (length (encode u)) (encode u) refl (take-length (encode u)) in
    (e.some, e.few)

-- what a char takes of the text, at least
char_size : Char → ℕ
char_size (byte b) = 1
char_size (unit u) = 6

chars_size : List Char → ℕ
chars_size [] = 0
chars_size (c ∷ cs) = char_size c + chars_size cs

-- both ways that an escape of a surrogate can be taken
either : (t : Bool) (a b : List ℕ) (P : ℕ → Type 0) → P (length a) → P (length b) → P (length {A = ℕ} (elim t as (λ _. List ℕ) [ true ↦ a | false ↦ b ]))
either true a b P p q = p
either false a b P p q = q

unescape_length : (cs : List Char) → length (unescape cs) ≤ chars_size cs
unfolding unescape char_size chars_size
unescape_length [] = omega arith
unescape_length (byte b ∷ cs) = omega (arith, unescape_length cs)
unescape_length (unit u ∷ []) = omega (arith, encode_length u)
unescape_length (unit u ∷ byte b ∷ cs) = omega (arith, length-append (encode u) (unescape (byte b ∷ cs)), encode_length u, unescape_length (byte b ∷ cs))
unescape_length (unit u ∷ unit v ∷ cs) =
    either (is_pair u v) _ _ (λ (n : ℕ). n ≤ chars_size (unit u ∷ unit v ∷ cs))
    (omega (arith, length-append (encode (pair_value u v)) (unescape cs), encode_length (pair_value u v), unescape_length cs))
    (omega (arith, length-append (encode u) (unescape (unit v ∷ cs)), encode_length u, unescape_length (unit v ∷ cs)))

chars_size_bound : {s r : List ℕ} {cs : List Char} → Chars s cs r → chars_size cs < length s
unfolding char_size chars_size
chars_size_bound (close e) = omega arith
chars_size_bound (unescaped e h) = omega (arith, chars_size_bound h)
chars_size_bound (short e f h) = omega (arith, chars_size_bound h)
chars_size_bound (hex e f g i j k h) = omega (arith, chars_size_bound h)

-- a char that is no closing mark stands for a byte or more
unit_some : (u : ℕ) (cs : List Char) → 1 ≤ length (unescape (unit u ∷ cs))
unfolding unescape
unit_some u [] = (encode_length u).0
unit_some u (byte b ∷ cs) = omega (arith, length-append (encode u) (unescape (byte b ∷ cs)), encode_length u)
unit_some u (unit v ∷ cs) =
    either (is_pair u v) _ _ (λ (n : ℕ). 1 ≤ n)
    (omega (arith, length-append (encode (pair_value u v)) (unescape cs), encode_length (pair_value u v)))
    (omega (arith, length-append (encode u) (unescape (unit v ∷ cs)), encode_length u))

module _ (s : List ℕ) (i : ℕ) (p : Inside s i) where
  here : InString s i (content_from s i)
  here = inside_content s i p

  -- At a quotation mark inside a string, the content from there on is empty.
  pub ends : get_or s i 0 ≡ 0x22 → content_from s i ≡ []
  ends = closes s i (content_from s i) here

  -- A byte that is no quotation mark and no backslash begins the content, and the rest is the content from the next position on.
  pub goes_on : (get_or s i 0 ≡ 0x22 → ⊥) → (get_or s i 0 ≡ 0x5C → ⊥) → (content_from s i ≡ get_or s i 0 ∷ content_from s (i + 1)) × Inside s (i + 1)
  goes_on a b =
      let r = plain s i (content_from s i) here a b in
      (r.1 ∙ ap (λ (l : List ℕ). get_or s i 0 ∷ l) (sym (content_from_is s (i + 1) r.0 r.2)), record { bytes = r.0; here = r.2 })

  -- At a backslash inside a string stands an escape.
  pub escape_at : get_or s i 0 ≡ 0x5C → EscapeAt s i
  escape_at e = record { left = content_from s i; inside = here; backslash = e }

  -- At an escape the content is the bytes of its character and then the content from the position after the escape on.
  pub over_escape : (next scalar : ℕ) → Escapes s i next scalar → (content_from s i ≡ encode scalar ++ content_from s next) × Inside s next
  over_escape next scalar e =
      let r = e.stands (content_from s i) here in
      (r.1 ∙ ap (λ (l : List ℕ). encode scalar ++ l) (sym (content_from_is s next r.0 r.2)), record { bytes = r.0; here = r.2 })

  -- Where a position inside a string has no quotation mark, the content from there on has at least one byte.
  pub some_left : (get_or s i 0 ≡ 0x22 → ⊥) → 1 ≤ length (content_from s i)
  unfolding unescape
  some_left n = subst (λ (l : List ℕ). 1 ≤ length l) here.content (go (view s i here.chars here.rest here.reads))
    where
      go : View s i here.chars here.rest → 1 ≤ length (unescape here.chars)
      go (at_close l e f) = absurd (n e)
      go (at_byte ds l e f d) = rw f (omega arith)
      go (at_short ds l g h f d) = rw f (omega arith)
      go (at_hex ds l g h ha hb hc hd f d) = rw f (unit_some _ ds)

  -- The content from a position inside a string on is shorter than the text from there on.
  pub not_longer : i + length (content_from s i) < length s
  not_longer = omega (arith, ap length here.content, unescape_length here.chars, chars_size_bound here.reads, length-drop i s)
