-- What the escapes of a string stand for.
use Prim.Native.Nat.{ℕ, ◌+◌, ◌*◌, ◌-◌, ◌<◌, ◌≤◌}
use mathlib.Core.Path.{◌≡◌, refl, sym, ap, subst, ◌∙◌}
use mathlib.Core.List.{List, [], ◌∷◌, ◌++◌, append-nil}
use mathlib.Core.Bool.{Bool, true, false}
use mathlib.Core.Logic.{⊎_elim}
use native.Mathlib.Omega.{arith}
use native.Mathlib.Nat.{add_assoc}
use borrow.Author.Tests.{le-leb, lt-leb, eqb-true, lt-ltb}
use lib.ListN.{length, drop, get_or}
use lib.Dec.{eqb}
use Rattle.laws.proofs.Order.{by_test, false_true}
use Rattle.text_utf8.specs.Scalar.{encode}
use Rattle.text_json.specs.Bytes.{between, is_hex, hex_value, is_unescaped, is_short, short_value}
use Rattle.text_json.specs.Syntax.{Char, byte, unit}
use Rattle.text_json.specs.Grammar.{Chars, hex_number}
use Rattle.text_json.specs.Content.{unescape, is_high, is_low, is_pair, pair_value}
use Rattle.text_json.proofs.ByteTests.{or_cases, hex_cases}
use Rattle.text_strings.specs.InString.{InString, Escapes, HexAt, EscapeAt, HighAt}
use Rattle.text_strings.proofs.Views.{View, at_close, at_byte, at_short, at_hex, view}

-- the cases at a backslash
pub data AtEscape (s : List ℕ) (i : ℕ) (cs : List Char) (r : List ℕ) : Type 0 where
  two : (ds : List Char) → i + 1 < length s → is_short (get_or s (i + 1) 0) ≡ true
      → cs ≡ byte (short_value (get_or s (i + 1) 0)) ∷ ds → Chars (drop (i + 2) s) ds r → AtEscape s i cs r
  six : (ds : List Char) → get_or s (i + 1) 0 ≡ 0x75 → HexAt s (i + 2)
      → cs ≡ unit (hex_number (get_or s (i + 2) 0) (get_or s (i + 3) 0) (get_or s (i + 4) 0) (get_or s (i + 5) 0)) ∷ ds
      → Chars (drop (i + 6) s) ds r → AtEscape s i cs r

escape_of : (s : List ℕ) (i : ℕ) (cs : List Char) (r : List ℕ) → get_or s i 0 ≡ 0x5C → View s i cs r → AtEscape s i cs r
unfolding is_unescaped
escape_of s i cs r b (at_close l e q) = absurd (omega arith)
escape_of s i cs r b (at_byte ds l e q d) = false_true (sym (ap is_unescaped b) ∙ e)
escape_of s i cs r b (at_short ds l g h q d) = two ds l h q d
escape_of s i cs r b (at_hex ds l g h ha hb hc hd q d) =
    six ds h (record { within = omega arith; first = ha; second = rw add_assoc hb; third = rw add_assoc hc; fourth = rw add_assoc hd }) q d

-- At a backslash in a string stands an escape of two bytes or a \u escape of six.
pub at_escape : (s : List ℕ) (i : ℕ) (cs : List Char) (r : List ℕ) → get_or s i 0 ≡ 0x5C → Chars (drop i s) cs r → AtEscape s i cs r
at_escape s i cs r b d = escape_of s i cs r b (view s i cs r d)

-- the byte of a two-character escape is no u, and stands for a character of one byte
one_of : (P : ℕ → Type 0) (b k : ℕ) → P k → eqb b k ≡ true → P b
one_of P b k h e = subst P (sym (eqb-true b k e)) h

-- The second byte of an escape of two bytes stands for a character below 80, and is no `u`.
pub short_small : (b : ℕ) → is_short b ≡ true → (short_value b < 0x80) × (b ≡ 0x75 → ⊥)
unfolding is_short short_value
short_small b e = ⊎_elim (at 0x22 (omega arith, λ x. omega arith))
    (λ e1. ⊎_elim (at 0x5C (omega arith, λ x. omega arith)) (λ e2. ⊎_elim (at 0x2F (omega arith, λ x. omega arith)) (λ e3.
    ⊎_elim (at 0x62 (omega arith, λ x. omega arith)) (λ e4. ⊎_elim (at 0x66 (omega arith, λ x. omega arith))
    (λ e5. ⊎_elim (at 0x6E (omega arith, λ x. omega arith)) (λ e6.
    ⊎_elim (at 0x72 (omega arith, λ x. omega arith)) (at 0x74 (omega arith, λ x. omega arith)) (or_cases _ _ e6)) (or_cases _ _ e5)) (or_cases _ _ e4))
    (or_cases _ _ e3)) (or_cases _ _ e2)) (or_cases _ _ e1)) (or_cases _ _ e)
  where
    at : (k : ℕ) → (short_value k < 0x80) × (k ≡ 0x75 → ⊥) → eqb b k ≡ true → (short_value b < 0x80) × (b ≡ 0x75 → ⊥)
    at k h q = one_of (λ (x : ℕ). (short_value x < 0x80) × (x ≡ 0x75 → ⊥)) b k h q

encode_small : (c : ℕ) → c < 0x80 → encode c ≡ c ∷ []
unfolding encode
encode_small c h = rw (lt-ltb c 0x80 h)

-- a char or the closing mark has a byte
pub char_within : (s : List ℕ) (i : ℕ) (cs : List Char) (r : List ℕ) → View s i cs r → i < length s
char_within s i cs r (at_close l e q) = l
char_within s i cs r (at_byte ds l e q d) = l
char_within s i cs r (at_short ds l g h q d) = omega arith
char_within s i cs r (at_hex ds l g h ha hb hc hd q d) = omega arith

module _ (s : List ℕ) (i : ℕ) (p : EscapeAt s i) where
  view_here : AtEscape s i p.inside.chars p.inside.rest
  view_here = at_escape s i p.inside.chars p.inside.rest p.backslash p.inside.reads

  -- The position after the backslash of an escape is below the text's length.
  pub letter_within : i + 1 < length s
  letter_within = go (view_here)
    where
      go : AtEscape s i p.inside.chars p.inside.rest → i + 1 < length s
      go (two ds l e q d) = l
      go (six ds h x q d) = let w = x.within in omega arith

  -- Where the byte after the backslash of an escape is no `u`, it is one of those that may follow a backslash on their own.
  pub is_short_there : (get_or s (i + 1) 0 ≡ 0x75 → ⊥) → is_short (get_or s (i + 1) 0) ≡ true
  is_short_there n = go view_here
    where
      go : AtEscape s i p.inside.chars p.inside.rest → is_short (get_or s (i + 1) 0) ≡ true
      go (two ds l e q d) = e
      go (six ds h x q d) = absurd (n h)

  -- An escape with no `u` stands for the character that its second byte names, and the string goes on after two bytes.
  pub short_escapes : (get_or s (i + 1) 0 ≡ 0x75 → ⊥) → Escapes s i (i + 2) (short_value (get_or s (i + 1) 0))
  unfolding unescape
  short_escapes n =
      let k = (short_small (get_or s (i + 1) 0) (is_short_there n)).0 in
      record {
        later = omega arith;
        within = omega (arith, letter_within);
        small = omega arith;
        stands = λ c q. go c q (at_escape s i q.chars q.rest p.backslash q.reads);
      }
    where
      go : (c : List ℕ) (q : InString s i c) → AtEscape s i q.chars q.rest
          → (d : List ℕ) × (c ≡ encode (short_value (get_or s (i + 1) 0)) ++ d) × InString s (i + 2) d
      go c q (two ds l e f d) = (
        unescape ds,
        sym q.content ∙ ap unescape f ∙ rw (encode_small (short_value (get_or s (i + 1) 0)) (short_small (get_or s (i + 1) 0) (is_short_there n)).0),
        record { chars = ds; rest = q.rest; reads = d; content = refl },
      )
      go c q (six ds h x f d) = absurd (n h)

  module _ (u75 : get_or s (i + 1) 0 ≡ 0x75) where
    -- After the `u` of an escape stand four hexadecimal digits.
    pub hex_at : HexAt s (i + 2)
    hex_at = go view_here
      where
        go : AtEscape s i p.inside.chars p.inside.rest → HexAt s (i + 2)
        go (two ds l e q d) = absurd ((short_small (get_or s (i + 1) 0) e).1 u75)
        go (six ds h x q d) = x

    -- the char after it, in the string that any derivation finds here
    pub after_hex : (c : List ℕ) → InString s i c
        → (ds : List Char) × (r : List ℕ) × (c ≡ unescape (unit (hex_number (get_or s (i + 2) 0) (get_or s (i + 3) 0) (get_or s (i + 4) 0) (get_or s (i + 5) 0)) ∷ ds))
        × Chars (drop (i + 6) s) ds r
    after_hex c q = go (at_escape s i q.chars q.rest p.backslash q.reads)
      where
        go : AtEscape s i q.chars q.rest
            → (ds : List Char) × (r : List ℕ) × (c ≡ unescape
            (unit (hex_number (get_or s (i + 2) 0) (get_or s (i + 3) 0) (get_or s (i + 4) 0) (get_or s (i + 5) 0)) ∷ ds)) × Chars (drop (i + 6) s) ds r
        go (two ds l e f d) = absurd ((short_small (get_or s (i + 1) 0) e).1 u75)
        go (six ds h x f d) = (ds, q.rest, sym q.content ∙ ap unescape f, d)

    -- a \u escape that stands for its own number
    pub single_escapes : (u : ℕ) → u ≡ hex_number (get_or s (i + 2) 0) (get_or s (i + 3) 0) (get_or s (i + 4) 0) (get_or s (i + 5) 0) → u < 0x10000
        → ((ds : List Char) (r : List ℕ) → Chars (drop (i + 6) s) ds r → unescape (unit u ∷ ds) ≡ encode u ++ unescape ds)
        → Escapes s i (i + 6) u
    single_escapes u e b alone =
        let w = hex_at.within in
        record { later = omega arith; within = omega arith; small = omega arith; stands = λ c q. go c (after_hex c q) }
      where
        go : (c : List ℕ) → (ds : List Char) × (r : List ℕ) × (c
            ≡ unescape (unit (hex_number (get_or s (i + 2) 0) (get_or s (i + 3) 0) (get_or s (i + 4) 0) (get_or s (i + 5) 0)) ∷ ds)) × Chars (drop (i + 6) s) ds r
            → (d : List ℕ) × (c ≡ encode u ++ d) × InString s (i + 6) d
        go c a = (
          unescape a.0,
          a.2 ∙ ap (λ (x : ℕ). unescape (unit x ∷ a.0)) (sym e) ∙ alone a.0 a.1 a.3,
          record { chars = a.0; rest = a.1; reads = a.3; content = refl },
        )

    -- The position after a \u escape is below the text's length.
    pub next_char : i + 6 < length s
    next_char = go (after_hex p.left p.inside)
      where
        go : (ds : List Char) × (r : List ℕ) × (p.left ≡ unescape
            (unit (hex_number (get_or s (i + 2) 0) (get_or s (i + 3) 0) (get_or s (i + 4) 0) (get_or s (i + 5) 0)) ∷ ds)) × Chars (drop (i + 6) s) ds r
            → i + 6 < length s
        go a = char_within s (i + 6) a.0 a.1 (view s (i + 6) a.0 a.1 a.3)

    -- at a backslash after it stands another escape of the string
    pub next_escape : get_or s (i + 6) 0 ≡ 0x5C → EscapeAt s (i + 6)
    next_escape e =
        let a = after_hex p.left p.inside in
        record { left = unescape a.0; inside = record { chars = a.0; rest = a.1; reads = a.3; content = refl }; backslash = e }

-- two \u escapes that are no pair, and two that are
not_pair : (u v : ℕ) (ds : List Char) → is_pair u v ≡ false → unescape (unit u ∷ unit v ∷ ds) ≡ encode u ++ unescape (unit v ∷ ds)
unfolding unescape
not_pair u v ds e =
    subst (λ (x : Bool). elim x as (λ _. List ℕ) [ true ↦ encode (pair_value u v) ++ unescape ds | false ↦ encode u ++ unescape (unit v ∷ ds) ] ≡ encode u
    ++ unescape (unit v ∷ ds)) (sym e) refl

-- Two \u escapes that are a surrogate pair stand for the pair's character, and what follows them for its own content.
pub pair_unescaped : (u v : ℕ) (ds : List Char) → is_pair u v ≡ true → unescape (unit u ∷ unit v ∷ ds) ≡ encode (pair_value u v) ++ unescape ds
unfolding unescape
pair_unescaped u v ds e =
    subst (λ (x : Bool). elim x as (λ _. List ℕ) [ true ↦ encode (pair_value u v) ++ unescape ds | false ↦ encode u ++ unescape (unit v ∷ ds) ]
    ≡ encode (pair_value u v) ++ unescape ds) (sym e) refl

-- a number that is no high surrogate stands alone
high_false : (u v : ℕ) → is_high u ≡ false → is_pair u v ≡ false
unfolding is_pair
high_false u v e = rw e

low_false : (u v : ℕ) → is_low v ≡ false → is_pair u v ≡ false
unfolding is_pair
low_false u v e = by_test (is_high u) (λ h. rw h e) (λ h. rw h)

-- A \u escape of no high surrogate stands for its own number, and what follows it for its own content.
pub not_high : (u : ℕ) (ds : List Char) → is_high u ≡ false → unescape (unit u ∷ ds) ≡ encode u ++ unescape ds
unfolding unescape
not_high u [] e = sym (append-nil (encode u))
not_high u (byte b ∷ ds) e = refl
not_high u (unit v ∷ ds) e = not_pair u v ds (high_false u v e)

-- What a test of the numbers from `low` to below `end` says: it fails below and above them, and holds of them.
pub record Tests (test : ℕ → Bool) (low end : ℕ) : Type 0 where
  pub below : (u : ℕ) → u < low → test u ≡ false
  pub above : (u : ℕ) → end ≤ u → test u ≡ false
  pub in_range : (u : ℕ) → low ≤ u → u < end → test u ≡ true

between_tests : (low high : ℕ) → low ≤ high → Tests (between low high) low (high + 1)
unfolding between
between_tests low high o =
    record {
      below = λ u h. rw (lt-leb low u h);
      above = λ u h. let a : low ≤ u = omega arith in let b : high < u = omega arith in rw (le-leb low u a, lt-leb u high b);
      in_range = λ u a h. let b : u ≤ high = omega arith in rw (le-leb low u a, le-leb u high b);
    }

-- The high surrogates are the numbers from D800 to below DC00.
pub high_range : Tests is_high 0xD800 0xDC00
unfolding is_high
high_range = between_tests 0xD800 0xDBFF (omega arith)

-- The low surrogates are the numbers from DC00 to below E000.
pub low_range : Tests is_low 0xDC00 0xE000
unfolding is_low
low_range = between_tests 0xDC00 0xDFFF (omega arith)

in_pair : (u v : ℕ) → is_high u ≡ true → is_low v ≡ true → is_pair u v ≡ true
unfolding is_pair
in_pair u v a b = rw (a, b)

-- A high surrogate's escape at i, by what follows it.
module _ (s : List ℕ) (i u : ℕ) (p : HighAt s i u) where
  high_small : u < 0x10000
  high_small = let h = p.high in omega arith

  -- what follows, where it is no pair's second half
  alone : ((ds : List Char) (r : List ℕ) → View s (i + 6) ds r → unescape (unit u ∷ ds) ≡ encode u ++ unescape ds) → Escapes s i (i + 6) u
  alone f = single_escapes s i p.escape p.letter u p.number high_small (λ ds r d. f ds r (view s (i + 6) ds r d))

  nothing : (ds : List Char) → ds ≡ [] → unescape (unit u ∷ ds) ≡ encode u ++ unescape ds
  unfolding unescape
  nothing ds e = rw e (sym (append-nil (encode u)))

  a_byte : (b : ℕ) (ds es : List Char) → ds ≡ byte b ∷ es → unescape (unit u ∷ ds) ≡ encode u ++ unescape ds
  unfolding unescape
  a_byte b ds es e = rw e

  a_unit : (v : ℕ) (ds es : List Char) → is_pair u v ≡ false → ds ≡ unit v ∷ es → unescape (unit u ∷ ds) ≡ encode u ++ unescape ds
  a_unit v ds es n e = rw e (not_pair u v es n)

  -- alone where no escape follows, or a two-character one
  pub alone_plain : (get_or s (i + 6) 0 ≡ 0x5C → ⊥) → Escapes s i (i + 6) u
  alone_plain n = alone go
    where
      go : (ds : List Char) (r : List ℕ) → View s (i + 6) ds r → unescape (unit u ∷ ds) ≡ encode u ++ unescape ds
      go ds r (at_close l e q) = nothing ds q
      go ds r (at_byte es l e q d) = a_byte (get_or s (i + 6) 0) ds es q
      go ds r (at_short es l g h q d) = absurd (n g)
      go ds r (at_hex es l g h ha hb hc hd q d) = absurd (n g)

  -- A high surrogate's escape stands for its own number where the second byte after it is no `u`.
  pub alone_short : (get_or s (i + 6 + 1) 0 ≡ 0x75 → ⊥) → Escapes s i (i + 6) u
  alone_short n = alone go
    where
      go : (ds : List Char) (r : List ℕ) → View s (i + 6) ds r → unescape (unit u ∷ ds) ≡ encode u ++ unescape ds
      go ds r (at_close l e q) = nothing ds q
      go ds r (at_byte es l e q d) = a_byte (get_or s (i + 6) 0) ds es q
      go ds r (at_short es l g h q d) = a_byte (short_value (get_or s (i + 6 + 1) 0)) ds es q
      go ds r (at_hex es l g h ha hb hc hd q d) = absurd (n h)

  module _ (v : ℕ) (q : v ≡ hex_number (get_or s (i + 6 + 2) 0) (get_or s (i + 6 + 3) 0) (get_or s (i + 6 + 4) 0) (get_or s (i + 6 + 5) 0)) where
    -- The same where the digits of a \u escape directly after it would make up no low surrogate.
    pub alone_unit : is_low v ≡ false → Escapes s i (i + 6) u
    alone_unit n = alone go
      where
        go : (ds : List Char) (r : List ℕ) → View s (i + 6) ds r → unescape (unit u ∷ ds) ≡ encode u ++ unescape ds
        go ds r (at_close l e f) = nothing ds f
        go ds r (at_byte es l e f d) = a_byte (get_or s (i + 6) 0) ds es f
        go ds r (at_short es l g h f d) = a_byte (short_value (get_or s (i + 6 + 1) 0)) ds es f
        go ds r (at_hex es l g h ha hb hc hd f d) = a_unit v ds es (low_false u v n) (f ∙ ap (λ (x : ℕ). unit x ∷ es) (sym q))

    -- With a low surrogate's escape directly after it, both stand for the pair's character, and the string goes on after both.
    pub pair_escapes : get_or s (i + 6) 0 ≡ 0x5C → get_or s (i + 6 + 1) 0 ≡ 0x75 → 0xDC00 ≤ v → v < 0xE000
        → Escapes s i (i + 6 + 6) (0x10000 + (u - 0xD800) * 0x400 + (v - 0xDC00))
    unfolding pair_value
    pair_escapes e f a b =
        let h = p.high in
        let w = (hex_at s (i + 6) second f).within in
        record { later = omega arith; within = omega arith; small = omega arith; stands = λ c r. go c (after_hex s i p.escape p.letter c r) }
      where
        second : EscapeAt s (i + 6)
        second = next_escape s i p.escape p.letter e

        go : (c : List ℕ) → (ds : List Char) × (r : List ℕ) × (c
            ≡ unescape (unit (hex_number (get_or s (i + 2) 0) (get_or s (i + 3) 0) (get_or s (i + 4) 0) (get_or s (i + 5) 0)) ∷ ds)) × Chars (drop (i + 6) s) ds r
            → (d : List ℕ) × (c ≡ encode (0x10000 + (u - 0xD800) * 0x400 + (v - 0xDC00)) ++ d) × InString s (i + 6 + 6) d
        go c x = more (at_escape s (i + 6) x.0 x.1 e x.3)
          where
            more : AtEscape s (i + 6) x.0 x.1 → (d : List ℕ) × (c ≡ encode (0x10000 + (u - 0xD800) * 0x400 + (v - 0xDC00)) ++ d)
                × InString s (i + 6 + 6) d
            more (two ds l k m d) = absurd ((short_small (get_or s (i + 6 + 1) 0) k).1 f)
            more (six ds k g m d) = (
              unescape ds,
              x.2 ∙ ap (λ (y : ℕ). unescape (unit y ∷ x.0)) (sym p.number)
                  ∙ ap (λ (l : List Char). unescape (unit u ∷ l)) (m ∙ ap (λ (y : ℕ). unit y ∷ ds) (sym q))
                  ∙ pair_unescaped u v ds (in_pair u v (high_range.in_range u p.low p.high) (low_range.in_range v a b)),
              record { chars = ds; rest = x.1; reads = d; content = refl },
            )

-- a hexadecimal digit stands for a number below 16
pub hex_small : (b n : ℕ) → is_hex b ≡ true → n ≡ hex_value b → n < 16
unfolding hex_value
hex_small b n e q = ⊎_elim digit (⊎_elim upper lower) (hex_cases b e)
  where
    digit : (0x30 ≤ b) × (b ≤ 0x39) → n < 16
    digit h = let f : n ≡ b - 0x30 = q ∙ rw (hex_value, le-leb b 0x39 h.1) in omega arith

    upper : (0x41 ≤ b) × (b ≤ 0x46) → n < 16
    upper h = let l : 0x39 < b = omega arith in let f : n ≡ b - 0x37 = q ∙ rw (hex_value, lt-leb b 0x39 l, le-leb b 0x46 h.1) in omega arith

    lower : (0x61 ≤ b) × (b ≤ 0x66) → n < 16
    lower h = let l : 0x39 < b = omega arith in let m : 0x46 < b = omega arith in
        let f : n ≡ b - 0x57 = q ∙ rw (hex_value, lt-leb b 0x39 l, lt-leb b 0x46 m) in omega arith

-- four digits two bytes after `at`, counted from there and counted from `at`
pub from_letter : (s : List ℕ) (at v : ℕ) → v ≡ hex_number (get_or s (at + 2) 0) (get_or s (at + 2 + 1) 0) (get_or s (at + 2 + 2) 0) (get_or s (at + 2 + 3) 0)
    → v ≡ hex_number (get_or s (at + 2) 0) (get_or s (at + 3) 0) (get_or s (at + 4) 0) (get_or s (at + 5) 0)
from_letter s at v e = e ∙ rw (add_assoc at 2 1, add_assoc at 2 2, add_assoc at 2 3)
