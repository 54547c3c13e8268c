-- Going on in a string of the text, over one char or over a run of bytes that neither end it nor begin an escape.
use Prim.Native.Nat.{ℕ, zero, suc, ◌+◌, ◌≤◌}
use mathlib.Core.Path.{◌≡◌, refl, sym, ap, ◌∙◌}
use mathlib.Core.List.{List, ◌∷◌}
use mathlib.Core.Bool.{true}
use native.Mathlib.Omega.{arith}
use native.Mathlib.Nat.{add-zero}
use lib.ListN.{length, take, drop, get_or, length-drop}
use Rattle.text_json.specs.Bytes.{is_unescaped}
use Rattle.text_json.specs.Syntax.{Char}
use Rattle.text_json.specs.Grammar.{Chars, String}
use Rattle.text_json.specs.Content.{unescape}
use Rattle.text_chars.specs.Measure.{is_unmarked, every, unmarked_run}
use Rattle.text_chars.proofs.Plain.{unmarked_at, unmarked_parts}
use Rattle.text_json.proofs.Grammar.Bytes.{both_ways}
use Rattle.text_strings.specs.InString.{Inside, EscapeAt}
use Rattle.text_strings.proofs.Views.{View, at_close, at_byte, at_short, at_hex, view}
use Rattle.text_strings.proofs.Escapes.{AtEscape, two, six, at_escape, short_small}
use Rattle.text_strings.proofs.Cursors.{inside_within}
use Rattle.text_view.specs.Place.{StringEndsAt, CharEndsAt}
use Rattle.text_view.proofs.Values.{begins}

-- some string's chars go on at position i
pub chars_inside : (s : List ℕ) (i : ℕ) (cs : List Char) (r : List ℕ) → Chars (drop i s) cs r → Inside s i
chars_inside s i cs r d = record { bytes = unescape cs; here = record { chars = cs; rest = r; reads = d; content = refl } }

-- the chars of a string stand after its quotation mark
string_after : (s : List ℕ) (p : ℕ) (l : List ℕ) (cs : List Char) (r : List ℕ) → drop p s ≡ l → String l cs r → Chars (drop (p + 1) s) cs r
string_after s p l cs r e (String.quoted {q = b} {s = m} f k) = rw (begins s p b m e).next k

-- The chars of a string stand from the position after its quotation mark on.
pub string_chars : (s : List ℕ) (p : ℕ) (cs : List Char) (r : List ℕ) → String (drop p s) cs r → Chars (drop (p + 1) s) cs r
string_chars s p cs r k = string_after s p (drop p s) cs r refl k

-- Each string whose chars go on at position i does so at position e too.
abbrev pub Onward : List ℕ → ℕ → ℕ → Type 0
Onward s i e = (cs : List Char) (r : List ℕ) → Chars (drop i s) cs r → (ds : List Char) × Chars (drop e s) ds r

-- Position i is reached from position `from`, and is not before it.
pub record Reaches (s : List ℕ) (from i : ℕ) : Type 0 where
  pub later : from ≤ i
  pub inside : Inside s i
  pub rest : Onward s from i

-- A position inside a string is reached from itself.
pub reaches_start : (s : List ℕ) (from : ℕ) → Inside s from → Reaches s from from
reaches_start s from p = record { later = omega arith; inside = p; rest = λ cs r d. (cs, d) }

-- a byte that is neither of the marks is a char
byte_passed : (s : List ℕ) (i : ℕ) → (get_or s i 0 ≡ 0x22 → ⊥) → (get_or s i 0 ≡ 0x5C → ⊥) → Onward s i (i + 1)
byte_passed s i a b cs r d = go (view s i cs r d)
  where
    go : View s i cs r → (ds : List Char) × Chars (drop (i + 1) s) ds r
    go (at_close l e f) = absurd (a e)
    go (at_byte ds l e f h) = (ds, h)
    go (at_short ds l g h f k) = absurd (b g)
    go (at_hex ds l g h ha hb hc hd f k) = absurd (b g)

-- n bytes that are neither of the marks
module _ (s : List ℕ) (i n : ℕ) (e : unmarked_run n (drop i s) ≡ true) where
  parts : (n ≤ length (drop i s)) × (every is_unmarked (take n (drop i s)) ≡ true)
  parts = unmarked_parts n (drop i s) e

  -- A run of `n` bytes that are no quotation mark and no backslash ends within the text.
  pub run_fits : i ≤ length s → i + n ≤ length s
  run_fits h = let l = rw (length-drop i s) at parts.0 in omega arith

  upto : (m : ℕ) → m ≤ n → Onward s i (i + m)
  upto zero h cs r d = (cs, rw (add-zero i) d)
  upto (suc m) h cs r d =
      let k = upto m (omega arith) cs r d in
      let w = unmarked_at s i n parts.0 parts.1 m (omega arith) in
      let q : i + m + 1 ≡ i + suc m = omega arith in
      rw q at (byte_passed s (i + m) w.0 w.1 k.0 r k.1)

  run_passed : Onward s i (i + n)
  run_passed = upto n (omega arith)

-- an escape takes six bytes where a u follows the backslash, and two elsewhere
module _ (s : List ℕ) (i : ℕ) (p : EscapeAt s i) where
  here : AtEscape s i p.inside.chars p.inside.rest
  here = at_escape s i p.inside.chars p.inside.rest p.backslash p.inside.reads

  -- An escape with a `u` after its backslash ends after six bytes.
  pub escape_six : get_or s (i + 1) 0 ≡ 0x75 → CharEndsAt s i (i + 6)
  escape_six u = record { later = omega arith; within = fits here; rest = λ cs r d. go cs r (at_escape s i cs r p.backslash d) }
    where
      fits : {cs : List Char} {r : List ℕ} → AtEscape s i cs r → i + 6 ≤ length s
      fits (two ds l e f d) = absurd ((short_small (get_or s (i + 1) 0) e).1 u)
      fits (six ds h x f d) = let w = x.within in omega arith

      go : (cs : List Char) (r : List ℕ) → AtEscape s i cs r → (c : Char) × (ds : List Char) × (cs ≡ c ∷ ds) × Chars (drop (i + 6) s) ds r
      go cs r (two ds l e f d) = absurd ((short_small (get_or s (i + 1) 0) e).1 u)
      go cs r (six ds h x f d) = (_, ds, f, d)

  -- An escape with no `u` after its backslash ends after two bytes.
  pub escape_two : (get_or s (i + 1) 0 ≡ 0x75 → ⊥) → CharEndsAt s i (i + 2)
  escape_two n = record { later = omega arith; within = fits here; rest = λ cs r d. go cs r (at_escape s i cs r p.backslash d) }
    where
      fits : {cs : List Char} {r : List ℕ} → AtEscape s i cs r → i + 2 ≤ length s
      fits (two ds l e f d) = omega arith
      fits (six ds h x f d) = absurd (n h)

      go : (cs : List Char) (r : List ℕ) → AtEscape s i cs r → (c : Char) × (ds : List Char) × (cs ≡ c ∷ ds) × Chars (drop (i + 2) s) ds r
      go cs r (two ds l e f d) = (_, ds, f, d)
      go cs r (six ds h x f d) = absurd (n h)

-- the closing quotation mark
closed : (s : List ℕ) (i : ℕ) (l : List ℕ) (cs : List Char) (r : List ℕ) → drop i s ≡ l → get_or s i 0 ≡ 0x22 → Chars l cs r → r ≡ drop (i + 1) s
unfolding is_unescaped
closed s i l cs r e q (Chars.close {q = b} {s = m} h) = sym (begins s i b m e).next
closed s i l cs r e q (Chars.unescaped {b = b} {s = m} h d) = both_ways h (ap is_unescaped (sym (begins s i b m e).byte ∙ q))
closed s i l cs r e q (Chars.short {e = x} {b = b} {s = m} g h d) = let k = (begins s i x (b ∷ m) e).byte in absurd (omega arith)
closed s i l cs r e q (Chars.hex {e = x} {u = u} {a = a} {b = b} {c = c} {d = d} {s = m} g h ha hb hc hd k) =
    let j = (begins s i x (u ∷ a ∷ b ∷ c ∷ d ∷ m) e).byte in absurd (omega arith)

-- what the loops keep, and how they end
module _ (s : List ℕ) (from i : ℕ) (p : Reaches s from i) where
  reaches_on : (e : ℕ) → i ≤ e → Onward s i e → Reaches s from e
  reaches_on e l on =
      let w = p.later in
      let h = p.inside.here in
      let k = on h.chars h.rest h.reads in
      record {
        later = omega arith;
        inside = chars_inside s e k.0 h.rest k.1;
        rest = λ cs r d. let j = p.rest cs r d in on j.0 r j.1;
      }

  -- Where a byte is no quotation mark and no backslash, the position after it is reached too.
  pub reaches_byte : (get_or s i 0 ≡ 0x22 → ⊥) → (get_or s i 0 ≡ 0x5C → ⊥) → Reaches s from (i + 1)
  reaches_byte a b = reaches_on (i + 1) (omega arith) (byte_passed s i a b)

  -- The position after a char of the string is reached too.
  pub reaches_char : (e : ℕ) → CharEndsAt s i e → Reaches s from e
  reaches_char e h = let l = h.later in reaches_on e (omega arith) (λ cs r d. let k = h.rest cs r d in (k.1, k.3))

  -- The position after a run of bytes that are no quotation mark and no backslash is reached too.
  pub reaches_run : (n : ℕ) → unmarked_run n (drop i s) ≡ true → Reaches s from (i + n)
  reaches_run n e = reaches_on (i + n) (omega arith) (run_passed s i n e)

  -- Where a quotation mark is reached, the string ends after it.
  pub reaches_close : get_or s i 0 ≡ 0x22 → StringEndsAt s from (i + 1)
  reaches_close e =
      let l = p.later in
      record {
        later = omega arith;
        within = omega (arith, inside_within s i p.inside);
        rest = λ cs r d. let j = p.rest cs r d in closed s i (drop i s) j.0 r refl e j.1;
      }

  -- Where the string ends that goes on at the position reached, the string from the start position ends too.
  pub reaches_end : (e : ℕ) → StringEndsAt s i e → StringEndsAt s from e
  reaches_end e h =
      let l = p.later in
      let k = h.later in
      record { later = omega arith; within = h.within; rest = λ cs r d. let j = p.rest cs r d in h.rest j.0 r j.1 }
