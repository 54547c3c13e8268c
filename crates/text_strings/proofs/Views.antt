-- What stands at a position of a string, by the grammar's cases.
use Prim.Native.Nat.{ℕ, ◌+◌, ◌<◌}
use mathlib.Core.Path.{◌≡◌, refl, sym, ap, ◌∙◌}
use mathlib.Core.List.{List, [], ◌∷◌}
use mathlib.Core.Bool.{true}
use native.Mathlib.Omega.{arith}
use native.Mathlib.Nat.{add-zero}
use lib.ListN.{length, drop, get_or, length-drop}
use lib.Seq.{get_or-drop, drop-drop}
use Rattle.text_json.specs.Bytes.{is_hex, is_unescaped, is_short, short_value}
use Rattle.text_json.specs.Syntax.{Char, byte, unit}
use Rattle.text_json.specs.Grammar.{Chars, close, unescaped, short, hex, hex_number}

-- what stands from position i on, in terms of the list l that it is
module _ (s : List ℕ) (i : ℕ) (l : List ℕ) (e : drop i s ≡ l) where
  -- The byte at position `i + k` of the text is the byte at position `k` of the text from `i` on.
  pub byte_at : (k : ℕ) → get_or s (i + k) 0 ≡ get_or l k 0
  byte_at k = sym (get_or-drop i s k 0) ∙ ap (λ (m : List ℕ). get_or m k 0) e

  -- The text from `i + k` on is the text from `i` on without its first `k` bytes.
  pub rest_at : (k : ℕ) → drop (i + k) s ≡ drop k l
  rest_at k = sym (drop-drop k i s) ∙ ap (drop k) e

  -- Where `k` is below the length of the text from `i` on, `i + k` is below the text's length.
  pub below_at : (k : ℕ) → k < length l → i + k < length s
  below_at k h = omega (arith, simp length-drop at (ap length e))

-- The cases of a string at position i, with the bytes that stand there.
pub data View (s : List ℕ) (i : ℕ) (cs : List Char) (r : List ℕ) : Type 0 where
  at_close : i < length s → get_or s i 0 ≡ 0x22 → cs ≡ [] → View s i cs r
  at_byte : (ds : List Char) → i < length s → is_unescaped (get_or s i 0) ≡ true → cs ≡ byte (get_or s i 0) ∷ ds
      → Chars (drop (i + 1) s) ds r → View s i cs r
  at_short : (ds : List Char) → i + 1 < length s → get_or s i 0 ≡ 0x5C → is_short (get_or s (i + 1) 0) ≡ true
      → cs ≡ byte (short_value (get_or s (i + 1) 0)) ∷ ds → Chars (drop (i + 2) s) ds r → View s i cs r
  at_hex : (ds : List Char) → i + 5 < length s → get_or s i 0 ≡ 0x5C → get_or s (i + 1) 0 ≡ 0x75
      → is_hex (get_or s (i + 2) 0) ≡ true → is_hex (get_or s (i + 3) 0) ≡ true → is_hex (get_or s (i + 4) 0) ≡ true → is_hex (get_or s (i + 5) 0) ≡ true
      → cs ≡ unit (hex_number (get_or s (i + 2) 0) (get_or s (i + 3) 0) (get_or s (i + 4) 0) (get_or s (i + 5) 0)) ∷ ds
      → Chars (drop (i + 6) s) ds r → View s i cs r

view_of : (s : List ℕ) (i : ℕ) (l : List ℕ) (cs : List Char) (r : List ℕ) → drop i s ≡ l → Chars l cs r → View s i cs r
view_of s i l cs r e (close {q = q} {s = m} h) = at_close (rw add-zero at (below_at s i (q ∷ m) e 0 (omega arith))) (rw add-zero at (byte_at s i (q ∷ m) e 0)
    ∙ h) refl
view_of s i l cs r e (unescaped {b = b} {s = m} {cs = ds} h d) =
    let q : get_or s i 0 ≡ b = rw add-zero at (byte_at s i (b ∷ m) e 0) in
    at_byte ds (rw add-zero at (below_at s i (b ∷ m) e 0 (omega arith))) (ap is_unescaped q
    ∙ h) (ap (λ (x : ℕ). byte x ∷ ds) (sym q)) (rw (rest_at s i (b ∷ m) e 1) d)
view_of s i l cs r e (short {e = x} {b = b} {s = m} {cs = ds} g h d) =
    let q : get_or s (i + 1) 0 ≡ b = byte_at s i (x ∷ b ∷ m) e 1 in
    at_short ds (below_at s i (x ∷ b ∷ m) e 1 (omega arith)) (rw add-zero at (byte_at s i (x ∷ b ∷ m) e 0) ∙ g) (ap is_short q
    ∙ h) (ap (λ (y : ℕ). byte (short_value y) ∷ ds) (sym q)) (rw (rest_at s i (x ∷ b ∷ m) e 2) d)
view_of s i l cs r e (hex {e = x} {u = u} {a = a} {b = b} {c = c} {d = d} {s = m} {cs = ds} g h ha hb hc hd f) =
    let n : List ℕ = x ∷ u ∷ a ∷ b ∷ c ∷ d ∷ m in
    at_hex ds (below_at s i n e 5 (omega arith)) (rw add-zero at (byte_at s i n e 0) ∙ g) (byte_at s i n e 1 ∙ h)
    (ap is_hex (byte_at s i n e 2) ∙ ha) (ap is_hex (byte_at s i n e 3) ∙ hb) (ap is_hex (byte_at s i n e 4) ∙ hc) (ap is_hex (byte_at s i n e 5) ∙ hd)
    (rw (byte_at s i n e 2, byte_at s i n e 3, byte_at s i n e 4, byte_at s i n e 5) refl) (rw (rest_at s i n e 6) f)

-- Where the chars of a string go on at a position, one of the grammar's cases stands there.
pub view : (s : List ℕ) (i : ℕ) (cs : List Char) (r : List ℕ) → Chars (drop i s) cs r → View s i cs r
view s i cs r d = view_of s i (drop i s) cs r refl d
