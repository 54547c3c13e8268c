-- Where a value ends that holds no other.
use Rattle.std.specs.Prelude.{Result, Ok, Err}
use Prim.Native.Nat.{ℕ, ◌+◌, ◌<◌, ◌≤◌}
use mathlib.Core.Path.{◌≡◌, refl, sym, ap, ◌∙◌}
use mathlib.Core.Logic.{◌⊎◌, inl, inr, ⊎_elim}
use mathlib.Core.List.{List, ◌∷◌}
use mathlib.Core.Bool.{Bool}
use native.Mathlib.Omega.{arith}
use lib.ListN.{length, drop, get_or, length-drop}
use lib.Seq.{drop-drop}
use Rattle.text_json.specs.Syntax.{Syntax, Numeral, Char}
use Rattle.text_json.specs.Grammar.{Word, Number, String, Scalar}
use Rattle.text_json.specs.Read.{Read, found, stuck, read_number}
use Rattle.text_json.specs.Content.{refused_number}
use Rattle.text_json.specs.Scan.{ScansToken}
use Rattle.text_json.specs.Size.{Within, numeral_size}
use Rattle.text_json.specs.declared.Token.{Token}
use Rattle.text_json.proofs.Grammar.Ends.{inside_length}
use Rattle.text_json.proofs.Grammar.Rests.{scalar_inside}
use Rattle.text_json.proofs.Grammar.Complete.{number_complete}
use Rattle.text_strings.specs.InString.{Inside}
use Rattle.text_view.specs.Place.{EndsAt, StringEndsAt, ScalarAt, end_of}
use Rattle.text_view.proofs.Values.{begins, Numeric, numeric, number_numeric}
use Rattle.text_view.proofs.Passing.{chars_inside, string_chars}

-- a word has as many bytes as it says
word_end : {w l r : List ℕ} → Word w l r → (r ≡ drop (length w) l) × (length w ≤ length l)
word_end Word.end = (refl, omega arith)
word_end (Word.more e p) = let h = word_end p in (h.0, omega arith)

word_at : (s : List ℕ) (at : ℕ) {l w r : List ℕ} → drop at s ≡ l → Word w l r → 0 < length w → (r ≡ drop (at + length w) s) × (at + length w ≤ length s)
word_at s at {l} {w} e p n =
    let h = word_end p in
    (h.0 ∙ ap (drop (length w)) (sym e) ∙ drop-drop (length w) at s, omega (arith, length-drop at s, ap length e))

-- The cases of a scalar by its first byte b.
pub data View (s : List ℕ) (at b : ℕ) (r : List ℕ) : Type 0 where
  at_null : b ≡ 0x6E → r ≡ drop (at + 4) s → at + 4 ≤ length s → View s at b r
  at_true : b ≡ 0x74 → r ≡ drop (at + 4) s → at + 4 ≤ length s → View s at b r
  at_false : b ≡ 0x66 → r ≡ drop (at + 5) s → at + 5 ≤ length s → View s at b r
  at_string : (cs : List Char) → b ≡ 0x22 → String (drop at s) cs r → View s at b r
  at_number : (n : Numeral) → 0x2D ≤ b → b ≤ 0x39 → Number (drop at s) n r → View s at b r

word_first : (s : List ℕ) (at : ℕ) {l : List ℕ} {w : ℕ} {ws r : List ℕ} → drop at s ≡ l → Word (w ∷ ws) l r → get_or s at 0 ≡ w
word_first s at e (Word.more {b} {s = m} q p) = (begins s at b m e).byte ∙ q

string_first : (s : List ℕ) (at : ℕ) (l : List ℕ) (cs : List Char) (r : List ℕ) → drop at s ≡ l → String l cs r → get_or s at 0 ≡ 0x22
string_first s at l cs r e (String.quoted {q = b} {s = m} q p) = (begins s at b m e).byte ∙ q

number_first : (s : List ℕ) (at : ℕ) (l : List ℕ) → drop at s ≡ l → Numeric l → (0x2D ≤ get_or s at 0) × (get_or s at 0 ≤ 0x39)
number_first s at l e (numeric b {l = m} low high) = let h = (begins s at b m e).byte in omega arith

view_of : (s : List ℕ) (at : ℕ) (l : List ℕ) (t : Syntax) (r : List ℕ) → drop at s ≡ l → Scalar l t r → View s at (get_or s at 0) r
view_of s at l t r e (Scalar.is_null p) = let h = word_at s at e p (omega arith) in at_null (word_first s at e p) h.0 h.1
view_of s at l t r e (Scalar.is_true p) = let h = word_at s at e p (omega arith) in at_true (word_first s at e p) h.0 h.1
view_of s at l t r e (Scalar.is_false p) = let h = word_at s at e p (omega arith) in at_false (word_first s at e p) h.0 h.1
view_of s at l t r e (Scalar.is_a_number {n = n} p) = let h = number_first s at l e (number_numeric p) in at_number n h.0 h.1 (rw e p)
view_of s at l t r e (Scalar.is_a_string {cs = cs} p) = at_string cs (string_first s at l cs r e p) (rw e p)

-- where a token that was found ends
module _ {A : Type 0} (refused : A → Bool) (size : A → ℕ) (s : List ℕ) where
  token_end : (scan : Result Token ℕ) (x : Read A) (a : A) (r : List ℕ) → ScansToken refused size s x scan → x ≡ found a r
      → (end_of scan ≤ length s) × (r ≡ drop (end_of scan) s)
  token_end (Ok t) (found b q) a r h p = (h.0.0, cc)
  token_end (Ok t) (stuck q) a r h p = absurd h
  token_end (Err e) (found b q) a r h p = absurd h
  token_end (Err e) (stuck q) a r h p = let z : ◌≡◌ {A = ℕ} 0 1 = cc in absurd (omega arith)

  token_later : (at : ℕ) (scan : Result Token ℕ) (x : Read A) (a : A) (r : List ℕ) → Within at scan → ScansToken refused size s x scan → x ≡ found a r
      → at < end_of scan
  token_later at (Ok t) x a r w h p = w.0
  token_later at (Err e) (found b q) a r w h p = absurd h
  token_later at (Err e) (stuck q) a r w h p = let z : ◌≡◌ {A = ℕ} 0 1 = cc in absurd (omega arith)

four : (s : List ℕ) (at b : ℕ) (r : List ℕ) → View s at b r → (b ≡ 0x6E) ⊎ (b ≡ 0x74) → (r ≡ drop (at + 4) s) × (at + 4 ≤ length s)
four s at b r (at_null e p w) k = (p, w)
four s at b r (at_true e p w) k = (p, w)
four s at b r (at_false e p w) k = ⊎_elim (λ q. absurd (omega arith)) (λ q. absurd (omega arith)) k
four s at b r (at_string cs e p) k = ⊎_elim (λ q. absurd (omega arith)) (λ q. absurd (omega arith)) k
four s at b r (at_number n l h p) k = ⊎_elim (λ q. absurd (omega arith)) (λ q. absurd (omega arith)) k

five : (s : List ℕ) (at b : ℕ) (r : List ℕ) → View s at b r → b ≡ 0x66 → (r ≡ drop (at + 5) s) × (at + 5 ≤ length s)
five s at b r (at_null e p w) k = absurd (omega arith)
five s at b r (at_true e p w) k = absurd (omega arith)
five s at b r (at_false e p w) k = (p, w)
five s at b r (at_string cs e p) k = absurd (omega arith)
five s at b r (at_number n l h p) k = absurd (omega arith)

string_here : (s : List ℕ) (at b : ℕ) (r : List ℕ) → View s at b r → b ≡ 0x22 → (cs : List Char) × String (drop at s) cs r
string_here s at b r (at_null e p w) k = absurd (omega arith)
string_here s at b r (at_true e p w) k = absurd (omega arith)
string_here s at b r (at_false e p w) k = absurd (omega arith)
string_here s at b r (at_string cs e p) k = (cs, p)
string_here s at b r (at_number n l h p) k = absurd (omega arith)

number_here : (s : List ℕ) (at b : ℕ) (r : List ℕ) → View s at b r → ((b ≡ 0x6E) ⊎ (b ≡ 0x74) → ⊥) → (b ≡ 0x66 → ⊥) → (b ≡ 0x22 → ⊥)
    → (n : Numeral) × Number (drop at s) n r
number_here s at b r (at_null e p w) i j k = absurd (i (inl e))
number_here s at b r (at_true e p w) i j k = absurd (i (inr e))
number_here s at b r (at_false e p w) i j k = absurd (j e)
number_here s at b r (at_string cs e p) i j k = absurd (k e)
number_here s at b r (at_number n l h p) i j k = (n, p)

module _ (s : List ℕ) (at : ℕ) (here : ScalarAt s at) where
  abbrev view : (t : Syntax) (r : List ℕ) → Scalar (drop at s) t r → View s at (get_or s at 0) r
  view t r p = view_of s at (drop at s) t r refl p

  abbrev seen : View s at (get_or s at 0) here.rest
  seen = view here.tree here.rest here.derives

  -- The position of a value that is neither an array nor an object is below the text's length.
  pub scalar_within : at < length s
  scalar_within = omega (arith, length-drop at s, inside_length (scalar_inside here.derives))

  -- Such a value ends after four bytes where it begins with `n` or `t`.
  pub ends_four : (get_or s at 0 ≡ 0x6E) ⊎ (get_or s at 0 ≡ 0x74) → EndsAt s at 0 (at + 4)
  ends_four k = record { later = omega arith; within = (four s at _ _ seen k).1; rest = λ t r p h. (four s at _ r (view t r p) k).0 }

  -- It ends after five bytes where it begins with `f`.
  pub ends_five : get_or s at 0 ≡ 0x66 → EndsAt s at 0 (at + 5)
  ends_five k = record { later = omega arith; within = (five s at _ _ seen k).1; rest = λ t r p h. (five s at _ r (view t r p) k).0 }

  -- Where it begins with a quotation mark, the next position is inside a string.
  pub string_inside : get_or s at 0 ≡ 0x22 → Inside s (at + 1)
  string_inside k = let p = string_here s at _ _ seen k in chars_inside s (at + 1) p.0 here.rest (string_chars s at p.0 here.rest p.1)

  -- Where it begins with a quotation mark, it ends where the string after that mark ends.
  pub ends_string : (e : ℕ) → StringEndsAt s (at + 1) e → get_or s at 0 ≡ 0x22 → EndsAt s at 0 e
  ends_string e h k =
      let l = h.later in
      record {
        later = omega arith;
        within = h.within;
        rest = λ t r q _. let p = string_here s at _ r (view t r q) k in h.rest p.0 r (string_chars s at p.0 r p.1);
      }

  -- Where it begins with none of these bytes, it ends where the number that is read there ends.
  pub ends_number : (scan : Result Token ℕ) → Within at scan → ((get_or s at 0 ≡ 0x6E) ⊎ (get_or s at 0 ≡ 0x74) → ⊥) → (get_or s at 0 ≡ 0x66 → ⊥) → (get_or s at 0 ≡ 0x22 → ⊥)
      → ScansToken refused_number numeral_size s (read_number (drop at s)) scan → EndsAt s at 0 (end_of scan)
  ends_number scan within i j k h =
      let p = number_here s at _ _ seen i j k in
      record {
        later = token_later refused_number numeral_size s at scan _ _ _ within h (number_complete p.1 here.stops);
        within = (token_end refused_number numeral_size s scan _ _ _ h (number_complete p.1 here.stops)).0;
        rest = λ t r q stops. (token_end refused_number numeral_size s scan _ _ _ h (number_complete (number_here s at _ r (view t r q) i j k).1 stops)).1;
      }
