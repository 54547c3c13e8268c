-- What the scan of a token says of the value that it is.
use Rattle.std.specs.Prelude.{Result, Ok, Err}
use Prim.Native.Nat.{ℕ, ◌+◌, ◌-◌, ◌<◌, ◌≤◌}
use mathlib.Core.Path.{◌≡◌, refl, sym, ap, ap₂, subst, ◌∙◌}
use mathlib.Core.List.{List, [], ◌∷◌}
use mathlib.Core.Bool.{Bool, true, false, cond}
use native.Mathlib.Numerals.{add-one}
use borrow.Author.Tests.{eq-eqb, ne_eqb}
use lib.ListN.{length, drop, get_or, length-drop, drop_of_length-le}
use lib.Seq.{drop-cons}
use Rattle.text_json.specs.Syntax.{Syntax, Char, Numeral}
use Rattle.text_json.specs.Read.{Read, found, stuck, and_then, read_scalar, read_string, read_number, read_word}
use Rattle.text_json.specs.Content.{refused_string, refused_number}
use Rattle.text_json.specs.Size.{string_size, numeral_size}
use Rattle.text_json.specs.Scan.{At, Steps, ScansToken as TokenScans}
use Rattle.text_json.specs.declared.Token.{Token}
use Rattle.text_content.specs.Value.{content}
use Rattle.text_content.specs.Canonical.{canonical, ordered, sorted, write}
use Rattle.text_content.specs.Fault.{mark, string_fault, number_fault, key_fault}
use Rattle.text_tokens.specs.Summary.{summary, plain_summary, own_key_count}
use Rattle.text_tokens.specs.Scanned.{ScansValue, literal_answer, token_told, token_answer}
use Rattle.text_tokens.specs.declared.ScannedValue.{ScannedValue}

-- a fault's mark is what the code keeps of it
pub mark_at : (f : Bool) (s : List ℕ) (at : ℕ) → mark f (drop at s) ≡ cond f (length s - at) 0
unfolding mark
mark_at true s at = length-drop at s
mark_at false s at = refl

-- what is held of a token, by what its scan says
held : {A : Type 0} (refused : A → Bool) (size : A → ℕ) (tree : A → Syntax) (p q : ℕ) (a : A) (f : Bool) (n : ℕ) → f ≡ refused a → n ≡ size a
    → summary (tree a) ≡ record { string = cond (refused a) p 0; number = cond (refused a) q 0; key = 0; size = size a; ordered = true }
    → record { string = cond f p 0; number = cond f q 0; key = 0; size = n; ordered = true } ≡ summary (tree a)
held refused size tree p q a f n e k h =
    ap₂ (λ (g : Bool) (m : ℕ). record { string = cond g p 0; number = cond g q 0; key = 0; size = m; ordered = true }) e k ∙ sym h

no_fault : (f : Bool) → ◌≡◌ {A = ℕ} (cond f 0 0) 0
no_fault true = refl
no_fault false = refl

token_value : {A : Type 0} (refused : A → Bool) (size : A → ℕ) (tree : A → Syntax) (p q : ℕ)
    → ((a : A) → (summary (tree a) ≡ record { string = cond (refused a) p 0; number = cond (refused a) q 0; key = 0; size = size a; ordered = true })
    × (own_key_count (tree a) ≡ 0))
    → (s : List ℕ) (x : Read A) (w : Result Token ℕ) → TokenScans refused size s x w → ScansValue s (and_then x (λ a r. found (tree a) r)) (token_answer w p q)
unfolding and_then
token_value refused size tree p q h s (found a r) (Ok t) k = go t.refused t.end t.size k
  where
    go : (f : Bool) (e n : ℕ) → At s e r × (f ≡ refused a) × (n ≡ size a) → ScansValue s (found (tree a) r) (token_told f e n p q)
    go true e n k = (k.0, held refused size tree p q a true n k.1 k.2 (h a).0, sym (h a).1)
    go false e n k = (k.0, held refused size tree p q a false n k.1 k.2 (h a).0, sym (h a).1)
token_value refused size tree p q h s (found a r) (Err e) k = absurd k
token_value refused size tree p q h s (stuck r) (Ok t) k = absurd k
token_value refused size tree p q h s (stuck r) (Err e) k = k

string_summary : (s : List ℕ) (at : ℕ) (cs : List Char)
    → (summary (Syntax.string (drop at s) cs)
    ≡ record { string = cond (refused_string cs) (length s - at) 0; number = cond (refused_string cs) 0 0; key = 0; size = string_size cs; ordered = true })
    × (own_key_count (Syntax.string (drop at s) cs) ≡ 0)
unfolding summary string_fault number_fault key_fault content canonical ordered sorted write string_size own_key_count
string_summary s at cs = (
  ap₂ (λ (k m : ℕ). record { string = k; number = m; key = 0; size = string_size cs; ordered = true }) (mark_at (refused_string cs) s at)
      (sym (no_fault (refused_string cs))),
  refl,
)

number_summary : (s : List ℕ) (at : ℕ) (m : Numeral)
    → (summary (Syntax.number (drop at s) m)
    ≡ record { string = cond (refused_number m) 0 0; number = cond (refused_number m) (length s - at) 0; key = 0; size = numeral_size m; ordered = true })
    × (own_key_count (Syntax.number (drop at s) m) ≡ 0)
unfolding summary string_fault number_fault key_fault content canonical ordered sorted write numeral_size own_key_count
number_summary s at m = (
  ap₂ (λ (k n : ℕ). record { string = k; number = n; key = 0; size = numeral_size m; ordered = true })
      (sym (no_fault (refused_number m))) (mark_at (refused_number m) s at),
  refl,
)

module _ (s : List ℕ) (at : ℕ) (w : Result Token ℕ) where
  -- A string that is scanned is a value, with a fault by question 4 if it is refused; where scanning it is stuck, so is scanning the value.
  pub string_answer : TokenScans refused_string string_size s (read_string (drop at s)) w
      → ScansValue s (and_then (read_string (drop at s)) (λ cs q. found (Syntax.string (drop at s) cs) q)) (token_answer w (length s - at) 0)
  string_answer = token_value refused_string string_size (Syntax.string (drop at s)) _ _ (string_summary s at) s _ w

  -- A number that is scanned is a value, with a fault by question 5 if it is refused; where scanning it is stuck, so is scanning the value.
  pub number_answer : TokenScans refused_number numeral_size s (read_number (drop at s)) w
      → ScansValue s (and_then (read_number (drop at s)) (λ m q. found (Syntax.number (drop at s) m) q)) (token_answer w 0 (length s - at))
  number_answer = token_value refused_number numeral_size (Syntax.number (drop at s)) _ _ (number_summary s at) s _ w

-- a literal name
pub word_literal : (s : List ℕ) (x : Read (Unit {0})) (t : Syntax) (n : ℕ) (w : Result ℕ ℕ)
    → (summary t ≡ plain_summary n) × (own_key_count t ≡ 0) → Steps s x w → ScansValue s (and_then x (λ _ q. found t q)) (literal_answer w n)
unfolding and_then
word_literal s (found u r) t n (Ok e) h p = (p, sym h.0, sym h.1)
word_literal s (found u r) t n (Err e) h p = absurd p
word_literal s (stuck r) t n (Ok e) h p = absurd p
word_literal s (stuck r) t n (Err e) h p = p

-- which case of a scalar it is, by its first byte
of_string : (b : ℕ) (q : List ℕ) → b ≡ 0x22 → read_scalar (b ∷ q) ≡ and_then (read_string (b ∷ q)) (λ cs r. found (Syntax.string (b ∷ q) cs) r)
unfolding read_scalar read_string
of_string b q e = rw (eq-eqb b 0x22 e, read_scalar) (rw (eq-eqb b 0x22 e, read_string))

of_null : (b : ℕ) (q : List ℕ) → b ≡ 0x6E → read_scalar (b ∷ q) ≡ and_then (read_word (0x75 ∷ 0x6C ∷ 0x6C ∷ []) q) (λ _ r. found Syntax.null r)
unfolding read_scalar
of_null b q e = rw e

of_true : (b : ℕ) (q : List ℕ) → b ≡ 0x74 → read_scalar (b ∷ q) ≡ and_then (read_word (0x72 ∷ 0x75 ∷ 0x65 ∷ []) q) (λ _ r. found (Syntax.boolean true) r)
unfolding read_scalar
of_true b q e = rw e

of_false : (b : ℕ) (q : List ℕ) → b ≡ 0x66 → read_scalar (b ∷ q) ≡ and_then (read_word (0x61 ∷ 0x6C ∷ 0x73 ∷ 0x65 ∷ []) q) (λ _ r. found (Syntax.boolean false) r)
unfolding read_scalar
of_false b q e = rw e

of_number : (b : ℕ) (q : List ℕ) → (b ≡ 0x22 → ⊥) → (b ≡ 0x6E → ⊥) → (b ≡ 0x74 → ⊥) → (b ≡ 0x66 → ⊥)
    → read_scalar (b ∷ q) ≡ and_then (read_number (b ∷ q)) (λ n r. found (Syntax.number (b ∷ q) n) r)
unfolding read_scalar
of_number b q e f g h = rw (ne_eqb b 0x22 e, read_scalar) (rw (ne_eqb b 0x6E f) (rw (ne_eqb b 0x74 g) (rw (ne_eqb b 0x66 h))))

-- the rest from a position on, by its first byte
pub here : (s : List ℕ) (at : ℕ) → at < length s → drop at s ≡ get_or s at 0 ∷ drop (at + 1) s
here s at w = drop-cons s at 0 w ∙ ap (λ (n : ℕ). get_or s at 0 ∷ drop n s) (sym (add-one at))

-- The value `null` has no fault, a canonical form of four bytes and no keys.
pub summary_null : (summary Syntax.null ≡ plain_summary 4) × (own_key_count Syntax.null ≡ 0)
unfolding summary string_fault number_fault key_fault content canonical ordered sorted write own_key_count
summary_null = (refl, refl)

-- The value `true` has no fault, a canonical form of four bytes and no keys.
pub summary_true : (summary (Syntax.boolean true) ≡ plain_summary 4) × (own_key_count (Syntax.boolean true) ≡ 0)
unfolding summary string_fault number_fault key_fault content canonical ordered sorted write own_key_count
summary_true = (refl, refl)

-- The value `false` has no fault, a canonical form of five bytes and no keys.
pub summary_false : (summary (Syntax.boolean false) ≡ plain_summary 5) × (own_key_count (Syntax.boolean false) ≡ 0)
unfolding summary string_fault number_fault key_fault content canonical ordered sorted write own_key_count
summary_false = (refl, refl)

module _ (s : List ℕ) (at : ℕ) where
  -- At the end of the text scanning a scalar is stuck.
  pub scalar_end : length s ≤ at → at ≤ length s → ScansValue s (read_scalar (drop at s)) (Err at)
  unfolding read_scalar
  scalar_end h k = rw (drop_of_length-le s {i = at} h) (k, sym (drop_of_length-le s {i = at} h))

  module _ (w : at < length s) (x : Result ScannedValue ℕ) where
    -- At a quotation mark the scan of a string value is the scan of a scalar.
    pub scalar_string : get_or s at 0 ≡ 0x22 → ScansValue s (and_then (read_string (drop at s)) (λ cs q. found (Syntax.string (drop at s) cs) q)) x
        → ScansValue s (read_scalar (drop at s)) x
    scalar_string e p =
        rw (here s at w) (subst (λ (y : Read Syntax). ScansValue s y x) (sym (of_string (get_or s at 0) (drop (at + 1) s) e)) (rw (here s at w) at p))

    -- At a byte other than a quotation mark, `n`, `t` and `f` the scan of a number value is the scan of a scalar.
    pub scalar_number : (get_or s at 0 ≡ 0x22 → ⊥) → (get_or s at 0 ≡ 0x6E → ⊥) → (get_or s at 0 ≡ 0x74 → ⊥) → (get_or s at 0 ≡ 0x66 → ⊥)
        → ScansValue s (and_then (read_number (drop at s)) (λ n q. found (Syntax.number (drop at s) n) q)) x → ScansValue s (read_scalar (drop at s)) x
    scalar_number e f g h p =
        rw (here s at w) (subst (λ (y : Read Syntax). ScansValue s y x) (sym (of_number (get_or s at 0) (drop (at + 1) s) e f g h)) (rw (here s at w) at p))

  module _ (w : at < length s) (v : Result ℕ ℕ) (x : Result ScannedValue ℕ) where
    -- At the letter `n` the step over `ull` answers for a scalar: a value of four bytes, or where reading is stuck.
    pub scalar_null : get_or s at 0 ≡ 0x6E → Steps s (read_word (0x75 ∷ 0x6C ∷ 0x6C ∷ []) (drop (at + 1) s)) v
        → x ≡ literal_answer v 4 → ScansValue s (read_scalar (drop at s)) x
    scalar_null e p f =
        rw (f, here s at w, of_null (get_or s at 0) (drop (at + 1) s) e)
        (word_literal s (read_word (0x75 ∷ 0x6C ∷ 0x6C ∷ []) (drop (at + 1) s)) Syntax.null 4 v summary_null p)

    -- At the letter `t` the step over `rue` answers for a scalar: a value of four bytes, or where reading is stuck.
    pub scalar_true : get_or s at 0 ≡ 0x74 → Steps s (read_word (0x72 ∷ 0x75 ∷ 0x65 ∷ []) (drop (at + 1) s)) v
        → x ≡ literal_answer v 4 → ScansValue s (read_scalar (drop at s)) x
    scalar_true e p f =
        rw (f, here s at w, of_true (get_or s at 0) (drop (at + 1) s) e)
        (word_literal s (read_word (0x72 ∷ 0x75 ∷ 0x65 ∷ []) (drop (at + 1) s)) (Syntax.boolean true) 4 v summary_true p)

    -- At the letter `f` the step over `alse` answers for a scalar: a value of five bytes, or where reading is stuck.
    pub scalar_false : get_or s at 0 ≡ 0x66 → Steps s (read_word (0x61 ∷ 0x6C ∷ 0x73 ∷ 0x65 ∷ []) (drop (at + 1) s)) v
        → x ≡ literal_answer v 5 → ScansValue s (read_scalar (drop at s)) x
    scalar_false e p f =
        rw (f, here s at w, of_false (get_or s at 0) (drop (at + 1) s) e)
        (word_literal s (read_word (0x61 ∷ 0x6C ∷ 0x73 ∷ 0x65 ∷ []) (drop (at + 1) s)) (Syntax.boolean false) 5 v summary_false p)
