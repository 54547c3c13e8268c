-- The rest of every reading function, found or stuck, is an end of its text.
use Prim.Native.Nat.{ℕ, ◌-◌, ◌≤◌, ◌<◌}
use mathlib.Core.Path.{◌≡◌, refl}
use mathlib.Core.List.{List, ◌∷◌}
use mathlib.Core.Bool.{false}
use lib.ListN.{length, drop}
use Rattle.text_json.specs.Bytes.{is_exp}
use Rattle.text_json.specs.Syntax.{Char, Syntax, Member}
use Rattle.text_json.specs.Grammar.{Space, Exp}
use Rattle.text_json.specs.Read.{Read, found, stuck, spaces, read_word, after_digits, read_some_digits, read_int, read_frac, read_signed, read_exp}
use Rattle.text_json.specs.Read.{read_number, Pending, read_chars, read_string, read_scalar, read_items, read_first, read_pair, read_nested, read}
use Rattle.text_json.proofs.Grammar.Ends.{Ends, after, inside_ends, inside_length, ends_length, ends_drop, ends_nil}
use Rattle.text_json.proofs.Grammar.Answer.{Answer, is_found, is_stuck, Reads}
use Rattle.text_json.proofs.Grammar.Rests.{space_ends, word_ends, digits_ends, some_digits_inside, int_inside, frac_ends, exp_ends}
use Rattle.text_json.proofs.Grammar.Rests.{number_inside, chars_inside, string_inside, scalar_inside, items_ends, listed_ends, pair_inside, pair_ends}
use Rattle.text_json.proofs.Grammar.Rests.{nested_inside, value_ends}
use Rattle.text_json.proofs.Grammar.Sound.{spaces_sound, word_reads, digits_sound, some_digits_reads, int_reads, frac_reads, signed_reads, exp_reads}
use Rattle.text_json.proofs.Grammar.Sound.{number_reads, Rest, rest_reads, string_reads, scalar_reads, items_reads, first_reads}
use Rattle.text_json.proofs.Grammar.Sound.{pair_reads, pair_sound, nested_reads, value_reads}
use Rattle.text_json.proofs.Grammar.Agree.{Whole, whole}

abbrev pub rest_of : {A : Type 0} → Read A → List ℕ
rest_of (found x r) = r
rest_of (stuck r) = r

rest_ends : {A : Type 0} {P : A → List ℕ → Type 0} {s : List ℕ} {y : Read A} → Answer P (λ r. Ends r s) y
    → ((x : A) (r : List ℕ) → P x r → Ends r s) → Ends (rest_of y) s
rest_ends (is_found p) ends = ends _ _ p
rest_ends (is_stuck q) ends = q

ends_reads : {A : Type 0} (s : List ℕ) (y : Read A) → Ends (rest_of y) s → Reads (λ s _ r. Ends r s) s y
ends_reads s (found x r) e = is_found e
ends_reads s (stuck r) e = is_stuck e

-- The rest after the white space that is skipped is an end of the text.
pub spaces_ends : (s : List ℕ) → Ends (spaces s) s
spaces_ends s = space_ends (spaces_sound s)

-- The rest after the digits at the start is an end of the text.
pub after_digits_ends : (s : List ℕ) → Ends (after_digits s) s
after_digits_ends s = digits_ends (digits_sound s)

-- The rest of reading a word, found or stuck, is an end of the text.
pub read_word_ends : (w s : List ℕ) → Ends (rest_of (read_word w s)) s
read_word_ends w s = rest_ends (word_reads w s) (λ _ _ p. word_ends p)

-- The same for reading one digit or more.
pub read_some_digits_ends : (s : List ℕ) → Ends (rest_of (read_some_digits s)) s
read_some_digits_ends s = rest_ends (some_digits_reads s) (λ _ _ p. inside_ends (some_digits_inside p))

-- The same for reading an integer part.
pub read_int_ends : (s : List ℕ) → Ends (rest_of (read_int s)) s
read_int_ends s = rest_ends (int_reads s) (λ _ _ p. inside_ends (int_inside p))

-- The same for reading a fraction, present or absent.
pub read_frac_ends : (s : List ℕ) → Ends (rest_of (read_frac s)) s
read_frac_ends s = rest_ends (frac_reads s) (λ _ _ p. frac_ends p)

signed_ends : {b : ℕ} {s r : List ℕ} → Exp (b ∷ s) false r → Ends r s
signed_ends (Exp.unsigned e p) = inside_ends (some_digits_inside p)
signed_ends (Exp.signed e f p) = after (inside_ends (some_digits_inside p))

-- The same for reading the digits of an exponent, with or without a sign.
pub read_signed_ends : (s : List ℕ) → Ends (rest_of (read_signed s)) s
unfolding is_exp
read_signed_ends s = rest_ends (signed_reads 0x65 refl s) (λ _ _ p. signed_ends p)

-- The same for reading an exponent, present or absent.
pub read_exp_ends : (s : List ℕ) → Ends (rest_of (read_exp s)) s
read_exp_ends s = rest_ends (exp_reads s) (λ _ _ p. exp_ends p)

-- The same for reading a number.
pub read_number_ends : (s : List ℕ) → Ends (rest_of (read_number s)) s
read_number_ends s = rest_ends (number_reads s) (λ _ _ p. inside_ends (number_inside p))

pending_ends : {p : Pending} {s r : List ℕ} {cs : List Char} → Rest p s cs r → Ends r s
pending_ends (Rest.chars p) = inside_ends (chars_inside p)
pending_ends (Rest.short e p) = after (inside_ends (chars_inside p))
pending_ends (Rest.unicode e p) = after (pending_ends p)
pending_ends (Rest.last e p) = after (inside_ends (chars_inside p))
pending_ends (Rest.next e p) = after (pending_ends p)

-- The same for reading the chars of a string, whatever is pending.
pub read_chars_ends : (p : Pending) (s : List ℕ) → Ends (rest_of (read_chars p s)) s
read_chars_ends p s = rest_ends (rest_reads p s) (λ _ _ q. pending_ends q)

-- The same for reading a string.
pub read_string_ends : (s : List ℕ) → Ends (rest_of (read_string s)) s
read_string_ends s = rest_ends (string_reads s) (λ _ _ p. inside_ends (string_inside p))

-- The same for reading a value that is neither an array nor an object.
pub read_scalar_ends : (s : List ℕ) → Ends (rest_of (read_scalar s)) s
read_scalar_ends s = rest_ends (scalar_reads s) (λ _ _ p. inside_ends (scalar_inside p))

module _ {A : Type 0} (item : List ℕ → Read A) (mark : ℕ) (item_ends : (s : List ℕ) → Ends (rest_of (item s)) s) where
  -- If the rest of reading an item is an end of its text, so is the rest of reading items and their end mark.
  pub read_items_ends : (n : ℕ) (s : List ℕ) → Ends (rest_of (read_items item mark n s)) s
  read_items_ends n s =
      rest_ends (items_reads {Item = λ s _ r. Ends r s} mark (λ s. ends_reads s (item s) (item_ends s)) (λ _ _ _ e. e) n s)
      (λ _ _ p. items_ends (λ _ _ _ e. e) p)

  -- The same for reading items or none and their end mark.
  pub read_first_ends : (s : List ℕ) → Ends (rest_of (read_first item mark s)) s
  read_first_ends s =
      rest_ends (first_reads {Item = λ s _ r. Ends r s} mark (λ s. ends_reads s (item s) (item_ends s)) (λ _ _ _ e. e) s s Space.end)
      (λ _ _ p. listed_ends (λ _ _ _ e. e) p)

module _ (inner : List ℕ → Read Syntax) (inner_ends : (s : List ℕ) → Ends (rest_of (inner s)) s) where
  -- If the rest of reading a value is an end of its text, so is the rest of reading a member with such a value.
  pub read_pair_ends : (s : List ℕ) → Ends (rest_of (read_pair inner s)) s
  read_pair_ends s =
      rest_ends (pair_reads {Inner = λ s _ r. Ends r s} (λ s. ends_reads s (inner s) (inner_ends s)) (λ _ _ _ e. e) s)
      (pair_ends (λ _ _ _ e. e) s)

  -- Under the same condition, the rest after a member that is found is shorter than the text.
  pub read_pair_shorter : (s : List ℕ) (m : Member) (r : List ℕ) → read_pair inner s ≡ found m r → length r < length s
  read_pair_shorter s m r e =
      inside_length (pair_inside (λ _ _ _ e. e) s m r
      (pair_sound {Inner = λ s _ r. Ends r s} (λ s. ends_reads s (inner s) (inner_ends s)) (λ _ _ _ e. e) s m r e))

  -- Under the same condition, the rest of reading a value that may hold such values is an end of the text.
  pub read_nested_ends : (s : List ℕ) → Ends (rest_of (read_nested inner s)) s
  read_nested_ends s =
      rest_ends (nested_reads {Inner = λ s _ r. Ends r s} (λ s. ends_reads s (inner s) (inner_ends s)) (λ _ _ _ e. e) s)
      (λ t r p. inside_ends (nested_inside (λ _ _ _ e. e) s t r p))

-- The rest of reading a value of bounded depth, found or stuck, is an end of the text.
pub read_ends : (d : ℕ) (s : List ℕ) → Ends (rest_of (read d s)) s
read_ends d s = rest_ends (value_reads d s) (value_ends d s)

whole_ends : {d : ℕ} {s r : List ℕ} {t : Syntax} → Whole d s t r → Ends r s
whole_ends {s} (whole p) = ends_nil s

-- a rest by its offset: the text's length less its own
pub ends_at : {r s : List ℕ} → Ends r s → (length r ≤ length s) × (r ≡ drop (length s - length r) s)
ends_at e = (ends_length e, ends_drop e)
