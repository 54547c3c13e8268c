-- Where the fault of a text stands (request 2026-01): what the offsets for the numbers 2 to 6 say of the text.
use Rattle.std.specs.Prelude.{Result, Ok, Err}
use Prim.Native.Nat.{ℕ, ◌-◌, ◌≤◌, ◌<◌}
use native.Mathlib.Omega.{arith}
use mathlib.Core.Path.{◌≡◌, refl, sym, ap, subst, ◌∙◌}
use mathlib.Core.Logic.{◌⊎◌, ⊎_elim}
use mathlib.Core.List.{List}
use mathlib.Core.Bool.{Bool, true}
use lib.Dec.{ltb, eqb}
use lib.ListN.{length, drop}
use borrow.Author.Tests.{ltb-false, ltb-true}
use Rattle.laws.proofs.Order.{by_test, false_true}
use Rattle.text_utf8.specs.Utf8.{verdict}
use Rattle.text_utf8.proofs.Place.{Longest, verdict_bad}
use Rattle.text_json.specs.Bytes.{AllBytes}
use Rattle.text_json.specs.Syntax.{Syntax}
use Rattle.text_json.specs.Grammar.{starts}
use Rattle.text_json.specs.Read.{Read, found, stuck, read_text}
use Rattle.text_json.proofs.Grammar.Agree.{text_sound, one_tree}
use Rattle.text_json.proofs.Grammar.Start.{stuck_start, stuck_longest}
use Rattle.text_content.specs.Fault.{string_fault, number_fault, key_fault}
use Rattle.text.specs.Question.{is_too_long, text_number}
use Rattle.text.specs.Places.{Within, LongestStart, FaultyString, FaultyNumber, RepeatedKey, FirstAt}
use Rattle.text.specs.Answer.{fault_place, number_of, place_of, by_faults, by_tree, by_verdict, checked, text_place, number_within, canonical_number}
use Rattle.text.specs.declared.Fault.{Fault}
use Rattle.text.specs.declared.Fault.TheVariants.{TooLong, NotUtf8, NotJson, BadString, BadNumber, SameKeys}
use Rattle.text.proofs.Numbers.{number_checked}
use Rattle.text.proofs.Outcome.{refused_positive}
use Rattle.text.proofs.FirstFault.{first_string, first_number, first_key, first_string_quoted, first_key_quoted}
use Rattle.text.specs.Accepted.{accepted_text}
use Rattle.text.specs.declared.Accepted.{Accepted}

-- A text that is refused has the place of its fault.
pub refused_place : (s : List ℕ) (f : Fault) → checked s ≡ Err f → fault_place f ≡ text_place s
unfolding text_place
refused_place s f e = sym (ap place_of e)

-- A text that is taken has the place 0.
pub accepted_place : (s : List ℕ) (n : ℕ) (c : Bool) → checked s ≡ accepted_text n c → 0 ≡ text_place s
unfolding text_place
accepted_place s n c e = sym (ap place_of e)

-- Where canonical's number is 0, the place is 0.
pub done_place : (s : List ℕ) (m : ℕ) → canonical_number s m ≡ 0 → text_place s ≡ 0
unfolding canonical_number text_place
done_place s m z = go (checked s) z
  where
    go : (x : Result Accepted Fault) → number_within x m ≡ 0 → place_of x ≡ 0
    go (Ok a) z = refl
    go (Err f) z = let h = refused_positive f 0 (sym z) in absurd (omega arith)

faults_small : (n : ℕ) (c : Bool) (t : Syntax) → place_of (by_faults n c t) ≤ n
unfolding by_faults
faults_small n c t =
    by_test (ltb 0 (string_fault t)) (λ e. rw (e, by_faults) (omega arith)) (λ e. rw (e, by_faults)
    (by_test (ltb 0 (number_fault t)) (λ f. rw f (omega arith)) (λ f. rw f
    (by_test (ltb 0 (key_fault t)) (λ g. rw g (omega arith)) (λ g. rw g (omega arith))))))

tree_small : (s : List ℕ) (x : Read Syntax) → place_of (by_tree s x) ≤ length s
unfolding by_tree
tree_small s (found t r) = faults_small (length s) _ t
tree_small s (stuck r) = omega arith

-- A place is at most 16,384, the length of the longest text that is taken.
pub place_small : (s : List ℕ) → text_place s ≤ 16384
unfolding text_place checked by_verdict is_too_long
place_small s =
    by_test (ltb 16384 (length s)) (λ e. rw (e, checked) (omega arith)) (λ e. rw (e, checked) (go (verdict s) refl (ltb-false 16384 (length s) e)))
  where
    go : (v : Result (Unit {0}) ℕ) → verdict s ≡ v → length s ≤ 16384 → place_of (by_verdict s v) ≤ 16384
    go (Ok tt) q h = omega (arith, tree_small s (read_text 8 s))
    go (Err k) q h = omega (arith, (verdict_bad s k q).inside)

-- What checking found, where it found it.
data Told (s : List ℕ) : Result Accepted Fault → Type 0 where
  too_long : Told s (Err TooLong)
  is_not_utf8 : {k : ℕ} → verdict s ≡ Err k → Told s (Err (NotUtf8 k))
  not_json : {r : List ℕ} → read_text 8 s ≡ stuck r → Told s (Err (NotJson (length s - length r)))
  bad_string : {t : Syntax} {r : List ℕ} → read_text 8 s ≡ found t r → 0 < string_fault t → Told s (Err (BadString (length s - string_fault t)))
  bad_number : {t : Syntax} {r : List ℕ} → read_text 8 s ≡ found t r → 0 < number_fault t → Told s (Err (BadNumber (length s - number_fault t)))
  same_keys : {t : Syntax} {r : List ℕ} → read_text 8 s ≡ found t r → 0 < key_fault t → Told s (Err (SameKeys (length s - key_fault t)))
  taken : {a : Accepted} → Told s (Ok a)

told_tree : (s : List ℕ) (x : Read Syntax) → read_text 8 s ≡ x → Told s (by_tree s x)
unfolding by_tree by_faults
told_tree s (stuck r) e = not_json e
told_tree s (found t r) e =
    by_test (ltb 0 (string_fault t)) (λ f. rw (f, by_faults) (bad_string e (ltb-true 0 (string_fault t) f))) (λ f. rw (f, by_faults)
    (by_test (ltb 0 (number_fault t)) (λ g. rw g (bad_number e (ltb-true 0 (number_fault t) g))) (λ g. rw g
    (by_test (ltb 0 (key_fault t)) (λ h. rw h (same_keys e (ltb-true 0 (key_fault t) h))) (λ h. rw h taken)))))

told : (s : List ℕ) → Told s (checked s)
unfolding checked by_verdict
told s = by_test (is_too_long s) (λ e. rw (e, checked) too_long) (λ e. rw (e, checked) (go (verdict s) refl))
  where
    go : (v : Result (Unit {0}) ℕ) → verdict s ≡ v → Told s (by_verdict s v)
    go (Ok tt) e = told_tree s (read_text 8 s) refl
    go (Err k) e = is_not_utf8 e

module _ (s : List ℕ) where
  utf8_told : (x : Result Accepted Fault) → Told s x → number_of x ≡ 2 → Longest s (place_of x)
  utf8_told _ too_long e = absurd (omega arith)
  utf8_told _ (is_not_utf8 {k} v) e = verdict_bad s k v
  utf8_told _ (not_json r) e = absurd (omega arith)
  utf8_told _ (bad_string r l) e = absurd (omega arith)
  utf8_told _ (bad_number r l) e = absurd (omega arith)
  utf8_told _ (same_keys r l) e = absurd (omega arith)
  utf8_told _ taken e = absurd (omega arith)

  json_told : AllBytes s → (x : Result Accepted Fault) → Told s x → number_of x ≡ 3 → LongestStart s (place_of x)
  json_told b _ too_long e = absurd (omega arith)
  json_told b _ (is_not_utf8 v) e = absurd (omega arith)
  json_told b _ (not_json {r} h) e =
      let k = stuck_start 8 s r b h in
      record {
        inside = omega arith;
        more = k.0;
        tree = k.1;
        bytes = k.2;
        goes_on = k.3;
        no_longer = stuck_longest 8 s r h;
      }
  json_told b _ (bad_string r l) e = absurd (omega arith)
  json_told b _ (bad_number r l) e = absurd (omega arith)
  json_told b _ (same_keys r l) e = absurd (omega arith)
  json_told b _ taken e = absurd (omega arith)

  string_told : (x : Result Accepted Fault) → Told s x → number_of x ≡ 4 → FirstAt FaultyString s (place_of x)
  string_told _ too_long e = absurd (omega arith)
  string_told _ (is_not_utf8 v) e = absurd (omega arith)
  string_told _ (not_json h) e = absurd (omega arith)
  string_told _ (bad_string {t} {r} h l) e = first_string (text_sound 8 s t r h) l
  string_told _ (bad_number r l) e = absurd (omega arith)
  string_told _ (same_keys r l) e = absurd (omega arith)
  string_told _ taken e = absurd (omega arith)

  number_told : (x : Result Accepted Fault) → Told s x → number_of x ≡ 5 → FirstAt FaultyNumber s (place_of x)
  number_told _ too_long e = absurd (omega arith)
  number_told _ (is_not_utf8 v) e = absurd (omega arith)
  number_told _ (not_json h) e = absurd (omega arith)
  number_told _ (bad_string h l) e = absurd (omega arith)
  number_told _ (bad_number {t} {r} h l) e = first_number (text_sound 8 s t r h) l
  number_told _ (same_keys r l) e = absurd (omega arith)
  number_told _ taken e = absurd (omega arith)

  key_told : (x : Result Accepted Fault) → Told s x → number_of x ≡ 6 → FirstAt RepeatedKey s (place_of x)
  key_told _ too_long e = absurd (omega arith)
  key_told _ (is_not_utf8 v) e = absurd (omega arith)
  key_told _ (not_json h) e = absurd (omega arith)
  key_told _ (bad_string h l) e = absurd (omega arith)
  key_told _ (bad_number h l) e = absurd (omega arith)
  key_told _ (same_keys {t} {r} h l) e = first_key (text_sound 8 s t r h) l
  key_told _ taken e = absurd (omega arith)

  other_told : (x : Result Accepted Fault) → Told s x → (number_of x < 2) ⊎ (6 < number_of x) → place_of x ≡ 0
  other_told _ too_long e = refl
  other_told _ (is_not_utf8 v) e = absurd (⊎_elim (λ h. omega arith) (λ h. omega arith) e)
  other_told _ (not_json h) e = absurd (⊎_elim (λ h. omega arith) (λ h. omega arith) e)
  other_told _ (bad_string h l) e = absurd (⊎_elim (λ h. omega arith) (λ h. omega arith) e)
  other_told _ (bad_number h l) e = absurd (⊎_elim (λ h. omega arith) (λ h. omega arith) e)
  other_told _ (same_keys h l) e = absurd (⊎_elim (λ h. omega arith) (λ h. omega arith) e)
  other_told _ taken e = refl

  -- 2: the offset is the length of the longest start that is well-formed UTF-8.
  pub utf8_place : text_number s ≡ 2 → Longest s (text_place s)
  unfolding text_place
  utf8_place e = utf8_told (checked s) (told s) (number_checked s ∙ e)

  -- 3: the offset is the length of the longest start of the bytes s that some JSON text of nesting at most 8 begins with.
  pub json_place : AllBytes s → text_number s ≡ 3 → LongestStart s (text_place s)
  unfolding text_place
  json_place b e = json_told b (checked s) (told s) (number_checked s ∙ e)

  -- 4: the offset is that of the first string, key or value, that is refused.
  pub string_place : text_number s ≡ 4 → FirstAt FaultyString s (text_place s)
  unfolding text_place
  string_place e = string_told (checked s) (told s) (number_checked s ∙ e)

  -- 5: the offset is that of the first number that is refused.
  pub number_place : text_number s ≡ 5 → FirstAt FaultyNumber s (text_place s)
  unfolding text_place
  number_place e = number_told (checked s) (told s) (number_checked s ∙ e)

  -- 6: the offset is that of the first key that is equal to an earlier key of its object.
  pub key_place : text_number s ≡ 6 → FirstAt RepeatedKey s (text_place s)
  unfolding text_place
  key_place e = key_told (checked s) (told s) (number_checked s ∙ e)

  -- 4: at the offset the quotation mark stands with which the string begins.
  pub string_quoted : text_number s ≡ 4 → starts (eqb 0x22) (drop (text_place s) s) ≡ true
  string_quoted e = first_string_quoted (string_place e)

  -- 6: at the offset the quotation mark stands with which the key begins.
  pub key_quoted : text_number s ≡ 6 → starts (eqb 0x22) (drop (text_place s) s) ≡ true
  key_quoted e = first_key_quoted (key_place e)

  -- Where the text's number is none of 2 to 6, the offset is 0.
  pub no_place : (text_number s < 2) ⊎ (6 < text_number s) → text_place s ≡ 0
  unfolding text_place
  no_place e = other_told (checked s) (told s) (subst (λ (n : ℕ). (n < 2) ⊎ (6 < n)) (sym (number_checked s)) e)

-- two numbers of which neither is less are equal
neither_less : (j k : ℕ) → (j < k → ⊥) → (k < j → ⊥) → j ≡ k
neither_less j k f g =
    by_test (ltb j k) (λ e. absurd (f (ltb-true j k e))) (λ e.
    by_test (ltb k j) (λ h. absurd (g (ltb-true k j h))) (λ h. omega (arith, ltb-false j k e, ltb-false k j h)))

-- A text has one offset of the kind that 2 gives.
pub one_utf8_place : (s : List ℕ) (j k : ℕ) → Longest s j → Longest s k → j ≡ k
one_utf8_place s j k a b =
    neither_less j k (λ h. false_true (sym (a.longer k h) ∙ b.well)) (λ h. false_true (sym (b.longer j h) ∙ a.well))

-- A text has one offset of the kind that 3 gives.
pub one_json_place : (s : List ℕ) (j k : ℕ) → LongestStart s j → LongestStart s k → j ≡ k
one_json_place s j k a b =
    neither_less j k (λ h. a.no_longer k h b.inside b.more b.tree b.goes_on) (λ h. b.no_longer j h a.inside a.more a.tree a.goes_on)

-- A text has one offset of a kind that 4, 5 and 6 give.
pub one_first_place : (Faulty : List ℕ → Syntax → Type 0) (s : List ℕ) (j k : ℕ) → FirstAt Faulty s j → FirstAt Faulty s k → j ≡ k
one_first_place Faulty s j k a b =
    let e : a.tree ≡ b.tree = one_tree a.reads b.reads in
    neither_less j k (λ h. b.none_before j h a.value (subst (Within a.value) e a.within) a.there) (λ h.
    a.none_before k h b.value (subst (Within b.value) (sym e) b.within) b.there)
