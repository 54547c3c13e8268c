-- What checking says of the answers of canonical and is_canonical.
use Rattle.std.specs.Prelude.{Result, Ok, Err}
use Prim.Native.Nat.{ℕ, ◌<◌, ◌≤◌}
use mathlib.Core.Path.{◌≡◌, refl, sym, ap, ◌∙◌}
use mathlib.Core.Logic.{◌⊎◌, ⊎_elim}
use mathlib.Core.List.{List, [], ◌++◌}
use mathlib.Core.Bool.{Bool, true, false}
use native.Mathlib.Omega.{arith}
use borrow.Author.Tests.{eq-eqb, ne_eqb, lt-ltb, le-ltb, eqb-true, ltb-false}
use lib.Dec.{ltb, eqb}
use lib.ListN.{length, take, drop}
use lib.Seq.{take_at}
use Rattle.laws.specs.Order.{same}
use Rattle.laws.proofs.Order.{by_test, same_eq}
use Rattle.text_utf8.specs.Utf8.{verdict}
use Rattle.text_utf8.proofs.Ranges.{and_both}
use Rattle.text_json.specs.Syntax.{Syntax}
use Rattle.text_json.specs.Read.{Read, found, stuck, read_text}
use Rattle.text_content.specs.Fault.{string_fault, number_fault, key_fault}
use Rattle.text.specs.Question.{is_too_long, text_number}
use Rattle.text.specs.Answer.{fault_number, by_faults, by_tree, by_verdict, checked, number_of, number_within, form_of, form, canonical_number, canonical_length}
use Rattle.text.specs.Answer.{canonical_bytes, is_canonical}
use Rattle.text.specs.declared.Fault.{Fault}
use Rattle.text.specs.declared.Fault.TheVariants.{TooLong, NotUtf8, NotJson, BadString, BadNumber, SameKeys}
use Rattle.text.proofs.Numbers.{number_checked}
use Rattle.text.proofs.Taken.{taken, form_short, text_small}
use Rattle.text.specs.Accepted.{accepted_text}
use Rattle.text.specs.declared.Accepted.{Accepted}

-- the number of a fault is not 0
fault_positive : (f : Fault) → 0 < fault_number f
fault_positive TooLong = omega arith
fault_positive (NotUtf8 k) = omega arith
fault_positive (NotJson k) = omega arith
fault_positive (BadString k) = omega arith
fault_positive (BadNumber k) = omega arith
fault_positive (SameKeys k) = omega arith

-- The number of a fault is greater than 0.
pub refused_positive : (f : Fault) (n : ℕ) → n ≡ fault_number f → 0 < n
refused_positive f n e = let h = fault_positive f in omega arith

-- what is taken has the length of its form, and whether it is its form
data Outcome (s f : List ℕ) : Result Accepted Fault → Type 0 where
  is_refused : {x : Fault} → Outcome s f (Err x)
  is_accepted : Outcome s f (accepted_text (length f) (same f s))

told_by_tree : (s : List ℕ) (x : Read Syntax) → Outcome s (form_of x) (by_tree s x)
unfolding by_tree by_faults form_of
told_by_tree s (stuck r) = is_refused
told_by_tree s (found t r) =
    by_test (ltb 0 (string_fault t)) (λ e. rw (e, by_faults) is_refused) (λ e. rw (e, by_faults)
    (by_test (ltb 0 (number_fault t)) (λ f. rw f is_refused) (λ f. rw f
    (by_test (ltb 0 (key_fault t)) (λ g. rw g is_refused) (λ g. rw g is_accepted)))))

outcome : (s : List ℕ) → Outcome s (form s) (checked s)
unfolding checked by_verdict form
outcome s = by_test (is_too_long s) (λ e. rw (e, checked) is_refused) (λ e. rw (e, checked) (go (verdict s)))
  where
    go : (v : Result (Unit {0}) ℕ) → Outcome s (form_of (read_text 8 s)) (by_verdict s v)
    go (Ok tt) = told_by_tree s (read_text 8 s)
    go (Err k) = is_refused

-- what is told of a text that is taken
abbrev length_of : Result Accepted Fault → ℕ
length_of (Ok a) = a.length
length_of (Err f) = 0

abbrev flag_of : Result Accepted Fault → Bool
flag_of (Ok a) = a.canonical
flag_of (Err f) = false

holds : (s f : List ℕ) (x : Result Accepted Fault) (n : ℕ) (c : Bool) → Outcome s f x → x ≡ accepted_text n c → (n ≡ length f) × (c ≡ same f s)
holds s f x n c is_accepted e =
    (sym (ap length_of e), sym (ap flag_of e))
holds s f x n c is_refused e = let z : ◌≡◌ {A = ℕ} 0 1 = cc in absurd (omega arith)

module _ (s out : List ℕ) where
  -- a refusal by 1 to 6
  module _ (f : Fault) (e : checked s ≡ Err f) where
    number_is : text_number s ≡ fault_number f
    number_is = sym (number_checked s) ∙ ap number_of e

    not_zero : eqb (text_number s) 0 ≡ false
    not_zero = let h = fault_positive f in ne_eqb (text_number s) 0 (λ z. omega (arith, number_is))

    -- Where checking refuses a text, canonical's number is that of the fault.
    pub refused_number : fault_number f ≡ canonical_number s (length out)
    unfolding canonical_number
    refused_number = sym (ap (λ (x : Result Accepted Fault). number_within x (length out)) e)

  -- any refusal
  module _ (n : ℕ) (h : 0 < n) (e : n ≡ canonical_number s (length out)) where
    is_a_number : eqb (canonical_number s (length out)) 0 ≡ false
    is_a_number = ne_eqb (canonical_number s (length out)) 0 (λ z. omega (arith, e))

    -- Where canonical's number is not 0, the length that it tells is 0.
    pub refused_length : 0 ≡ canonical_length s (length out)
    unfolding canonical_length
    refused_length = sym (rw (is_a_number, canonical_length))

    -- Where canonical's number is not 0, the buffer stays as it was.
    pub refused_bytes : out ≡ canonical_bytes s out
    unfolding canonical_bytes
    refused_bytes = sym (rw (is_a_number, canonical_bytes))

  module _ (n : ℕ) (c : Bool) (e : checked s ≡ accepted_text n c) where
    -- A text that checking accepts gets the number 0.
    pub accepted_number : text_number s ≡ 0
    accepted_number = sym (number_checked s) ∙ ap number_of e

    -- 20
    pub too_small : length out < n → 20 ≡ canonical_number s (length out)
    unfolding canonical_number
    too_small h = sym (ap (λ (x : Result Accepted Fault). number_within x (length out)) e ∙ rw (lt-ltb (length out) n h, number_within))

    -- If the form of an accepted text fits in the buffer, canonical's number is 0.
    pub done_number : n ≤ length out → 0 ≡ canonical_number s (length out)
    unfolding canonical_number
    done_number h = sym (ap (λ (x : Result Accepted Fault). number_within x (length out)) e ∙ rw (le-ltb (length out) n h, number_within))

    module _ (h : n ≤ length out) where
      is_zero : eqb (canonical_number s (length out)) 0 ≡ true
      is_zero = eq-eqb (canonical_number s (length out)) 0 (sym (done_number h))

      -- The length that canonical then tells is that of the form.
      pub done_length : length (form s) ≡ canonical_length s (length out)
      unfolding canonical_length
      done_length = sym (rw (is_zero, canonical_length))

      -- The buffer then has the form at its start, and past it the bytes that it had.
      pub done_bytes : form s ++ drop (length (form s)) out ≡ canonical_bytes s out
      unfolding canonical_bytes
      done_bytes = sym (rw (is_zero, canonical_bytes))

-- canonical's number is the lowest that applies of questions 1 to 6 and then 20
pub canonical_lowest :
    (s : List ℕ) (m : ℕ) → canonical_number s m ≡ elim (eqb (text_number s) 0)
    [ true ↦ elim (ltb m (length (form s))) [ true ↦ 20 | false ↦ 0 ] | false ↦ text_number s ]
unfolding canonical_number
canonical_lowest s m = go (checked s) (text_number s) (number_checked s) (outcome s)
  where
    go :
        (x : Result Accepted Fault) (n : ℕ) → number_of x ≡ n → Outcome s (form s) x
        → number_within x m ≡ elim (eqb n 0) [ true ↦ elim (ltb m (length (form s))) [ true ↦ 20 | false ↦ 0 ] | false ↦ n ]
    go x n e (is_refused {x = f}) = rw (ne_eqb n 0 (λ z. omega (arith, fault_positive f, e))) e
    go x n e is_accepted = rw (eq-eqb n 0 (sym e))

-- the answer's numbers are small
pub number_small : (s : List ℕ) (m : ℕ) → canonical_number s m ≤ 20
number_small s m =
    rw (canonical_lowest s m)
    (by_test (eqb (text_number s) 0)
    (λ e. rw e (by_test (ltb m (length (form s))) (λ f. rw f (omega arith)) (λ f. rw f (omega arith))))
    (λ e. rw e (omega (arith, text_small s))))

-- only a text that is taken gets 0
pub zero_taken : (s : List ℕ) (m : ℕ) → canonical_number s m ≡ 0 → text_number s ≡ 0
zero_taken s m h = by_test (eqb (text_number s) 0) (λ e. eqb-true (text_number s) 0 e) (λ e. rw e at (rw (canonical_lowest s m) at h))

-- 20 is never given with a buffer as long as the text, or as long as a text can be
pub number_in_space : (s : List ℕ) (m : ℕ) → (length s ≤ m) ⊎ (16384 ≤ m) → canonical_number s m ≡ text_number s
number_in_space s m h =
    canonical_lowest s m
    ∙ by_test (eqb (text_number s) 0)
    (λ e. let z = eqb-true (text_number s) 0 e in
    let p = taken s z in
    rw (e, le-ltb m (length (form s)) (⊎_elim (λ k. omega (arith, form_short s p, k)) (λ k. omega (arith, form_short s p, p.short, k)) h)) (sym z))
    (λ e. rw e)

-- where 0 is given, the form stands at the start of the buffer, and its length is told
pub form_first : (s out : List ℕ) → canonical_number s (length out) ≡ 0 → take (canonical_length s (length out)) (canonical_bytes s out) ≡ form s
unfolding canonical_length canonical_bytes
form_first s out e =
    let z = eq-eqb (canonical_number s (length out)) 0 e in
    rw (z, canonical_length) (rw (z, canonical_bytes) (take_at (form s) _ _ refl))

-- The length that canonical tells is at most 16384.
pub length_small : (s : List ℕ) (m : ℕ) → canonical_length s m ≤ 16384
unfolding canonical_length
length_small s m =
    by_test (eqb (canonical_number s m) 0)
    (λ e. rw (e, canonical_length) (let p = taken s (zero_taken s m (eqb-true (canonical_number s m) 0 e)) in omega (arith, form_short s p, p.short)))
    (λ e. rw (e, canonical_length) (omega arith))

-- The length that canonical tells is at most that of the buffer.
pub length_within : (s : List ℕ) (m : ℕ) → canonical_length s m ≤ m
unfolding canonical_length
length_within s m =
    by_test (eqb (canonical_number s m) 0)
    (λ e. rw (e, canonical_length) (fits (eqb-true (canonical_number s m) 0 e)))
    (λ e. rw (e, canonical_length) (omega arith))
  where
    fits : canonical_number s m ≡ 0 → length (form s) ≤ m
    fits h =
        by_test (ltb m (length (form s)))
        (λ f. absurd (omega (arith, rw (eq-eqb (text_number s) 0 (zero_taken s m h), f) at (rw (canonical_lowest s m) at h))))
        (λ f. ltb-false m (length (form s)) f)

-- the length that is told of a text that is taken is that of its form
pub accepted_length : (s : List ℕ) (n : ℕ) (c : Bool) → checked s ≡ accepted_text n c → n ≡ length (form s)
accepted_length s n c e = (holds s (form s) (checked s) n c (outcome s) e).0

-- the flag of a text that is taken says whether it is its own form
pub accepted_flag : (s : List ℕ) (n : ℕ) (c : Bool) → checked s ≡ accepted_text n c → c ≡ is_canonical s
unfolding is_canonical
accepted_flag s n c e =
    (holds s (form s) (checked s) n c (outcome s) e).1 ∙ sym (rw (eq-eqb (text_number s) 0 (accepted_number s [] n c e)))

-- a text that is refused is not
pub refused_flag : (s : List ℕ) (f : Fault) → checked s ≡ Err f → is_canonical s ≡ false
unfolding is_canonical
refused_flag s f e = rw (not_zero s [] f e)

-- a text that is its own form has that form,
pub canonical_own : (s : List ℕ) → is_canonical s ≡ true → form s ≡ s
unfolding is_canonical
canonical_own s e = same_eq (form s) s (and_both (eqb (text_number s) 0) (same (form s) s) e).1

-- and is taken as one.
pub canonical_checked : (s : List ℕ) → is_canonical s ≡ true → checked s ≡ accepted_text (length s) true
unfolding is_canonical
canonical_checked s e = by_outcome (checked s) (number_checked s) (outcome s)
  where
    parts : (eqb (text_number s) 0 ≡ true) × (same (form s) s ≡ true)
    parts = and_both (eqb (text_number s) 0) (same (form s) s) e

    by_outcome : (x : Result Accepted Fault) → number_of x ≡ text_number s → Outcome s (form s) x → x ≡ accepted_text (length s) true
    by_outcome x n (is_refused {x = f}) = absurd (omega (arith, fault_positive f, eqb-true (text_number s) 0 parts.0))
    by_outcome x n is_accepted = rw (parts.1, canonical_own s e)
