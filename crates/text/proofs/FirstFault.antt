-- The place of a fault of a text (questions 4, 5 and 6) is the first one: a value in the text has the fault there, and none has one before it.
use Prim.Native.Nat.{ℕ, ◌-◌, max, ◌≤◌, ◌<◌}
use native.Mathlib.Omega.{arith}
use native.Mathlib.Decide.{dec_le}
use mathlib.Core.Path.{◌≡◌, refl, sym, ap, ap₂, subst, ◌∙◌}
use mathlib.Core.Logic.{◌⊎◌, inl, inr, ⊎_elim}
use mathlib.Core.List.{List, [], ◌∷◌}
use mathlib.Core.Bool.{Bool, true, false}
use lib.Dec.{eqb}
use lib.ListN.{length, drop, length-drop}
use Rattle.laws.specs.Order.{same}
use Rattle.laws.proofs.Order.{by_test, false_true, same_eq, same_refl}
use Rattle.text_json.specs.Syntax.{Char, Syntax, Elements, Members, null, boolean, number, string, array, object, no_elements, element, no_members, member}
use Rattle.text_json.specs.Content.{unescape, refused_string, refused_number}
use Rattle.text_json.specs.Grammar.{Text, starts}
use Rattle.text_json.proofs.Grammar.Ends.{ends_length, ends_drop}
use Rattle.text_content.specs.Fault.{mark, among, repeated, string_fault, string_faults, key_string_faults, number_fault, number_faults, member_number_faults}
use Rattle.text_content.specs.Fault.{key_fault, key_faults, member_key_faults}
use Rattle.text.specs.Places.{Within, AmongElements, AmongMembers, itself, in_array, in_object, this_element, later_element, this_member, later_member}
use Rattle.text.specs.Places.{KeyOf, this_key, later_key, FaultyString, bad_value, bad_key, FaultyNumber, bad_number, Repeats, equal_key, later_repeat}
use Rattle.text.specs.Places.{RepeatedKey, repeated_key, FirstAt}
use Rattle.text.proofs.ValuePlaces.{Begins, Quoted, text_places, text_quoted}

-- A value's own fault is given by how many bytes of the text are left from its place on, 0 where it has none.

-- the first key that is a refused string
unfoldable key_strings : Members → ℕ
key_strings no_members = 0
key_strings (member p cs t ms) = max (mark (refused_string cs) p) (key_strings ms)

-- question 4: a string that is refused, or a key that is
unfoldable own_string : Syntax → ℕ
own_string null = 0
own_string (boolean b) = 0
own_string (number p n) = 0
own_string (string p cs) = mark (refused_string cs) p
own_string (array es) = 0
own_string (object ms) = key_strings ms

-- question 5: a number that is refused
unfoldable own_number : Syntax → ℕ
own_number null = 0
own_number (boolean b) = 0
own_number (number p n) = mark (refused_number n) p
own_number (string p cs) = 0
own_number (array es) = 0
own_number (object ms) = 0

-- question 6: a key that is equal to an earlier one of the object
unfoldable own_key : Syntax → ℕ
own_key null = 0
own_key (boolean b) = 0
own_key (number p n) = 0
own_key (string p cs) = 0
own_key (array es) = 0
own_key (object ms) = repeated [] ms

-- k bytes are left from the first fault of a kind in t on: some value in t has its own fault there, and none has one before it
record First (own : Syntax → ℕ) (t : Syntax) (k : ℕ) : Type 0 where
  pub value : Syntax
  pub within : Within value t
  pub there : own value ≡ k
  pub none_before : (u : Syntax) → Within u t → own u ≤ k

-- the larger of two numbers is one of them
larger : (m n : ℕ) {C : Type 0} → (max m n ≡ m → C) → (max m n ≡ n → C) → C
larger m n f g = elim (dec_le n m) [ yes h ↦ f (omega arith) | no h ↦ g (omega arith) ]

-- the highest of what the values of a text have, each by itself
module _ (own : Syntax → ℕ) where
  unfoldable mutual
    highest : Syntax → ℕ
    highest null = own null
    highest (boolean b) = own (boolean b)
    highest (number p n) = own (number p n)
    highest (string p cs) = own (string p cs)
    highest (array es) = max (own (array es)) (highest_elements es)
    highest (object ms) = max (own (object ms)) (highest_members ms)

    highest_elements : Elements → ℕ
    highest_elements no_elements = 0
    highest_elements (element t es) = max (highest t) (highest_elements es)

    highest_members : Members → ℕ
    highest_members no_members = 0
    highest_members (member p cs t ms) = max (highest t) (highest_members ms)

  own_below : (t : Syntax) → own t ≤ highest t
  unfolding highest
  own_below null = omega arith
  own_below (boolean b) = omega arith
  own_below (number p n) = omega arith
  own_below (string p cs) = omega arith
  own_below (array es) = omega arith
  own_below (object ms) = omega arith

  mutual
    unfolding highest

    within_below : {u t : Syntax} → Within u t → own u ≤ highest t
    within_below {u} itself = own_below u
    within_below (in_array w) = let h = elements_below w in omega arith
    within_below (in_object w) = let h = members_below w in omega arith

    elements_below : {u : Syntax} {es : Elements} → AmongElements u es → own u ≤ highest_elements es
    elements_below (this_element w) = let h = within_below w in omega arith
    elements_below (later_element w) = let h = elements_below w in omega arith

    members_below : {u : Syntax} {ms : Members} → AmongMembers u ms → own u ≤ highest_members ms
    members_below (this_member w) = let h = within_below w in omega arith
    members_below (later_member w) = let h = members_below w in omega arith

  mutual
    unfolding highest

    reached : (t : Syntax) → (u : Syntax) × Within u t × (own u ≡ highest t)
    reached null = (null, itself, refl)
    reached (boolean b) = (boolean b, itself, refl)
    reached (number p n) = (number p n, itself, refl)
    reached (string p cs) = (string p cs, itself, refl)
    reached (array es) =
        larger (own (array es)) (highest_elements es) (λ e. (array es, itself, sym e)) (λ e.
        ⊎_elim (λ z. (array es, itself, omega arith)) (λ k. (k.0, in_array k.1, k.2 ∙ sym e)) (reached_elements es))
    reached (object ms) =
        larger (own (object ms)) (highest_members ms) (λ e. (object ms, itself, sym e)) (λ e.
        ⊎_elim (λ z. (object ms, itself, omega arith)) (λ k. (k.0, in_object k.1, k.2 ∙ sym e)) (reached_members ms))

    reached_elements : (es : Elements) → (highest_elements es ≡ 0) ⊎ ((u : Syntax) × AmongElements u es × (own u ≡ highest_elements es))
    reached_elements no_elements = inl refl
    reached_elements (element t es) =
        larger (highest t) (highest_elements es) (λ e. let k = reached t in inr (k.0, this_element k.1, k.2 ∙ sym e)) (λ e.
        ⊎_elim (λ z. inl (e ∙ z)) (λ k. inr (k.0, later_element k.1, k.2 ∙ sym e)) (reached_elements es))

    reached_members : (ms : Members) → (highest_members ms ≡ 0) ⊎ ((u : Syntax) × AmongMembers u ms × (own u ≡ highest_members ms))
    reached_members no_members = inl refl
    reached_members (member p cs t ms) =
        larger (highest t) (highest_members ms) (λ e. let k = reached t in inr (k.0, this_member k.1, k.2 ∙ sym e)) (λ e.
        ⊎_elim (λ z. inl (e ∙ z)) (λ k. inr (k.0, later_member k.1, k.2 ∙ sym e)) (reached_members ms))

  is_first : (t : Syntax) (k : ℕ) → k ≡ highest t → First own t k
  is_first t k e =
      let r = reached t in
      record { value = r.0; within = r.1; there = r.2 ∙ sym e; none_before = λ u w. subst (λ (n : ℕ). own u ≤ n) (sym e) (within_below w) }

-- the three kinds of faults are each the highest of the values' own

mutual
  unfolding string_fault own_string highest key_strings

  string_highest : (t : Syntax) → string_fault t ≡ highest own_string t
  string_highest null = refl
  string_highest (boolean b) = refl
  string_highest (number p n) = refl
  string_highest (string p cs) = refl
  string_highest (array es) = let h = string_elements es in omega arith
  string_highest (object ms) = string_members ms

  string_elements : (es : Elements) → string_faults es ≡ highest_elements own_string es
  string_elements no_elements = refl
  string_elements (element t es) = ap₂ max (string_highest t) (string_elements es)

  string_members : (ms : Members) → key_string_faults ms ≡ max (key_strings ms) (highest_members own_string ms)
  string_members no_members = refl
  string_members (member p cs t ms) = let h = string_highest t in let i = string_members ms in omega arith

mutual
  unfolding number_fault own_number highest

  number_highest : (t : Syntax) → number_fault t ≡ highest own_number t
  number_highest null = refl
  number_highest (boolean b) = refl
  number_highest (number p n) = refl
  number_highest (string p cs) = refl
  number_highest (array es) = let h = number_elements es in omega arith
  number_highest (object ms) = let h = number_members ms in omega arith

  number_elements : (es : Elements) → number_faults es ≡ highest_elements own_number es
  number_elements no_elements = refl
  number_elements (element t es) = ap₂ max (number_highest t) (number_elements es)

  number_members : (ms : Members) → member_number_faults ms ≡ highest_members own_number ms
  number_members no_members = refl
  number_members (member p cs t ms) = ap₂ max (number_highest t) (number_members ms)

mutual
  unfolding key_fault own_key highest

  key_highest : (t : Syntax) → key_fault t ≡ highest own_key t
  key_highest null = refl
  key_highest (boolean b) = refl
  key_highest (number p n) = refl
  key_highest (string p cs) = refl
  key_highest (array es) = let h = key_elements es in omega arith
  key_highest (object ms) = ap (max (repeated [] ms)) (key_members ms)

  key_elements : (es : Elements) → key_faults es ≡ highest_elements own_key es
  key_elements no_elements = refl
  key_elements (element t es) = ap₂ max (key_highest t) (key_elements es)

  key_members : (ms : Members) → member_key_faults ms ≡ highest_members own_key ms
  key_members no_members = refl
  key_members (member p cs t ms) = ap₂ max (key_highest t) (key_members ms)

-- what a mark above 0 says, and what a fault is marked by

mark_fault : (f : Bool) (p : List ℕ) → 0 < mark f p → f ≡ true
unfolding mark
mark_fault true p h = refl
mark_fault false p h = absurd (omega arith)

mark_length : (f : Bool) (p : List ℕ) → f ≡ true → mark f p ≡ length p
unfolding mark
mark_length true p e = refl
mark_length false p e = false_true e

-- 4: a value's own fault is that of a refused string that begins there, and no refused string begins before it

key_string_there : (ms : Members) → 0 < key_strings ms → (p : List ℕ) × FaultyString p (object ms) × (length p ≡ key_strings ms)
unfolding key_strings
key_string_there no_members h = absurd (omega arith)
key_string_there (member p cs t ms) h =
    larger (mark (refused_string cs) p) (key_strings ms)
    (λ e. let f = mark_fault (refused_string cs) p (omega arith) in (p, bad_key this_key f, sym (mark_length (refused_string cs) p f) ∙ sym e))
    (λ e. let k = key_string_there ms (omega arith) in (k.0, later k.1, k.2 ∙ sym e))
  where
    later : {q : List ℕ} → FaultyString q (object ms) → FaultyString q (object (member p cs t ms))
    later (bad_key k f) = bad_key (later_key k) f

string_there : (u : Syntax) → 0 < own_string u → (p : List ℕ) × FaultyString p u × (length p ≡ own_string u)
unfolding own_string
string_there null h = absurd (omega arith)
string_there (boolean b) h = absurd (omega arith)
string_there (number p n) h = absurd (omega arith)
string_there (string p cs) h = let f = mark_fault (refused_string cs) p h in (p, bad_value f, sym (mark_length (refused_string cs) p f))
string_there (array es) h = absurd (omega arith)
string_there (object ms) h = key_string_there ms h

key_string_below : {p : List ℕ} {cs : List Char} {ms : Members} → KeyOf p cs ms → refused_string cs ≡ true → length p ≤ key_strings ms
unfolding key_strings
key_string_below {p} {cs} this_key f = let e = mark_length (refused_string cs) p f in omega arith
key_string_below (later_key k) f = let h = key_string_below k f in omega arith

string_below : {p : List ℕ} {u : Syntax} → FaultyString p u → length p ≤ own_string u
unfolding own_string
string_below {p} (bad_value {cs} f) = let e = mark_length (refused_string cs) p f in omega arith
string_below (bad_key k f) = key_string_below k f

string_begins : {p : List ℕ} {u : Syntax} → FaultyString p u → Begins p u
string_begins (bad_value f) = refl
string_begins (bad_key {cs} k f) = (cs, k)

-- 5: the same of a refused number

number_there : (u : Syntax) → 0 < own_number u → (p : List ℕ) × FaultyNumber p u × (length p ≡ own_number u)
unfolding own_number
number_there null h = absurd (omega arith)
number_there (boolean b) h = absurd (omega arith)
number_there (number p n) h = let f = mark_fault (refused_number n) p h in (p, bad_number f, sym (mark_length (refused_number n) p f))
number_there (string p cs) h = absurd (omega arith)
number_there (array es) h = absurd (omega arith)
number_there (object ms) h = absurd (omega arith)

number_below : {p : List ℕ} {u : Syntax} → FaultyNumber p u → length p ≤ own_number u
unfolding own_number
number_below {p} (bad_number {n} f) = let e = mark_length (refused_number n) p f in omega arith

number_begins : {p : List ℕ} {u : Syntax} → FaultyNumber p u → Begins p u
number_begins (bad_number f) = refl

-- 6: the same of a key that is equal to an earlier one

-- the key at p is equal to one of these, or to an earlier one of the members
data Again (earlier : List (List ℕ)) (p : List ℕ) (ms : Members) : Type 0 where
  before : {cs : List Char} → KeyOf p cs ms → among (unescape cs) earlier ≡ true → Again earlier p ms
  inside : Repeats p ms → Again earlier p ms

again_later : {earlier : List (List ℕ)} {p q : List ℕ} {ds : List Char} {t : Syntax} {ms : Members} → Again (unescape ds ∷ earlier) p ms
    → Again earlier p (member q ds t ms)
unfolding among
again_later (inside r) = inside (later_repeat r)
again_later {ds = ds} (before {cs} k e) =
    by_test (same (unescape cs) (unescape ds)) (λ f. inside (equal_key k (same_eq (unescape cs) (unescape ds) f)))
    (λ f. before (later_key k) (rw (f, among) at e))

again_there : (earlier : List (List ℕ)) (ms : Members) → 0 < repeated earlier ms → (p : List ℕ) × Again earlier p ms × (length p ≡ repeated earlier ms)
unfolding repeated
again_there earlier no_members h = absurd (omega arith)
again_there earlier (member p cs t ms) h =
    let a = among (unescape cs) earlier in
    larger (mark a p) (repeated (unescape cs ∷ earlier) ms)
    (λ e. let f = mark_fault a p (omega arith) in (p, before this_key f, sym (mark_length a p f) ∙ sym e))
    (λ e. let k = again_there (unescape cs ∷ earlier) ms (omega arith) in (k.0, again_later k.1, k.2 ∙ sym e))

only_repeats : {p : List ℕ} {ms : Members} → Again [] p ms → RepeatedKey p (object ms)
unfolding among
only_repeats (before k e) = false_true e
only_repeats (inside r) = repeated_key r

key_there : (u : Syntax) → 0 < own_key u → (p : List ℕ) × RepeatedKey p u × (length p ≡ own_key u)
unfolding own_key
key_there null h = absurd (omega arith)
key_there (boolean b) h = absurd (omega arith)
key_there (number p n) h = absurd (omega arith)
key_there (string p cs) h = absurd (omega arith)
key_there (array es) h = absurd (omega arith)
key_there (object ms) h = let k = again_there [] ms h in (k.0, only_repeats k.1, k.2)

among_more : (k j : List ℕ) (js : List (List ℕ)) → among k js ≡ true → among k (j ∷ js) ≡ true
unfolding among
among_more k j js e = by_test (same k j) (λ f. rw (f, among)) (λ f. rw (f, among) e)

among_this : (k j : List ℕ) (js : List (List ℕ)) → k ≡ j → among k (j ∷ js) ≡ true
unfolding among
among_this k j js e = let f : same k j ≡ true = ap (same k) (sym e) ∙ same_refl k in rw (f, among)

key_below_among : {p : List ℕ} {cs : List Char} (earlier : List (List ℕ)) {ms : Members} → KeyOf p cs ms → among (unescape cs) earlier ≡ true
    → length p ≤ repeated earlier ms
unfolding repeated
key_below_among {p} {cs} earlier this_key e = let f = mark_length (among (unescape cs) earlier) p e in omega arith
key_below_among {cs = cs} earlier (later_key {ds = ds} k) e =
    let h = key_below_among (unescape ds ∷ earlier) k (among_more (unescape cs) (unescape ds) earlier e) in omega arith

repeats_below : {p : List ℕ} (earlier : List (List ℕ)) {ms : Members} → Repeats p ms → length p ≤ repeated earlier ms
unfolding repeated
repeats_below earlier (equal_key {cs = cs} {ds} k e) =
    let h = key_below_among (unescape ds ∷ earlier) k (among_this (unescape cs) (unescape ds) earlier e) in omega arith
repeats_below earlier (later_repeat {ds = ds} r) = let h = repeats_below (unescape ds ∷ earlier) r in omega arith

key_below : {p : List ℕ} {u : Syntax} → RepeatedKey p u → length p ≤ own_key u
unfolding own_key
key_below (repeated_key r) = repeats_below [] r

repeats_key : {p : List ℕ} {ms : Members} → Repeats p ms → (cs : List Char) × KeyOf p cs ms
repeats_key (equal_key {cs = cs} k e) = (cs, later_key k)
repeats_key (later_repeat r) = let k = repeats_key r in (k.0, later_key k.1)

key_begins : {p : List ℕ} {u : Syntax} → RepeatedKey p u → Begins p u
key_begins (repeated_key r) = repeats_key r

-- The place of the first fault, for a kind of fault whose values' own faults are given by `own`.
module _ (Faulty : List ℕ → Syntax → Type 0) (own fault : Syntax → ℕ)
    (there : (u : Syntax) → 0 < own u → (p : List ℕ) × Faulty p u × (length p ≡ own u))
    (below : (p : List ℕ) (u : Syntax) → Faulty p u → length p ≤ own u)
    (begins : (p : List ℕ) (u : Syntax) → Faulty p u → Begins p u)
    (is_highest : (t : Syntax) → fault t ≡ highest own t) where
  first_at : {s : List ℕ} {t : Syntax} → Text 8 s t → 0 < fault t → FirstAt Faulty s (length s - fault t)
  first_at {s} {t} reads h =
      let f = is_first own t (fault t) (is_highest t) in
      let k = there f.value (subst (λ (n : ℕ). 0 < n) (sym f.there) h) in
      let e : length k.0 ≡ fault t = k.2 ∙ f.there in
      let ends = text_places 8 reads f.within (begins k.0 f.value k.1) in
      let l = ends_length ends in
      record {
        tree = t;
        reads = reads;
        inside = omega arith;
        value = f.value;
        within = f.within;
        there = subst (λ (p : List ℕ). Faulty p f.value) (ends_drop ends ∙ ap (λ (n : ℕ). drop (length s - n) s) e) k.1;
        none_before = λ j less u w b. let m = below (drop j s) u b in let n = f.none_before u w in let d = length-drop j s in omega arith;
      }

-- Question 4's place is that of the first string, key or value, that is refused.
pub first_string : {s : List ℕ} {t : Syntax} → Text 8 s t → 0 < string_fault t → FirstAt FaultyString s (length s - string_fault t)
first_string = first_at FaultyString own_string string_fault string_there (λ p u. string_below) (λ p u. string_begins) string_highest

-- Question 5's place is that of the first number that is refused.
pub first_number : {s : List ℕ} {t : Syntax} → Text 8 s t → 0 < number_fault t → FirstAt FaultyNumber s (length s - number_fault t)
first_number = first_at FaultyNumber own_number number_fault number_there (λ p u. number_below) (λ p u. number_begins) number_highest

-- Question 6's place is that of the first key that is equal to an earlier key of its object.
pub first_key : {s : List ℕ} {t : Syntax} → Text 8 s t → 0 < key_fault t → FirstAt RepeatedKey s (length s - key_fault t)
first_key = first_at RepeatedKey own_key key_fault key_there (λ p u. key_below) (λ p u. key_begins) key_highest

string_mark : {p : List ℕ} {u : Syntax} → FaultyString p u → Quoted p u → starts (eqb 0x22) p ≡ true
string_mark (bad_value f) q = q
string_mark (bad_key k f) q = q

key_mark : {p : List ℕ} {u : Syntax} → RepeatedKey p u → Quoted p u → starts (eqb 0x22) p ≡ true
key_mark (repeated_key r) q = q

-- The first refused string begins with a quotation mark.
pub first_string_quoted : {s : List ℕ} {k : ℕ} → FirstAt FaultyString s k → starts (eqb 0x22) (drop k s) ≡ true
first_string_quoted {s} {k} f = string_mark f.there (text_quoted 8 (drop k s) f.reads f.within (string_begins f.there))

-- The first repeated key begins with a quotation mark.
pub first_key_quoted : {s : List ℕ} {k : ℕ} → FirstAt RepeatedKey s k → starts (eqb 0x22) (drop k s) ≡ true
first_key_quoted {s} {k} f = key_mark f.there (text_quoted 8 (drop k s) f.reads f.within (key_begins f.there))
