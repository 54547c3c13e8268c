-- Where the faults of a text stand (request 2026-01), for the questions 3 to 6 of document 01's table. A place in the syntax tree is the
-- text from there on, so the offset k is the place `drop k s` of the text s.
use Rattle.std.specs.Prelude.{ℕ, ◌≤◌, ◌<◌, ◌≡◌, List, ◌++◌, true, length, take, drop}
use Rattle.text_json.specs.Bytes.{AllBytes}
use Rattle.text_json.specs.Syntax.{Char, Numeral, Syntax, Elements, Members, number, string, array, object, element, member}
use Rattle.text_json.specs.Content.{unescape, refused_string, refused_number}
use Rattle.text_json.specs.Grammar.{Text}

-- 3: the first k bytes of s and some more bytes are a JSON text of nesting at most 8, and no more of its bytes begin one
pub record LongestStart (s : List ℕ) (k : ℕ) : Type 0 where
  pub inside : k ≤ length s
  pub more : List ℕ
  pub bytes : AllBytes more
  pub tree : Syntax
  pub goes_on : Text 8 (take k s ++ more) tree
  pub no_longer : (j : ℕ) → k < j → j ≤ length s → (w : List ℕ) (t : Syntax) → Text 8 (take j s ++ w) t → ⊥

-- the value u is t, or stands in it
mutual
  pub data Within (u : Syntax) : Syntax → Type 0 where
    itself : Within u u
    in_array : {es : Elements} → AmongElements u es → Within u (array es)
    in_object : {ms : Members} → AmongMembers u ms → Within u (object ms)

  pub data AmongElements (u : Syntax) : Elements → Type 0 where
    this_element : {t : Syntax} {es : Elements} → Within u t → AmongElements u (element t es)
    later_element : {t : Syntax} {es : Elements} → AmongElements u es → AmongElements u (element t es)

  pub data AmongMembers (u : Syntax) : Members → Type 0 where
    this_member : {p : List ℕ} {cs : List Char} {t : Syntax} {ms : Members} → Within u t → AmongMembers u (member p cs t ms)
    later_member : {p : List ℕ} {cs : List Char} {t : Syntax} {ms : Members} → AmongMembers u ms → AmongMembers u (member p cs t ms)

-- the key cs of these members, which begins at p with its quotation mark
pub data KeyOf (p : List ℕ) (cs : List Char) : Members → Type 0 where
  this_key : {t : Syntax} {ms : Members} → KeyOf p cs (member p cs t ms)
  later_key : {q : List ℕ} {ds : List Char} {t : Syntax} {ms : Members} → KeyOf p cs ms → KeyOf p cs (member q ds t ms)

-- 4: a string that is refused begins at p, which is the value or one of its keys
pub data FaultyString (p : List ℕ) : Syntax → Type 0 where
  bad_value : {cs : List Char} → refused_string cs ≡ true → FaultyString p (string p cs)
  bad_key : {cs : List Char} {ms : Members} → KeyOf p cs ms → refused_string cs ≡ true → FaultyString p (object ms)

-- 5: a number that is refused begins at p, which is the value
pub data FaultyNumber (p : List ℕ) : Syntax → Type 0 where
  bad_number : {n : Numeral} → refused_number n ≡ true → FaultyNumber p (number p n)

-- a key begins at p that is equal, unescaped, to an earlier one of these members
pub data Repeats (p : List ℕ) : Members → Type 0 where
  equal_key : {q : List ℕ} {cs ds : List Char} {t : Syntax} {ms : Members} → KeyOf p cs ms → unescape cs ≡ unescape ds → Repeats p (member q ds t ms)
  later_repeat : {q : List ℕ} {ds : List Char} {t : Syntax} {ms : Members} → Repeats p ms → Repeats p (member q ds t ms)

-- 6: a key begins at p that is equal to an earlier key of its object, which is the value
pub data RepeatedKey (p : List ℕ) : Syntax → Type 0 where
  repeated_key : {ms : Members} → Repeats p ms → RepeatedKey p (object ms)

-- s is a JSON text, at its byte k a value in it has the fault, and at no byte before does any value in it
pub record FirstAt (Faulty : List ℕ → Syntax → Type 0) (s : List ℕ) (k : ℕ) : Type 0 where
  pub tree : Syntax
  pub reads : Text 8 s tree
  pub inside : k < length s
  pub value : Syntax
  pub within : Within value tree
  pub there : Faulty (drop k s) value
  pub none_before : (j : ℕ) → j < k → (u : Syntax) → Within u tree → Faulty (drop j s) u → ⊥
