-- A content written without spaces is a text of the grammar with that content.
use Prim.Native.Nat.{ℕ, zero, suc, max}
use mathlib.Core.Path.{◌≡◌, refl, sym, ap, subst, ◌∙◌}
use mathlib.Core.List.{List, [], ◌∷◌, ◌++◌, append-nil, append_assoc}
use mathlib.Core.Bool.{Bool, true, false, ◌||◌}
use native.Mathlib.Omega.{arith}
use lib.Dec.{leb, eqb}
use borrow.Author.Tests.{leb-false, le-leb, eqb-true}
use Rattle.laws.specs.Order.{leq}
use Rattle.laws.proofs.Order.{by_test}
use Rattle.text_json.specs.Bytes.{is_unescaped, is_short, short_value}
use Rattle.text_json.specs.Syntax.{Char, byte, Syntax, Elements, Members, Member, elements, members}
use Rattle.text_json.specs.Grammar
use Rattle.text_json.specs.Grammar.{Space, Word, Int, Frac, Exp, Unsigned, Number, Chars, String, Scalar, Items, Listed, Pair, Nested, Text}
use Rattle.text_json.specs.Content.{unescape, lone, is_control, any_control, refused_string, escaped, quoted, signed}
use Rattle.text_content.specs.Value.{Value, Values, Fields, null, boolean, number, string, array, object, no_values, value, no_fields, field, content}
use Rattle.text_content.specs.Value.{contents, fields}
use Rattle.text_content.specs.Canonical.{insert_field, sorted, sorted_values, sorted_fields, comma, write, write_values, write_fields, canonical}
use Rattle.text_content.specs.Fault.{mark, string_fault, string_faults, key_string_faults, number_fault, number_faults, member_number_faults}
use Rattle.text_content.proofs.Basic.{or_left, or_right, max_left, max_right}
use Rattle.text_content.proofs.Formed.{Formed, FormedElements, FormedMembers, formed_null, formed_boolean, formed_number, formed_string, formed_array}
use Rattle.text_content.proofs.Formed.{formed_object, formed_none, formed_element, formed_empty, formed_member, formed, unmarked, int_again}
use Rattle.text_content.proofs.InRange.{InRange, InRangeValues, InRangeFields, range_of_array, range_of_object, range_of_number, range_of_value}
use Rattle.text_content.proofs.InRange.{range_of_field}

-- Contents that have a text: no control character in a string or a key, digits that are an int, arrays and objects at most so deep.
mutual
  pub data Plain : ℕ → Value → Type 0 where
    plain_null : {d : ℕ} → Plain d null
    plain_boolean : {d : ℕ} {b : Bool} → Plain d (boolean b)
    plain_number : {d : ℕ} {n : Bool} {ds : List ℕ} → Int ds ds [] → Plain d (number n ds)
    plain_string : {d : ℕ} {s : List ℕ} → any_control s ≡ false → Plain d (string s)
    plain_array : {d : ℕ} {vs : Values} → PlainValues d vs → Plain (suc d) (array vs)
    plain_object : {d : ℕ} {fs : Fields} → PlainFields d fs → Plain (suc d) (object fs)

  pub data PlainValues : ℕ → Values → Type 0 where
    plain_none : {d : ℕ} → PlainValues d no_values
    plain_value : {d : ℕ} {v : Value} {vs : Values} → Plain d v → PlainValues d vs → PlainValues d (value v vs)

  pub data PlainFields : ℕ → Fields → Type 0 where
    plain_empty : {d : ℕ} → PlainFields d no_fields
    plain_field : {d : ℕ} {k : List ℕ} {v : Value} {fs : Fields} → any_control k ≡ false → Plain d v → PlainFields d fs → PlainFields d (field k v fs)

-- the content of an accepted tree has a text
accepted : (cs : List Char) → refused_string cs ≡ false → any_control (unescape cs) ≡ false
unfolding refused_string
accepted cs e = or_right (lone cs) (any_control (unescape cs)) e

mutual
  unfolding content string_fault

  plain_formed : {d : ℕ} {t : Syntax} → Formed d t → string_fault t ≡ 0 → Plain d (content t)
  plain_formed formed_null e = plain_null
  plain_formed formed_boolean e = plain_boolean
  plain_formed (formed_number p i) e = plain_number i
  plain_formed (formed_string {cs = cs} p) e = plain_string (accepted cs (unmarked p (refused_string cs) e))
  plain_formed (formed_array h) e = plain_array (plain_elements h e)
  plain_formed (formed_object h) e = plain_object (plain_members h e)

  plain_elements : {d : ℕ} {es : Elements} → FormedElements d es → string_faults es ≡ 0 → PlainValues d (contents es)
  plain_elements formed_none e = plain_none
  plain_elements (formed_element {t = t} {es = es} h hs) e =
      plain_value (plain_formed h (max_left (string_fault t) (string_faults es) e)) (plain_elements hs (max_right (string_fault t) (string_faults es) e))

  plain_members : {d : ℕ} {ms : Members} → FormedMembers d ms → key_string_faults ms ≡ 0 → PlainFields d (fields ms)
  plain_members formed_empty e = plain_empty
  plain_members (formed_member {p = p} {cs = cs} {t = t} {ms = ms} q h hs) e =
      let own : max (mark (refused_string cs) p) (string_fault t) ≡ 0 = max_left (max (mark (refused_string cs) p) (string_fault t)) (key_string_faults ms) e in
      plain_field
      (accepted cs (unmarked q (refused_string cs) (max_left (mark (refused_string cs) p) (string_fault t) own)))
      (plain_formed h (max_right (mark (refused_string cs) p) (string_fault t) own))
      (plain_members hs (max_right (max (mark (refused_string cs) p) (string_fault t)) (key_string_faults ms) e))

-- The content of a value without a string fault has no control character, has ints as digits, and is at most as deep.
pub content_plain : (d : ℕ) (s : List ℕ) (t : Syntax) (r : List ℕ) → Grammar.Value d s t r → string_fault t ≡ 0 → Plain d (content t)
content_plain d s t r h e = plain_formed (formed d s t r h) e

-- sorting keeps that
plain_insert : {d : ℕ} (k : List ℕ) {v : Value} {fs : Fields} → any_control k ≡ false → Plain d v → PlainFields d fs → PlainFields d (insert_field k v fs)
unfolding insert_field
plain_insert k c p plain_empty = plain_field c p plain_empty
plain_insert {d} k {v} c p (plain_field {k = j} {v = w} {fs = fs} c' q h) = by_test (leq k j) before (after (plain_insert k c p h))
  where
    before : leq k j ≡ true → PlainFields d (insert_field k v (field j w fs))
    before e = rw (e, insert_field) (plain_field c p (plain_field c' q h))

    after : PlainFields d (insert_field k v fs) → leq k j ≡ false → PlainFields d (insert_field k v (field j w fs))
    after ih e = rw (e, insert_field) (plain_field c' q ih)

mutual
  unfolding sorted

  -- A content that has a text of some depth has one of that depth when sorted.
  pub plain_sorted : {d : ℕ} {v : Value} → Plain d v → Plain d (sorted v)
  plain_sorted plain_null = plain_null
  plain_sorted plain_boolean = plain_boolean
  plain_sorted (plain_number i) = plain_number i
  plain_sorted (plain_string c) = plain_string c
  plain_sorted (plain_array h) = plain_array (plain_sorted_values h)
  plain_sorted (plain_object h) = plain_object (plain_sorted_fields h)

  plain_sorted_values : {d : ℕ} {vs : Values} → PlainValues d vs → PlainValues d (sorted_values vs)
  plain_sorted_values plain_none = plain_none
  plain_sorted_values (plain_value p h) = plain_value (plain_sorted p) (plain_sorted_values h)

  plain_sorted_fields : {d : ℕ} {fs : Fields} → PlainFields d fs → PlainFields d (sorted_fields fs)
  plain_sorted_fields plain_empty = plain_empty
  plain_sorted_fields (plain_field {k = k} c p h) = plain_insert k c (plain_sorted p) (plain_sorted_fields h)

-- s begins with a value of the grammar that has the content v, and r follows; no string of it is refused, and no number of it is if
-- none of v is
pub record Reads (d : ℕ) (s : List ℕ) (v : Value) (r : List ℕ) : Type 0 where
  pub tree : Syntax
  pub reads : Grammar.Value d s tree r
  pub means : content tree ≡ v
  pub strings : string_fault tree ≡ 0
  pub numbers : InRange v → number_fault tree ≡ 0

-- a scalar is a value at every depth
scalar_value : (d : ℕ) {s r : List ℕ} {t : Syntax} → Scalar s t r → Grammar.Value d s t r
scalar_value zero h = h
scalar_value (suc d) h = Nested.is_scalar h

-- the chars of a string in canonical form are its bytes
bytes : List ℕ → List Char
bytes [] = []
bytes (b ∷ s) = byte b ∷ bytes s

unescape_bytes : (s : List ℕ) → unescape (bytes s) ≡ s
unfolding unescape bytes
unescape_bytes [] = refl
unescape_bytes (b ∷ s) = ap (λ (l : List ℕ). b ∷ l) (unescape_bytes s)

lone_bytes : (s : List ℕ) → lone (bytes s) ≡ false
unfolding lone bytes
lone_bytes [] = refl
lone_bytes (b ∷ s) = lone_bytes s

accepted_bytes : (s : List ℕ) → any_control s ≡ false → refused_string (bytes s) ≡ false
unfolding refused_string
accepted_bytes s e = rw (lone_bytes s, unescape_bytes s) e

-- the two characters that canonical form escapes, and the others
marked : (b : ℕ) → eqb b 0x22 || eqb b 0x5C ≡ true → (is_short b ≡ true) × (short_value b ≡ b)
unfolding is_short short_value
marked b e = by_test (eqb b 0x22) (λ q. at 0x22 (refl, refl) (eqb-true b 0x22 q)) (λ q. at 0x5C (refl, refl) (eqb-true b 0x5C (rw q at e)))
  where
    at : (c : ℕ) → (is_short c ≡ true) × (short_value c ≡ c) → b ≡ c → (is_short b ≡ true) × (short_value b ≡ b)
    at c h q = subst (λ (x : ℕ). (is_short x ≡ true) × (short_value x ≡ x)) (sym q) h

unmarked_byte : (b : ℕ) → is_control b ≡ false → eqb b 0x22 || eqb b 0x5C ≡ false → is_unescaped b ≡ true
unfolding is_control is_unescaped
unmarked_byte b c e =
    rw (le-leb 0x20 b (leb-false b 0x1F (or_left (leb b 0x1F) (eqb b 0x7F) c)), or_left (eqb b 0x22) (eqb b 0x5C) e, or_right (eqb b 0x22) (eqb b 0x5C) e) refl

escaped_chars : (s r : List ℕ) → any_control s ≡ false → Chars (escaped s ++ 0x22 ∷ r) (bytes s) r
unfolding escaped bytes any_control
escaped_chars [] r e = Chars.close refl
escaped_chars (b ∷ s) r e = go (escaped_chars s r (or_right (is_control b) (any_control s) e))
  where
    go : Chars (escaped s ++ 0x22 ∷ r) (bytes s) r → Chars (escaped (b ∷ s) ++ 0x22 ∷ r) (bytes (b ∷ s)) r
    go ih =
        by_test (eqb b 0x22 || eqb b 0x5C)
        (λ q. rw (q, escaped) (subst (λ (c : ℕ). Chars (0x5C ∷ b ∷ (escaped s ++ 0x22 ∷ r)) (byte c ∷ bytes s) r) (marked b q).1
        (Chars.short refl (marked b q).0 ih)))
        (λ q. rw (q, escaped) (Chars.unescaped (unmarked_byte b (or_left (is_control b) (any_control s) e) q) ih))

quoted_string : (s r : List ℕ) → any_control s ≡ false → String (quoted s ++ r) (bytes s) r
unfolding quoted
quoted_string s r e = rw append_assoc (String.quoted refl (escaped_chars s r e))

signed_number : (negative : Bool) (ds r : List ℕ) → Int ds ds []
    → Number (signed negative ds ++ r) (record { negative = negative; digits = ds; whole = true }) r
unfolding signed
signed_number true ds r i = Number.minus refl (Unsigned.unsigned (int_again i r) Frac.absent Exp.absent)
signed_number false ds r i = Number.plain (Unsigned.unsigned (int_again i r) Frac.absent Exp.absent)

word : (w r : List ℕ) → Word w (w ++ r) r
word [] r = Word.end
word (b ∷ w) r = Word.more refl (word w r)

bytes_accepted : (s p : List ℕ) → any_control s ≡ false → mark (refused_string (bytes s)) p ≡ 0
unfolding mark
bytes_accepted s p c = rw (accepted_bytes s c, mark)

-- values and members that each can be read, whatever follows
data ReadsBack (d : ℕ) : Values → Type 0 where
  none : ReadsBack d no_values
  more : (v : Value) {vs : Values} → ((r : List ℕ) → Reads d (write v ++ r) v r) → ReadsBack d vs → ReadsBack d (value v vs)

data ReadableFields (d : ℕ) : Fields → Type 0 where
  none : ReadableFields d no_fields
  more : (k : List ℕ) → any_control k ≡ false → (v : Value) {fs : Fields}
      → ((r : List ℕ) → Reads d (write v ++ r) v r) → ReadableFields d fs → ReadableFields d (field k v fs)

-- read from the first to the end mark
record ReadsValues (d : ℕ) (s : List ℕ) (vs : Values) (r : List ℕ) : Type 0 where
  trees : List Syntax
  reads : Items (Grammar.Value d) 0x5D s trees r
  means : contents (elements trees) ≡ vs
  strings : string_faults (elements trees) ≡ 0
  numbers : InRangeValues vs → number_faults (elements trees) ≡ 0

record ReadsFields (d : ℕ) (s : List ℕ) (fs : Fields) (r : List ℕ) : Type 0 where
  pairs : List Member
  reads : Items (Pair (Grammar.Value d)) 0x7D s pairs r
  means : fields (members pairs) ≡ fs
  strings : key_string_faults (members pairs) ≡ 0
  numbers : InRangeFields fs → member_number_faults (members pairs) ≡ 0

-- what is written, one value or member after the other
written_value : (v : Value) (vs : Values) (r : List ℕ) → write_values false (value v vs) ++ r ≡ 0x2C ∷ (write v ++ (write_values false vs ++ r))
unfolding write_values comma
written_value v vs r = ap (λ (l : List ℕ). 0x2C ∷ l) (append_assoc (write v) (write_values false vs) r)

written_array : (v : Value) (vs : Values) (r : List ℕ) → write (array (value v vs)) ++ r ≡ 0x5B ∷ (write v ++ (write_values false vs ++ 0x5D ∷ r))
unfolding write comma
written_array v vs r =
    ap (λ (l : List ℕ). 0x5B ∷ l) (append_assoc (write v ++ write_values false vs) (0x5D ∷ []) r
    ∙ append_assoc (write v) (write_values false vs) (0x5D ∷ r))

written_field : (k : List ℕ) (v : Value) (fs : Fields) (r : List ℕ)
    → write_fields false (field k v fs) ++ r ≡ 0x2C ∷ (quoted k ++ (0x3A ∷ (write v ++ (write_fields false fs ++ r))))
unfolding write_fields comma
written_field k v fs r =
    ap (λ (l : List ℕ). 0x2C ∷ l) (append_assoc (quoted k) (0x3A ∷ (write v ++ write_fields false fs)) r
    ∙ ap (λ (l : List ℕ). quoted k ++ (0x3A ∷ l)) (append_assoc (write v) (write_fields false fs) r))

written_object : (k : List ℕ) (v : Value) (fs : Fields) (r : List ℕ)
    → write (object (field k v fs)) ++ r ≡ 0x7B ∷ (quoted k ++ (0x3A ∷ (write v ++ (write_fields false fs ++ 0x7D ∷ r))))
unfolding write comma
written_object k v fs r =
    ap (λ (l : List ℕ). 0x7B ∷ l) (append_assoc (quoted k ++ (0x3A ∷ (write v ++ write_fields false fs))) (0x7D ∷ []) r
    ∙ append_assoc (quoted k) (0x3A ∷ (write v ++ write_fields false fs)) (0x7D ∷ r)
    ∙ ap (λ (l : List ℕ). quoted k ++ (0x3A ∷ l)) (append_assoc (write v) (write_fields false fs) (0x7D ∷ r)))

written_none : (r : List ℕ) → write_values false no_values ++ r ≡ r
unfolding write_values
written_none r = refl

written_empty : (r : List ℕ) → write_fields false no_fields ++ r ≡ r
unfolding write_fields
written_empty r = refl

values_read : {d : ℕ} {vs : Values} → ReadsBack d vs → (v : Value) → ((r : List ℕ) → Reads d (write v ++ r) v r) → (r : List ℕ)
    → ReadsValues d (write v ++ (write_values false vs ++ 0x5D ∷ r)) (value v vs) r
unfolding contents string_faults number_faults elements
values_read none v first r =
    let f = first (0x5D ∷ r) in
    rw (written_none (0x5D ∷ r)) (record {
      trees = f.tree ∷ [];
      reads = Items.last f.reads Space.end (Word.more refl Word.end);
      means = λ i. value (f.means i) no_values;
      strings = omega (arith, f.strings);
      numbers = λ x. omega (arith, f.numbers (range_of_value x).0);
    })
values_read (more w {vs = vs} second h) v first r =
    let f = first (0x2C ∷ (write w ++ (write_values false vs ++ 0x5D ∷ r))) in
    let rest = values_read h w second r in
    rw (written_value w vs (0x5D ∷ r)) (record {
      trees = f.tree ∷ rest.trees;
      reads = Items.next f.reads Space.end (Word.more refl Word.end) Space.end rest.reads;
      means = λ i. value (f.means i) (rest.means i);
      strings = omega (arith, f.strings, rest.strings);
      numbers = λ x. omega (arith, f.numbers (range_of_value x).0, rest.numbers (range_of_value x).1);
    })

reads_as : (d : ℕ) {s r : List ℕ} (t : Syntax) {v : Value} → Grammar.Value d s t r → content t ≡ v
    → string_fault t ≡ 0 → (InRange v → number_fault t ≡ 0) → Reads d s v r
reads_as d t h m c n = record { tree = t; reads = h; means = m; strings = c; numbers = n }

array_reads : {d : ℕ} {vs : Values} → ReadsBack d vs → (r : List ℕ) → Reads (suc d) (write (array vs) ++ r) (array vs) r
unfolding content string_fault number_fault elements
array_reads {d} none r = unfold write in
    reads_as (suc d) (Syntax.array (elements [])) (Nested.is_an_array refl (Listed.empty Space.end (Word.more refl Word.end))) refl refl (λ x. refl)
array_reads {d} (more v {vs = vs} first h) r =
    let rest = values_read h v first r in
    rw (written_array v vs r)
    (reads_as (suc d) (Syntax.array (elements rest.trees)) (Nested.is_an_array refl (Listed.items Space.end rest.reads)) (ap array rest.means)
    rest.strings (λ x. rest.numbers (range_of_array x)))

pair_read : {d : ℕ} (k : List ℕ) (v : Value) (r : List ℕ) → any_control k ≡ false → (f : Reads d (write v ++ r) v r)
    → Pair (Grammar.Value d) (quoted k ++ (0x3A ∷ (write v ++ r))) (record { place = quoted k ++ (0x3A ∷ (write v ++ r)); key = bytes k; value = f.tree }) r
pair_read k v r c f = Pair.pair (quoted_string k (0x3A ∷ (write v ++ r)) c) Space.end (Word.more refl Word.end) Space.end f.reads

fields_read : {d : ℕ} {fs : Fields} → ReadableFields d fs → (k : List ℕ) → any_control k ≡ false
    → (v : Value) → ((r : List ℕ) → Reads d (write v ++ r) v r) → (r : List ℕ)
    → ReadsFields d (quoted k ++ (0x3A ∷ (write v ++ (write_fields false fs ++ 0x7D ∷ r)))) (field k v fs) r
unfolding fields key_string_faults member_number_faults members
fields_read none k c v first r =
    let f = first (0x7D ∷ r) in
    rw (written_empty (0x7D ∷ r)) (record {
      pairs = _ ∷ [];
      reads = Items.last (pair_read k v (0x7D ∷ r) c f) Space.end (Word.more refl Word.end);
      means = λ i. field (unescape_bytes k i) (f.means i) no_fields;
      strings = omega (arith, f.strings, bytes_accepted k (quoted k ++ (0x3A ∷ (write v ++ (0x7D ∷ r)))) c);
      numbers = λ x. omega (arith, f.numbers (range_of_field x).0);
    })
fields_read (more j c' w {fs = fs} second h) k c v first r =
    let q : List ℕ = 0x2C ∷ (quoted j ++ (0x3A ∷ (write w ++ (write_fields false fs ++ 0x7D ∷ r)))) in
    let f = first q in
    let rest = fields_read h j c' w second r in
    rw (written_field j w fs (0x7D ∷ r)) (record {
      pairs = _ ∷ rest.pairs;
      reads = Items.next (pair_read k v q c f) Space.end (Word.more refl Word.end) Space.end rest.reads;
      means = λ i. field (unescape_bytes k i) (f.means i) (rest.means i);
      strings = omega (arith, f.strings, rest.strings, bytes_accepted k (quoted k ++ (0x3A ∷ (write v ++ q))) c);
      numbers = λ x. omega (arith, f.numbers (range_of_field x).0, rest.numbers (range_of_field x).1);
    })

object_reads : {d : ℕ} {fs : Fields} → ReadableFields d fs → (r : List ℕ) → Reads (suc d) (write (object fs) ++ r) (object fs) r
unfolding content string_fault number_fault members
object_reads {d} none r = unfold write in
    reads_as (suc d) (Syntax.object (members [])) (Nested.is_an_object refl (Listed.empty Space.end (Word.more refl Word.end))) refl refl (λ x. refl)
object_reads {d} (more k c v {fs = fs} first h) r =
    let rest = fields_read h k c v first r in
    rw (written_object k v fs r)
    (reads_as (suc d) (Syntax.object (members rest.pairs)) (Nested.is_an_object refl (Listed.items Space.end rest.reads)) (ap object rest.means)
    rest.strings (λ x. rest.numbers (range_of_object x)))

scalar_reads : (d : ℕ) {s r : List ℕ} (t : Syntax) {v : Value} → Scalar s t r → content t ≡ v
    → string_fault t ≡ 0 → (InRange v → number_fault t ≡ 0) → Reads d s v r
scalar_reads d t h m c n = reads_as d t (scalar_value d h) m c n

boolean_reads : (d : ℕ) (b : Bool) (r : List ℕ) → Reads d (write (boolean b) ++ r) (boolean b) r
unfolding write content string_fault number_fault
boolean_reads d true r = scalar_reads d (Syntax.boolean true) (Scalar.is_true (word _ r)) refl refl (λ x. refl)
boolean_reads d false r = scalar_reads d (Syntax.boolean false) (Scalar.is_false (word _ r)) refl refl (λ x. refl)

number_reads : (d : ℕ) (n : Bool) (ds r : List ℕ) → Int ds ds [] → Reads d (write (number n ds) ++ r) (number n ds) r
unfolding write content string_fault number_fault mark
number_reads d n ds r i =
    scalar_reads d (Syntax.number (signed n ds ++ r) (record { negative = n; digits = ds; whole = true })) (Scalar.is_a_number (signed_number n ds r i)) refl refl
    (λ x. rw (range_of_number x, mark))

string_reads : (d : ℕ) (s r : List ℕ) → any_control s ≡ false → Reads d (write (string s) ++ r) (string s) r
unfolding write content string_fault number_fault
string_reads d s r c =
    scalar_reads d (Syntax.string (quoted s ++ r) (bytes s)) (Scalar.is_a_string (quoted_string s r c)) (ap string (unescape_bytes s))
    (bytes_accepted s (quoted s ++ r) c) (λ x. refl)

mutual
  unfolding write content string_fault number_fault

  -- A content that has a text is read as a value with that content and without a string fault where it is written, whatever follows.
  pub write_reads : {d : ℕ} {v : Value} → Plain d v → (r : List ℕ) → Reads d (write v ++ r) v r
  write_reads (plain_null {d = d}) r = scalar_reads d Syntax.null (Scalar.is_null (word _ r)) refl refl (λ x. refl)
  write_reads (plain_boolean {d = d} {b = b}) r = boolean_reads d b r
  write_reads (plain_number {d = d} {n = n} {ds = ds} i) r = number_reads d n ds r i
  write_reads (plain_string {d = d} {s = s} c) r = string_reads d s r c
  write_reads (plain_array h) r = array_reads (values_readable h) r
  write_reads (plain_object h) r = object_reads (fields_readable h) r

  values_readable : {d : ℕ} {vs : Values} → PlainValues d vs → ReadsBack d vs
  values_readable plain_none = none
  values_readable (plain_value {v = v} p h) = more v (λ r. write_reads p r) (values_readable h)

  fields_readable : {d : ℕ} {fs : Fields} → PlainFields d fs → ReadableFields d fs
  fields_readable plain_empty = none
  fields_readable (plain_field {k = k} {v = v} c p h) = more k c v (λ r. write_reads p r) (fields_readable h)

-- the same of a whole text
pub record ReadsText (d : ℕ) (s : List ℕ) (v : Value) : Type 0 where
  pub tree : Syntax
  pub reads : Text d s tree
  pub means : content tree ≡ v
  pub strings : string_fault tree ≡ 0
  pub numbers : InRange v → number_fault tree ≡ 0

-- A content that has a text is, where it is written, a text with that content and without a string fault.
pub write_reads_text : {d : ℕ} {v : Value} → Plain d v → ReadsText d (write v) v
write_reads_text {d} {v} p =
    let h = write_reads p [] in
    let whole = subst (λ (s : List ℕ). Grammar.Value d s h.tree []) (append-nil (write v)) h.reads in
    record { tree = h.tree; reads = Text.text Space.end whole Space.end; means = h.means; strings = h.strings; numbers = h.numbers }

-- the canonical form of an accepted text is a text, with the sorted content
pub canonical_reads_back : (d : ℕ) (s : List ℕ) (t : Syntax) (r : List ℕ) → Grammar.Value d s t r → string_fault t ≡ 0
    → ReadsText d (canonical (content t)) (sorted (content t))
unfolding canonical
canonical_reads_back d s t r h e = write_reads_text (plain_sorted (content_plain d s t r h e))
