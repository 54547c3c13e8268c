-- The canonical form of a text that is well-formed UTF-8 is well-formed UTF-8.
use Prim.Native.Nat.{ℕ, zero, suc, max, ◌<◌}
use mathlib.Core.Path.{◌≡◌, refl, sym, subst, ◌∙◌}
use mathlib.Core.List.{List, [], ◌∷◌, ◌++◌}
use mathlib.Core.Bool.{Bool, true, false, ◌||◌}
use native.Mathlib.Omega.{arith}
use lib.Dec.{eqb}
use borrow.Author.Tests.{eqb-true}
use Rattle.laws.specs.Order.{leq}
use Rattle.laws.proofs.Order.{by_test}
use Rattle.text_utf8.specs.Utf8.{Range, utf8_from, utf8}
use Rattle.text_utf8.proofs.Between.{high, next, ascii_before, ascii_between, utf8_both}
use Rattle.text_json.specs.Syntax.{Char, Syntax, Member, elements, members}
use Rattle.text_json.specs.Grammar
use Rattle.text_json.specs.Grammar.{Space, Word, String, Scalar, Items, Listed, Pair, Nested, Text}
use Rattle.text_json.specs.Content.{unescape, lone, any_control, refused_string, escaped, quoted, signed}
use Rattle.text_content.specs.Value.{Value, Values, Fields, null, boolean, number, string, array, object, no_values, value, no_fields, field, content}
use Rattle.text_content.specs.Value.{contents, fields}
use Rattle.text_content.specs.Canonical.{insert_field, sorted, sorted_values, sorted_fields, comma, write, write_values, write_fields, canonical}
use Rattle.text_content.specs.Fault.{mark, string_fault, string_faults, key_string_faults}
use Rattle.text_content.proofs.Basic.{or_left, max_left, max_right}
use Rattle.text_content.proofs.Formed.{before, unmarked}
use Rattle.text_content.proofs.Utf8Parts.{ascii_utf8, space_utf8, mark_utf8, word_utf8, number_utf8, string_utf8}

-- contents in which every string and every key is well-formed
mutual
  pub data Utf8Value : Value → Type 0 where
    utf8_null : Utf8Value null
    utf8_boolean : {b : Bool} → Utf8Value (boolean b)
    utf8_number : {n : Bool} {ds : List ℕ} → utf8 ds ≡ true → Utf8Value (number n ds)
    utf8_string : {s : List ℕ} → utf8 s ≡ true → Utf8Value (string s)
    utf8_array : {vs : Values} → Utf8Values vs → Utf8Value (array vs)
    utf8_object : {fs : Fields} → Utf8Fields fs → Utf8Value (object fs)

  pub data Utf8Values : Values → Type 0 where
    utf8_none : Utf8Values no_values
    utf8_value : {v : Value} {vs : Values} → Utf8Value v → Utf8Values vs → Utf8Values (value v vs)

  pub data Utf8Fields : Fields → Type 0 where
    utf8_empty : Utf8Fields no_fields
    utf8_field : {k : List ℕ} {v : Value} {fs : Fields} → utf8 k ≡ true → Utf8Value v → Utf8Fields fs → Utf8Fields (field k v fs)

-- sorting keeps that
utf8_insert : (k : List ℕ) {v : Value} {fs : Fields} → utf8 k ≡ true → Utf8Value v → Utf8Fields fs → Utf8Fields (insert_field k v fs)
unfolding insert_field
utf8_insert k c p utf8_empty = utf8_field c p utf8_empty
utf8_insert k {v} c p (utf8_field {k = j} {v = w} {fs = fs} c' q h) = by_test (leq k j) first (after (utf8_insert k c p h))
  where
    first : leq k j ≡ true → Utf8Fields (insert_field k v (field j w fs))
    first e = rw (e, insert_field) (utf8_field c p (utf8_field c' q h))

    after : Utf8Fields (insert_field k v fs) → leq k j ≡ false → Utf8Fields (insert_field k v (field j w fs))
    after ih e = rw (e, insert_field) (utf8_field c' q ih)

mutual
  unfolding sorted

  -- If the strings, keys and digits of a content are well-formed UTF-8, those of the sorted content are.
  pub utf8_sorted : {v : Value} → Utf8Value v → Utf8Value (sorted v)
  utf8_sorted utf8_null = utf8_null
  utf8_sorted utf8_boolean = utf8_boolean
  utf8_sorted (utf8_number e) = utf8_number e
  utf8_sorted (utf8_string e) = utf8_string e
  utf8_sorted (utf8_array h) = utf8_array (utf8_sorted_values h)
  utf8_sorted (utf8_object h) = utf8_object (utf8_sorted_fields h)

  utf8_sorted_values : {vs : Values} → Utf8Values vs → Utf8Values (sorted_values vs)
  utf8_sorted_values utf8_none = utf8_none
  utf8_sorted_values (utf8_value p h) = utf8_value (utf8_sorted p) (utf8_sorted_values h)

  utf8_sorted_fields : {fs : Fields} → Utf8Fields fs → Utf8Fields (sorted_fields fs)
  utf8_sorted_fields utf8_empty = utf8_empty
  utf8_sorted_fields (utf8_field {k = k} e p h) = utf8_insert k e (utf8_sorted p) (utf8_sorted_fields h)

-- a backslash stands only before a byte below 80
marked_below : (b : ℕ) → eqb b 0x22 || eqb b 0x5C ≡ true → b < 0x80
marked_below b e =
    by_test (eqb b 0x22) (λ q. let h = eqb-true b 0x22 q in omega arith) (λ q. let h = eqb-true b 0x5C (rw q at e) in omega arith)

escaped_from : (rs : List Range) (s : List ℕ) → high rs ≡ true → utf8_from rs s ≡ true → utf8_from rs (escaped s) ≡ true
unfolding escaped
escaped_from rs [] h w = w
escaped_from rs (b ∷ s) h w = go (λ qs. escaped_from qs s)
  where
    go : ((qs : List Range) → high qs ≡ true → utf8_from qs s ≡ true → utf8_from qs (escaped s) ≡ true) → utf8_from rs (escaped (b ∷ s)) ≡ true
    go ih = by_test (eqb b 0x22 || eqb b 0x5C) two one
      where
        two : eqb b 0x22 || eqb b 0x5C ≡ true → utf8_from rs (escaped (b ∷ s)) ≡ true
        two e = unfold utf8 in
            let p = ascii_between rs b s h (marked_below b e) w in
            rw (e, escaped) (subst (λ (qs : List Range). utf8_from qs (0x5C ∷ b ∷ escaped s) ≡ true) (sym p.0)
            (ascii_before 0x5C (b ∷ escaped s) (omega arith) (ascii_before b (escaped s) (marked_below b e) (ih [] refl p.1))))

        one : eqb b 0x22 || eqb b 0x5C ≡ false → utf8_from rs (escaped (b ∷ s)) ≡ true
        one e =
            let n = next rs b s h w in
            rw (e, escaped) (n.same (escaped s) ∙ ih n.left n.above n.well)

-- A string in canonical form is well-formed UTF-8 if its content is.
pub quoted_utf8 : (s : List ℕ) → utf8 s ≡ true → utf8 (quoted s) ≡ true
unfolding quoted utf8
quoted_utf8 s e =
    ascii_before 0x22 (escaped s ++ (0x22 ∷ [])) (omega arith)
    (utf8_both (escaped s) (0x22 ∷ []) (escaped_from [] s refl e) (ascii_utf8 (0x22 ∷ []) (omega arith)))

signed_utf8 : (n : Bool) (ds : List ℕ) → utf8 ds ≡ true → utf8 (signed n ds) ≡ true
unfolding signed
signed_utf8 true ds e = ascii_before 0x2D ds (omega arith) e
signed_utf8 false ds e = e

comma_utf8 : (first : Bool) → utf8 (comma first) ≡ true
unfolding comma
comma_utf8 true = ascii_utf8 [] tt
comma_utf8 false = ascii_utf8 (0x2C ∷ []) (omega arith)

boolean_utf8 : (b : Bool) → utf8 (write (boolean b)) ≡ true
unfolding write
boolean_utf8 true = ascii_utf8 (0x74 ∷ 0x72 ∷ 0x75 ∷ 0x65 ∷ []) (omega arith)
boolean_utf8 false = ascii_utf8 (0x66 ∷ 0x61 ∷ 0x6C ∷ 0x73 ∷ 0x65 ∷ []) (omega arith)

-- what is written is well-formed
mutual
  unfolding write

  -- If the strings, keys and digits of a content are well-formed UTF-8, it is written as well-formed UTF-8.
  pub utf8_write : {v : Value} → Utf8Value v → utf8 (write v) ≡ true
  utf8_write utf8_null = ascii_utf8 (0x6E ∷ 0x75 ∷ 0x6C ∷ 0x6C ∷ []) (omega arith)
  utf8_write (utf8_boolean {b = b}) = boolean_utf8 b
  utf8_write (utf8_number {n = n} {ds = ds} e) = signed_utf8 n ds e
  utf8_write (utf8_string {s = s} e) = quoted_utf8 s e
  utf8_write (utf8_array {vs = vs} h) =
      ascii_before 0x5B (write_values true vs ++ (0x5D ∷ [])) (omega arith)
      (utf8_both (write_values true vs) (0x5D ∷ []) (utf8_write_values true h) (ascii_utf8 (0x5D ∷ []) (omega arith)))
  utf8_write (utf8_object {fs = fs} h) =
      ascii_before 0x7B (write_fields true fs ++ (0x7D ∷ [])) (omega arith)
      (utf8_both (write_fields true fs) (0x7D ∷ []) (utf8_write_fields true h) (ascii_utf8 (0x7D ∷ []) (omega arith)))

  utf8_write_values : (first : Bool) {vs : Values} → Utf8Values vs → utf8 (write_values first vs) ≡ true
  utf8_write_values first utf8_none = ascii_utf8 [] tt
  utf8_write_values first (utf8_value {v = v} {vs = vs} p h) =
      utf8_both (comma first) (write v ++ write_values false vs) (comma_utf8 first)
      (utf8_both (write v) (write_values false vs) (utf8_write p) (utf8_write_values false h))

  utf8_write_fields : (first : Bool) {fs : Fields} → Utf8Fields fs → utf8 (write_fields first fs) ≡ true
  utf8_write_fields first utf8_empty = ascii_utf8 [] tt
  utf8_write_fields first (utf8_field {k = k} {v = v} {fs = fs} e p h) =
      utf8_both (comma first) (quoted k ++ (0x3A ∷ (write v ++ write_fields false fs))) (comma_utf8 first)
      (utf8_both (quoted k) (0x3A ∷ (write v ++ write_fields false fs)) (quoted_utf8 k e)
      (ascii_before 0x3A (write v ++ write_fields false fs) (omega arith)
      (utf8_both (write v) (write_fields false fs) (utf8_write p) (utf8_write_fields false h))))

-- what a string of the text stands for
named_utf8 : {s r : List ℕ} {cs : List Char} → String s cs r → utf8 s ≡ true → mark (refused_string cs) s ≡ 0
    → (utf8 (unescape cs) ≡ true) × (utf8 r ≡ true)
unfolding refused_string utf8
named_utf8 (String.quoted {cs = cs} e h) w f =
    let t = string_utf8 (String.quoted e h) w in
    (t.inside (or_left (lone cs) (any_control (unescape cs)) (unmarked before (refused_string cs) f)), t.after)

-- a part of the text that stands for x, and what follows it
abbrev pub Kept : Type 0 → List ℕ → Type 0
Kept x r = x × (utf8 r ≡ true)

scalar_utf8 : {s r : List ℕ} {t : Syntax} → Scalar s t r → utf8 s ≡ true → string_fault t ≡ 0 → Kept (Utf8Value (content t)) r
unfolding content string_fault
scalar_utf8 (Scalar.is_null h) w f = (utf8_null, word_utf8 (omega arith) h w)
scalar_utf8 (Scalar.is_true h) w f = (utf8_boolean, word_utf8 (omega arith) h w)
scalar_utf8 (Scalar.is_false h) w f = (utf8_boolean, word_utf8 (omega arith) h w)
scalar_utf8 (Scalar.is_a_number h) w f = let t = number_utf8 h w in (utf8_number t.0, t.1)
scalar_utf8 (Scalar.is_a_string h) w f = let t = named_utf8 h w f in (utf8_string t.0, t.1)

-- a mark with the spaces before it, and those after it
before_mark : {m : ℕ} {s s₁ r : List ℕ} → m < 0x80 → Space s s₁ → Word (m ∷ []) s₁ r → utf8 s ≡ true → utf8 r ≡ true
before_mark l g h w = word_utf8 (l, tt) h (space_utf8 g w)

around_mark : {m : ℕ} {s s₁ s₂ r : List ℕ} → m < 0x80 → Space s s₁ → Word (m ∷ []) s₁ s₂ → Space s₂ r → utf8 s ≡ true → utf8 r ≡ true
around_mark l g h g' w = space_utf8 g' (before_mark l g h w)

module _ (Inner : List ℕ → Syntax → List ℕ → Type 0)
    (inner : (s : List ℕ) (t : Syntax) (r : List ℕ) → Inner s t r → utf8 s ≡ true → string_fault t ≡ 0 → Kept (Utf8Value (content t)) r) where
  items_utf8 : {m : ℕ} → m < 0x80 → {s r : List ℕ} {ts : List Syntax} → Items Inner m s ts r → utf8 s ≡ true → string_faults (elements ts) ≡ 0
      → Kept (Utf8Values (contents (elements ts))) r
  unfolding elements contents string_faults
  items_utf8 l (Items.last {t = t} h g e) w f =
      let a = inner _ _ _ h w (max_left (string_fault t) 0 f) in
      (utf8_value a.0 utf8_none, before_mark l g e a.1)
  items_utf8 l (Items.next {t = t} {ts = ts} h g e g' i) w f =
      let a = inner _ _ _ h w (max_left (string_fault t) (string_faults (elements ts)) f) in
      let b = items_utf8 l i (around_mark (omega arith) g e g' a.1) (max_right (string_fault t) (string_faults (elements ts)) f) in
      (utf8_value a.0 b.0, b.1)

  listed_utf8 : {m : ℕ} → m < 0x80 → {s r : List ℕ} {ts : List Syntax} → Listed Inner m s ts r → utf8 s ≡ true → string_faults (elements ts) ≡ 0
      → Kept (Utf8Values (contents (elements ts))) r
  unfolding elements contents
  listed_utf8 l (Listed.empty g e) w f = (utf8_none, before_mark l g e w)
  listed_utf8 l (Listed.items g i) w f = items_utf8 l i (space_utf8 g w) f

  pair_utf8 : {s r : List ℕ} {m : Member} → Pair Inner s m r → utf8 s ≡ true → max (mark (refused_string m.key) m.place) (string_fault m.value) ≡ 0
      → Kept ((utf8 (unescape m.key) ≡ true) × (Utf8Value (content m.value))) r
  pair_utf8 (Pair.pair {s = s} {cs = cs} {t = t} k g e g' h) w f =
      let a = named_utf8 k w (max_left (mark (refused_string cs) s) (string_fault t) f) in
      let b = inner _ _ _ h (around_mark (omega arith) g e g' a.1) (max_right (mark (refused_string cs) s) (string_fault t) f) in
      ((a.0, b.0), b.1)

  pairs_utf8 : {m : ℕ} → m < 0x80 → {s r : List ℕ} {ms : List Member} → Items (Pair Inner) m s ms r → utf8 s ≡ true → key_string_faults (members ms) ≡ 0
      → Kept (Utf8Fields (fields (members ms))) r
  unfolding members fields key_string_faults
  pairs_utf8 l (Items.last {t = m} h g e) w f =
      let a = pair_utf8 h w (max_left (max (mark (refused_string m.key) m.place) (string_fault m.value)) 0 f) in
      (utf8_field a.0.0 a.0.1 utf8_empty, before_mark l g e a.1)
  pairs_utf8 l (Items.next {t = m} {ts = ms} h g e g' i) w f =
      let own = max (mark (refused_string m.key) m.place) (string_fault m.value) in
      let a = pair_utf8 h w (max_left own (key_string_faults (members ms)) f) in
      let b = pairs_utf8 l i (around_mark (omega arith) g e g' a.1) (max_right own (key_string_faults (members ms)) f) in
      (utf8_field a.0.0 a.0.1 b.0, b.1)

  members_utf8 : {m : ℕ} → m < 0x80 → {s r : List ℕ} {ms : List Member} → Listed (Pair Inner) m s ms r → utf8 s ≡ true → key_string_faults (members ms) ≡ 0
      → Kept (Utf8Fields (fields (members ms))) r
  unfolding members fields
  members_utf8 l (Listed.empty g e) w f = (utf8_empty, before_mark l g e w)
  members_utf8 l (Listed.items g i) w f = pairs_utf8 l i (space_utf8 g w) f

-- every string and key of a well-formed text stands for a well-formed one
pub content_utf8 : (d : ℕ) (s : List ℕ) (t : Syntax) (r : List ℕ) → Grammar.Value d s t r → utf8 s ≡ true → string_fault t ≡ 0
    → Kept (Utf8Value (content t)) r
unfolding content string_fault
content_utf8 zero s t r h w f = scalar_utf8 h w f
content_utf8 (suc d) s t r (Nested.is_scalar h) w f = scalar_utf8 h w f
content_utf8 (suc d) _ _ r (Nested.is_an_array {b = b} {s = s} e h) w f =
    let a = listed_utf8 (Grammar.Value d) (content_utf8 d) (omega arith) h (mark_utf8 b 0x5B s e (omega arith) w) f in
    (utf8_array a.0, a.1)
content_utf8 (suc d) _ _ r (Nested.is_an_object {b = b} {s = s} e h) w f =
    let a = members_utf8 (Grammar.Value d) (content_utf8 d) (omega arith) h (mark_utf8 b 0x7B s e (omega arith) w) f in
    (utf8_object a.0, a.1)

-- the canonical form of a well-formed text is well-formed
pub form_utf8 : {d : ℕ} {s : List ℕ} {t : Syntax} → Text d s t → utf8 s ≡ true → string_fault t ≡ 0 → utf8 (canonical (content t)) ≡ true
unfolding canonical
form_utf8 {d} (Text.text {s₁ = s₁} {s₂ = s₂} {t = t} g h g') w f = utf8_write (utf8_sorted (content_utf8 d s₁ t s₂ h (space_utf8 g w) f).0)
