-- Contents in which no object has a key twice: such contents are the same exactly if they are equal when sorted, and their keys then
-- rise strictly.
use Prim.Native.Nat.{ℕ}
use mathlib.Core.Path.{◌≡◌, refl, sym, ap, subst, ◌∙◌}
use mathlib.Core.List.{List, [], ◌∷◌}
use mathlib.Core.Bool.{Bool, true, false}
use native.Mathlib.Omega.{arith}
use Rattle.laws.specs.Order.{leq, same}
use Rattle.laws.proofs.Order.{by_test, false_true, same_refl, same_eq}
use Rattle.text_json.specs.Syntax.{Syntax, Elements, Members, no_elements, element, no_members, member}
use Rattle.text_json.specs.Grammar
use Rattle.text_json.specs.Content.{unescape}
use Rattle.text_content.specs.Value.{Value, Values, Fields, null, boolean, number, string, array, object, value, no_fields, field, content}
use Rattle.text_content.specs.Value.{contents, fields, Same, SameValues, SameFields, Inserted, same_null, same_boolean, same_number, same_string}
use Rattle.text_content.specs.Value.{same_array, same_object, same_none, same_value, same_empty, same_field, here, there}
use Rattle.text_content.specs.Distinct.{Fresh, fresh_none, fresh_field, Distinct, distinct_null, distinct_boolean, distinct_number, distinct_string}
use Rattle.text_content.specs.Distinct.{distinct_array, distinct_object, DistinctValues, distinct_none, distinct_value, DistinctFields, distinct_empty}
use Rattle.text_content.specs.Distinct.{distinct_field}
use Rattle.text_content.specs.Canonical.{insert_field, sorted, sorted_values, sorted_fields}
use Rattle.text_content.specs.Fault.{mark, among, repeated, key_fault, key_faults, member_key_faults}
use Rattle.text_content.proofs.Basic.{max_left, max_right}
use Rattle.text_content.proofs.Each.{Each, EachValue, EachField, each_null, each_boolean, each_number, each_string, each_array, each_object, each_none}
use Rattle.text_content.proofs.Each.{each_value, each_empty, each_field}
use Rattle.text_content.proofs.Formed.{Formed, FormedElements, FormedMembers, formed_null, formed_boolean, formed_number, formed_string, formed_array}
use Rattle.text_content.proofs.Formed.{formed_object, formed_none, formed_element, formed_empty, formed_member, formed, unmarked}
use Rattle.text_content.proofs.Same.{same_sorted, same_sorted_fields, insert_swap, insert_before, insert_after, strictly}

-- contents that are the same have the same keys
fresh_inserted : {k j : List ℕ} {v : Value} {fs gs : Fields} → Inserted j v fs gs → (k ≡ j → ⊥) → Fresh k fs → Fresh k gs
fresh_inserted here n f = fresh_field n f
fresh_inserted (there i) n (fresh_field m f) = fresh_field m (fresh_inserted i n f)

-- A key that no member of an object has is a key that no member of an object with the same content has.
pub fresh_same : {k : List ℕ} {fs gs : Fields} → SameFields fs gs → Fresh k fs → Fresh k gs
fresh_same same_empty f = f
fresh_same (same_field p i h) (fresh_field n f) = fresh_inserted i n (fresh_same h f)

distinct_inserted : {k : List ℕ} {v : Value} {fs gs : Fields} → Inserted k v fs gs → Fresh k fs → Distinct v → DistinctFields fs → DistinctFields gs
distinct_inserted here f p h = distinct_field f p h
distinct_inserted (there i) (fresh_field n f) p (distinct_field g q h) = distinct_field (fresh_inserted i (λ e. n (sym e)) g) q (distinct_inserted i f p h)

mutual
  -- If no object of a content has a key twice, no object of a content that is the same has.
  pub distinct_same : {v w : Value} → Same v w → Distinct v → Distinct w
  distinct_same same_null d = d
  distinct_same same_boolean d = d
  distinct_same same_number d = d
  distinct_same same_string d = d
  distinct_same (same_array h) (distinct_array d) = distinct_array (distinct_same_values h d)
  distinct_same (same_object h) (distinct_object d) = distinct_object (distinct_same_fields h d)

  distinct_same_values : {vs ws : Values} → SameValues vs ws → DistinctValues vs → DistinctValues ws
  distinct_same_values same_none d = d
  distinct_same_values (same_value p h) (distinct_value d ds) = distinct_value (distinct_same p d) (distinct_same_values h ds)

  distinct_same_fields : {fs gs : Fields} → SameFields fs gs → DistinctFields fs → DistinctFields gs
  distinct_same_fields same_empty d = d
  distinct_same_fields (same_field p i h) (distinct_field f d ds) = distinct_inserted i (fresh_same h f) (distinct_same p d) (distinct_same_fields h ds)

-- If no object of a content has a key twice, no object of the sorted content has.
pub distinct_sorted : (v : Value) → Distinct v → Distinct (sorted v)
distinct_sorted v d = distinct_same (same_sorted v) d

-- contents that are the same are equal when sorted
sorted_inserted : {k : List ℕ} {v : Value} {fs gs : Fields} → Inserted k v fs gs → Fresh k fs → sorted_fields gs ≡ insert_field k (sorted v) (sorted_fields fs)
unfolding sorted_fields
sorted_inserted here f = refl
sorted_inserted {k} {v} (there {j = j} {w = w} {fs = fs} i) (fresh_field n f) =
    ap (insert_field j (sorted w)) (sorted_inserted i f) ∙ sym (insert_swap k j (sorted v) (sorted w) (sorted_fields fs) n)

mutual
  unfolding sorted

  -- Contents that are the same are equal when sorted, if no object of the first has a key twice.
  pub sorted_same : {v w : Value} → Same v w → Distinct v → sorted v ≡ sorted w
  sorted_same same_null d = refl
  sorted_same same_boolean d = refl
  sorted_same same_number d = refl
  sorted_same same_string d = refl
  sorted_same (same_array h) (distinct_array d) = ap array (sorted_same_values h d)
  sorted_same (same_object h) (distinct_object d) = ap object (sorted_same_fields h d)

  sorted_same_values : {vs ws : Values} → SameValues vs ws → DistinctValues vs → sorted_values vs ≡ sorted_values ws
  sorted_same_values same_none d = refl
  sorted_same_values (same_value p h) (distinct_value d ds) = λ i. value (sorted_same p d i) (sorted_same_values h ds i)

  sorted_same_fields : {fs gs : Fields} → SameFields fs gs → DistinctFields fs → sorted_fields fs ≡ sorted_fields gs
  sorted_same_fields same_empty d = refl
  sorted_same_fields (same_field {k = k} p j h) (distinct_field f d ds) =
      (λ i. insert_field k (sorted_same p d i) (sorted_same_fields h ds i)) ∙ sym (sorted_inserted j (fresh_same h f))

-- keys that rise strictly in every object
pub data Below (k : List ℕ) : Fields → Type 0 where
  below_none : Below k no_fields
  below_field : {j : List ℕ} {v : Value} {fs : Fields} → leq j k ≡ false → Below k (field j v fs)

abbrev RisingFields : Fields → Type 0
RisingFields = EachField (λ n ds. Unit {0}) Below

abbrev pub Rising : Value → Type 0
Rising = Each (λ n ds. Unit {0}) Below

below_insert : {j : List ℕ} (k : List ℕ) (v : Value) {fs : Fields} → leq k j ≡ false → Below j fs → Below j (insert_field k v fs)
unfolding insert_field
below_insert k v e below_none = below_field e
below_insert k v e (below_field {j = i} {v = w} {fs = fs} f) =
    by_test (leq k i) (λ g. rw (insert_before k i v w fs g) (below_field e)) (λ g. rw (insert_after k i v w fs g) (below_field f))

rising_insert : {k : List ℕ} {v : Value} {fs : Fields} → Fresh k fs → Rising v → RisingFields fs → RisingFields (insert_field k v fs)
unfolding insert_field
rising_insert f p each_empty = each_field below_none p each_empty
rising_insert {k} {v} (fresh_field n f) p (each_field {k = j} {v = w} {fs = fs} b q h) = go (rising_insert f p h)
  where
    go : RisingFields (insert_field k v fs) → RisingFields (insert_field k v (field j w fs))
    go ih =
        by_test (leq k j)
        (λ e. rw (insert_before k j v w fs e) (each_field (below_field (strictly k j e n)) p (each_field b q h)))
        (λ e. rw (insert_after k j v w fs e) (each_field (below_insert k v e b) q ih))

mutual
  unfolding sorted

  -- If no object of a content has a key twice, the sorted content has the keys of every object in strictly rising order.
  pub rising_sorted : {v : Value} → Distinct v → Rising (sorted v)
  rising_sorted distinct_null = each_null
  rising_sorted distinct_boolean = each_boolean
  rising_sorted distinct_number = each_number tt
  rising_sorted distinct_string = each_string
  rising_sorted (distinct_array d) = each_array (rising_sorted_values d)
  rising_sorted (distinct_object d) = each_object (rising_sorted_fields d)

  rising_sorted_values : {vs : Values} → DistinctValues vs → EachValue (λ n ds. Unit {0}) Below (sorted_values vs)
  rising_sorted_values distinct_none = each_none
  rising_sorted_values (distinct_value d ds) = each_value (rising_sorted d) (rising_sorted_values ds)

  rising_sorted_fields : {fs : Fields} → DistinctFields fs → RisingFields (sorted_fields fs)
  rising_sorted_fields distinct_empty = each_empty
  rising_sorted_fields (distinct_field {fs = fs} f d ds) = rising_insert (fresh_same (same_sorted_fields fs) f) (rising_sorted d) (rising_sorted_fields ds)

-- a key among others
among_first : (k : List ℕ) (js : List (List ℕ)) → among k (k ∷ js) ≡ true
unfolding among
among_first k js = rw (same_refl k, among)

among_later : (k j : List ℕ) (js : List (List ℕ)) → among k js ≡ true → among k (j ∷ js) ≡ true
unfolding among
among_later k j js e = by_test (same k j) (λ q. rw (q, among)) (λ q. rw (q, among) e)

among_cases : {C : Type 0} (k j : List ℕ) (js : List (List ℕ)) → among k (j ∷ js) ≡ true → (k ≡ j → C) → (among k js ≡ true → C) → C
unfolding among
among_cases k j js e f g = by_test (same k j) (λ q. f (same_eq k j q)) (λ q. g (rw (q, among) at e))

-- where no key is marked, none of the earlier keys comes again
unrepeated : {d : ℕ} {ms : Members} (earlier : List (List ℕ)) → FormedMembers d ms → repeated earlier ms ≡ 0
    → (k : List ℕ) → among k earlier ≡ true → Fresh k (fields ms)
unfolding repeated fields
unrepeated earlier formed_empty e k a = fresh_none
unrepeated earlier (formed_member {p = p} {cs = cs} {ms = ms} q h hs) e k a =
    let own = max_left (mark (among (unescape cs) earlier) p) (repeated (unescape cs ∷ earlier) ms) e in
    let rest = max_right (mark (among (unescape cs) earlier) p) (repeated (unescape cs ∷ earlier) ms) e in
    fresh_field
    (λ x. false_true (sym (unmarked q (among (unescape cs) earlier) own) ∙ ap (λ (j : List ℕ). among j earlier) (sym x) ∙ a))
    (unrepeated (unescape cs ∷ earlier) hs rest k (among_later k (unescape cs) earlier a))

mutual
  unfolding content key_fault repeated

  distinct_formed : {d : ℕ} {t : Syntax} → Formed d t → key_fault t ≡ 0 → Distinct (content t)
  distinct_formed formed_null e = distinct_null
  distinct_formed formed_boolean e = distinct_boolean
  distinct_formed (formed_number p i) e = distinct_number
  distinct_formed (formed_string p) e = distinct_string
  distinct_formed (formed_array h) e = distinct_array (distinct_elements h e)
  distinct_formed (formed_object {ms = ms} h) e =
      distinct_object (distinct_members h [] (max_left (repeated [] ms) (member_key_faults ms) e) (max_right (repeated [] ms) (member_key_faults ms) e))

  distinct_elements : {d : ℕ} {es : Elements} → FormedElements d es → key_faults es ≡ 0 → DistinctValues (contents es)
  distinct_elements formed_none e = distinct_none
  distinct_elements (formed_element {t = t} {es = es} h hs) e =
      distinct_value (distinct_formed h (max_left (key_fault t) (key_faults es) e)) (distinct_elements hs (max_right (key_fault t) (key_faults es) e))

  distinct_members : {d : ℕ} {ms : Members} → FormedMembers d ms → (earlier : List (List ℕ)) → repeated earlier ms ≡ 0 → member_key_faults ms ≡ 0
      → DistinctFields (fields ms)
  distinct_members formed_empty earlier e f = distinct_empty
  distinct_members (formed_member {p = p} {cs = cs} {t = t} {ms = ms} q h hs) earlier e f =
      let rest = max_right (mark (among (unescape cs) earlier) p) (repeated (unescape cs ∷ earlier) ms) e in
      distinct_field
      (unrepeated (unescape cs ∷ earlier) hs rest (unescape cs) (among_first (unescape cs) earlier))
      (distinct_formed h (max_left (key_fault t) (member_key_faults ms) f))
      (distinct_members hs (unescape cs ∷ earlier) rest (max_right (key_fault t) (member_key_faults ms) f))

-- If a value of the text has no key fault, no object of its content has a key twice.
pub content_distinct : (d : ℕ) (s : List ℕ) (t : Syntax) (r : List ℕ) → Grammar.Value d s t r → key_fault t ≡ 0 → Distinct (content t)
content_distinct d s t r h e = distinct_formed (formed d s t r h) e

-- the other way: a tree whose content has no key twice has no marked key
fresh_first : {k : List ℕ} {v : Value} {fs : Fields} → Fresh k (field k v fs) → ⊥
fresh_first (fresh_field n f) = n refl

fresh_rest : {k j : List ℕ} {v : Value} {fs : Fields} → Fresh k (field j v fs) → Fresh k fs
fresh_rest (fresh_field n f) = f

unmarked_key : (faulty : Bool) (p : List ℕ) → (faulty ≡ true → ⊥) → mark faulty p ≡ 0
unfolding mark
unmarked_key true p n = absurd (n refl)
unmarked_key false p n = refl

repeated_none : (ms : Members) (earlier : List (List ℕ))
    → ((k : List ℕ) → among k earlier ≡ true → Fresh k (fields ms)) → DistinctFields (fields ms) → repeated earlier ms ≡ 0
unfolding repeated fields
repeated_none no_members earlier f d = refl
repeated_none (member p cs t ms) earlier f (distinct_field g c d) =
    let own = unmarked_key (among (unescape cs) earlier) p (λ a. fresh_first (f (unescape cs) a)) in
    let rest = repeated_none ms (unescape cs ∷ earlier) fresh d in
    omega arith
  where
    fresh : (k : List ℕ) → among k (unescape cs ∷ earlier) ≡ true → Fresh k (fields ms)
    fresh k a = among_cases k (unescape cs) earlier a (λ e. subst (λ (j : List ℕ). Fresh j (fields ms)) (sym e) g) (λ b. fresh_rest (f k b))

mutual
  unfolding content key_fault among

  -- If no object of a tree's content has a key twice, the tree has no key fault.
  pub distinct_unmarked : (t : Syntax) → Distinct (content t) → key_fault t ≡ 0
  distinct_unmarked Syntax.null d = refl
  distinct_unmarked (Syntax.boolean b) d = refl
  distinct_unmarked (Syntax.number p n) d = refl
  distinct_unmarked (Syntax.string p cs) d = refl
  distinct_unmarked (Syntax.array es) (distinct_array d) = distinct_unmarked_elements es d
  distinct_unmarked (Syntax.object ms) (distinct_object d) = omega (arith, repeated_none ms [] (λ k a. false_true a) d, distinct_unmarked_members ms d)

  distinct_unmarked_elements : (es : Elements) → DistinctValues (contents es) → key_faults es ≡ 0
  distinct_unmarked_elements no_elements d = refl
  distinct_unmarked_elements (element t es) (distinct_value d ds) = omega (arith, distinct_unmarked t d, distinct_unmarked_elements es ds)

  distinct_unmarked_members : (ms : Members) → DistinctFields (fields ms) → member_key_faults ms ≡ 0
  distinct_unmarked_members no_members d = refl
  distinct_unmarked_members (member p cs t ms) (distinct_field f d ds) = omega (arith, distinct_unmarked t d, distinct_unmarked_members ms ds)
