-- `Same` is an equivalence, and a content is the same as itself sorted.
use Prim.Native.Nat.{ℕ}
use mathlib.Core.Path.{◌≡◌, refl, sym, ap, subst, ◌∙◌}
use mathlib.Core.List.{List}
use mathlib.Core.Bool.{true, false}
use Rattle.laws.specs.Order.{leq}
use Rattle.laws.proofs.Order.{by_test, false_true, leq_refl, leq_total, leq_trans, leq_antisym}
use Rattle.text_content.specs.Value.{Value, Values, Fields, null, boolean, number, string, array, object, no_values, value, no_fields, field, Same}
use Rattle.text_content.specs.Value.{SameValues, SameFields, Inserted, same_null, same_boolean, same_number, same_string, same_array, same_object}
use Rattle.text_content.specs.Value.{same_none, same_value, same_empty, same_field, here, there}
use Rattle.text_content.specs.Canonical.{insert_field, sorted, sorted_values, sorted_fields}

-- a member put in its place is inserted
pub inserted : (k : List ℕ) (v : Value) (fs : Fields) → Inserted k v fs (insert_field k v fs)
unfolding insert_field
inserted k v no_fields = here
inserted k v (field j w fs) = by_test (leq k j) (λ e. rw (e, insert_field) here) (go (inserted k v fs))
  where
    go : Inserted k v fs (insert_field k v fs) → leq k j ≡ false → Inserted k v (field j w fs) (insert_field k v (field j w fs))
    go ih e = rw (e, insert_field) (there ih)

mutual
  unfolding sorted

  -- A content is the same as itself sorted.
  pub same_sorted : (v : Value) → Same v (sorted v)
  same_sorted null = same_null
  same_sorted (boolean b) = same_boolean
  same_sorted (number n ds) = same_number
  same_sorted (string s) = same_string
  same_sorted (array vs) = same_array (same_sorted_values vs)
  same_sorted (object fs) = same_object (same_sorted_fields fs)

  same_sorted_values : (vs : Values) → SameValues vs (sorted_values vs)
  same_sorted_values no_values = same_none
  same_sorted_values (value v vs) = same_value (same_sorted v) (same_sorted_values vs)

  -- The members of an object are the same as themselves sorted.
  pub same_sorted_fields : (fs : Fields) → SameFields fs (sorted_fields fs)
  same_sorted_fields no_fields = same_empty
  same_sorted_fields (field k v fs) = same_field (same_sorted v) (inserted k (sorted v) (sorted_fields fs)) (same_sorted_fields fs)

mutual
  -- A content is the same as itself.
  pub same_refl : (v : Value) → Same v v
  same_refl null = same_null
  same_refl (boolean b) = same_boolean
  same_refl (number n ds) = same_number
  same_refl (string s) = same_string
  same_refl (array vs) = same_array (same_refl_values vs)
  same_refl (object fs) = same_object (same_refl_fields fs)

  same_refl_values : (vs : Values) → SameValues vs vs
  same_refl_values no_values = same_none
  same_refl_values (value v vs) = same_value (same_refl v) (same_refl_values vs)

  same_refl_fields : (fs : Fields) → SameFields fs fs
  same_refl_fields no_fields = same_empty
  same_refl_fields (field k v fs) = same_field (same_refl v) here (same_refl_fields fs)

-- two members inserted one after the other can be inserted the other way round
record Swapped (k : List ℕ) (v : Value) (j : List ℕ) (w : Value) (fs hs : Fields) : Type 0 where
  between : Fields
  first : Inserted k v fs between
  second : Inserted j w between hs

swapped : {j k : List ℕ} {v w : Value} {fs gs hs : Fields} → Inserted j w fs gs → Inserted k v gs hs → Swapped k v j w fs hs
swapped {fs = fs} p here = record { between = field _ _ fs; first = here; second = there p }
swapped here (there {gs = gs} q) = record { between = gs; first = q; second = here }
swapped (there p) (there {j = i} {w = x} q) =
    let h = swapped p q in
    record { between = field i x h.between; first = there h.first; second = there h.second }

-- the same member inserted on both sides
same_insert : {k : List ℕ} {v w : Value} {fs gs hs ks : Fields} → Inserted k w fs gs → SameFields fs hs → Same w v → Inserted k v hs ks → SameFields gs ks
same_insert here h p q = same_field p q h
same_insert (there i) (same_field p' i' h) p q =
    let s = swapped i' q in
    same_field p' s.second (same_insert i h p s.first)

mutual
  -- If a content is the same as a second one, the second one is the same as it.
  pub same_sym : {v w : Value} → Same v w → Same w v
  same_sym same_null = same_null
  same_sym same_boolean = same_boolean
  same_sym same_number = same_number
  same_sym same_string = same_string
  same_sym (same_array h) = same_array (same_sym_values h)
  same_sym (same_object h) = same_object (same_sym_fields h)

  same_sym_values : {vs ws : Values} → SameValues vs ws → SameValues ws vs
  same_sym_values same_none = same_none
  same_sym_values (same_value p h) = same_value (same_sym p) (same_sym_values h)

  same_sym_fields : {fs gs : Fields} → SameFields fs gs → SameFields gs fs
  same_sym_fields same_empty = same_empty
  same_sym_fields (same_field p i h) = same_insert i (same_sym_fields h) (same_sym p) here

-- the partner of an inserted member
record Partner (k : List ℕ) (v : Value) (fs gs : Fields) : Type 0 where
  other : Value
  rest : Fields
  same : Same v other
  place : Inserted k other rest gs
  others : SameFields fs rest

partner : {k : List ℕ} {v : Value} {fs gs hs : Fields} → Inserted k v fs gs → SameFields gs hs → Partner k v fs hs
partner here (same_field p i h) = record { other = _; rest = _; same = p; place = i; others = h }
partner (there i) (same_field p j h) =
    let q = partner i h in
    let s = swapped q.place j in
    record { other = q.other; rest = s.between; same = q.same; place = s.second; others = same_field p s.first q.others }

mutual
  -- If a content is the same as a second one and the second one as a third, it is the same as the third.
  pub same_trans : {u v w : Value} → Same u v → Same v w → Same u w
  same_trans same_null q = q
  same_trans same_boolean q = q
  same_trans same_number q = q
  same_trans same_string q = q
  same_trans (same_array h) (same_array g) = same_array (same_trans_values h g)
  same_trans (same_object h) (same_object g) = same_object (same_trans_fields h g)

  same_trans_values : {us vs ws : Values} → SameValues us vs → SameValues vs ws → SameValues us ws
  same_trans_values same_none q = q
  same_trans_values (same_value p h) (same_value q g) = same_value (same_trans p q) (same_trans_values h g)

  same_trans_fields : {es fs gs : Fields} → SameFields es fs → SameFields fs gs → SameFields es gs
  same_trans_fields same_empty q = q
  same_trans_fields (same_field p i h) q =
      let m = partner i q in
      same_field (same_trans p m.same) m.place (same_trans_fields h m.others)

-- contents that are equal when sorted are the same
pub same_of_sorted : (v w : Value) → sorted v ≡ sorted w → Same v w
same_of_sorted v w e = same_trans (same_sorted v) (subst (λ (x : Value). Same x w) (sym e) (same_sym (same_sorted w)))

-- members with different keys can be put in their places in either order
pub insert_before : (k j : List ℕ) (v w : Value) (fs : Fields) → leq k j ≡ true → insert_field k v (field j w fs) ≡ field k v (field j w fs)
unfolding insert_field
insert_before k j v w fs e = rw (e, insert_field)

-- A member whose key comes after the first of some members' keys is put in its place among the others.
pub insert_after : (k j : List ℕ) (v w : Value) (fs : Fields) → leq k j ≡ false → insert_field k v (field j w fs) ≡ field j w (insert_field k v fs)
unfolding insert_field
insert_after k j v w fs e = rw (e, insert_field)

apart : (k j : List ℕ) → leq k j ≡ false → k ≡ j → ⊥
apart k j e q = false_true (sym e ∙ ap (λ (x : List ℕ). leq x j) q ∙ leq_refl j)

-- not after, and different: the other is after
pub strictly : (k j : List ℕ) → leq k j ≡ true → (k ≡ j → ⊥) → leq j k ≡ false
strictly k j e n = by_test (leq j k) (λ f. absurd (n (leq_antisym k j e f))) (λ f. f)

-- both before the first of fs
swap_front : (k j : List ℕ) (v w : Value) (fs : Fields) → (k ≡ j → ⊥) → insert_field k v fs ≡ field k v fs → insert_field j w fs ≡ field j w fs
    → insert_field k v (insert_field j w fs) ≡ insert_field j w (insert_field k v fs)
swap_front k j v w fs n p q = ap (insert_field k v) q ∙ by_test (leq k j) lower higher ∙ sym (ap (insert_field j w) p)
  where
    lower : leq k j ≡ true → insert_field k v (field j w fs) ≡ insert_field j w (field k v fs)
    lower e = insert_before k j v w fs e ∙ ap (field k v) (sym q) ∙ sym (insert_after j k w v fs (strictly k j e n))

    higher : leq k j ≡ false → insert_field k v (field j w fs) ≡ insert_field j w (field k v fs)
    higher e = insert_after k j v w fs e ∙ ap (field j w) p ∙ sym (insert_before j k w v fs (leq_total k j e))

-- the one before the first of the members, the other after it
swap_around : (k j i : List ℕ) (v w x : Value) (fs : Fields) → leq k i ≡ true → leq j i ≡ false
    → insert_field k v (insert_field j w (field i x fs)) ≡ insert_field j w (insert_field k v (field i x fs))
swap_around k j i v w x fs e f =
    ap (insert_field k v) (insert_after j i w x fs f) ∙ insert_before k i v x (insert_field j w fs) e
    ∙ ap (field k v) (sym (insert_after j i w x fs f))
    ∙ sym (insert_after j k w v (field i x fs) above)
    ∙ ap (insert_field j w) (sym (insert_before k i v x fs e))
  where
    above : leq j k ≡ false
    above = by_test (leq j k) (λ g. false_true (sym f ∙ leq_trans j k i g e)) (λ g. g)

-- Two members with different keys that are put in their places one after the other give the same in either order.
pub insert_swap : (k j : List ℕ) (v w : Value) (fs : Fields) → (k ≡ j → ⊥) → insert_field k v (insert_field j w fs) ≡ insert_field j w (insert_field k v fs)
unfolding insert_field
insert_swap k j v w no_fields n = swap_front k j v w no_fields n refl refl
insert_swap k j v w (field i x fs) n = go (insert_swap k j v w fs n)
  where
    go : insert_field k v (insert_field j w fs) ≡ insert_field j w (insert_field k v fs)
        → insert_field k v (insert_field j w (field i x fs)) ≡ insert_field j w (insert_field k v (field i x fs))
    go ih =
        by_test (leq k i)
        (λ e. by_test (leq j i)
        (λ f. swap_front k j v w (field i x fs) n (insert_before k i v x fs e) (insert_before j i w x fs f))
        (λ f. swap_around k j i v w x fs e f))
        (λ e. by_test (leq j i)
        (λ f. sym (swap_around j k i w v x fs f e))
        (λ f. ap (insert_field k v) (insert_after j i w x fs f) ∙ insert_after k i v x (insert_field j w fs) e
        ∙ ap (field i x) ih
        ∙ sym (insert_after j i w x (insert_field k v fs) f) ∙ ap (insert_field j w) (sym (insert_after k i v x fs e))))

-- sorting what is sorted changes nothing
sorted_insert : (k : List ℕ) (v : Value) (fs : Fields) → sorted_fields (insert_field k v fs) ≡ insert_field k (sorted v) (sorted_fields fs)
unfolding insert_field sorted_fields
sorted_insert k v no_fields = refl
sorted_insert k v (field j w fs) = by_test (leq k j) (λ e. ap sorted_fields (insert_before k j v w fs e)) (go (sorted_insert k v fs))
  where
    go : sorted_fields (insert_field k v fs) ≡ insert_field k (sorted v) (sorted_fields fs) → leq k j ≡ false
        → sorted_fields (insert_field k v (field j w fs)) ≡ insert_field k (sorted v) (sorted_fields (field j w fs))
    go ih e =
        ap sorted_fields (insert_after k j v w fs e) ∙ ap (insert_field j (sorted w)) ih
        ∙ sym (insert_swap k j (sorted v) (sorted w) (sorted_fields fs) (apart k j e))

mutual
  unfolding sorted

  -- Sorting a sorted content changes nothing.
  pub sorted_twice : (v : Value) → sorted (sorted v) ≡ sorted v
  sorted_twice null = refl
  sorted_twice (boolean b) = refl
  sorted_twice (number n ds) = refl
  sorted_twice (string s) = refl
  sorted_twice (array vs) = ap array (sorted_twice_values vs)
  sorted_twice (object fs) = ap object (sorted_twice_fields fs)

  sorted_twice_values : (vs : Values) → sorted_values (sorted_values vs) ≡ sorted_values vs
  sorted_twice_values no_values = refl
  sorted_twice_values (value v vs) = λ i. value (sorted_twice v i) (sorted_twice_values vs i)

  sorted_twice_fields : (fs : Fields) → sorted_fields (sorted_fields fs) ≡ sorted_fields fs
  sorted_twice_fields no_fields = refl
  sorted_twice_fields (field k v fs) = sorted_insert k (sorted v) (sorted_fields fs) ∙ (λ i. insert_field k (sorted_twice v i) (sorted_twice_fields fs i))
