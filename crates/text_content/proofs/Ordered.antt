-- Sorting puts the keys of every object in rising order, and changes nothing where they are.
use Prim.Native.Nat.{ℕ}
use mathlib.Core.Path.{◌≡◌, refl, ap, ◌∙◌}
use mathlib.Core.List.{List}
use mathlib.Core.Bool.{Bool, true, ◌&&◌}
use Rattle.laws.specs.Order.{leq}
use Rattle.laws.proofs.Order.{by_test, leq_total}
use Rattle.text_utf8.proofs.Ranges.{and_both}
use Rattle.text_content.specs.Value.{Value, Values, Fields, null, boolean, number, string, array, object, no_values, value, no_fields, field}
use Rattle.text_content.specs.Canonical.{insert_field, sorted, sorted_values, sorted_fields, keys_ordered, ordered, ordered_values, ordered_fields}
use Rattle.text_content.proofs.Same.{insert_before, insert_after}

-- what is in order stays as it is
mutual
  unfolding sorted insert_field ordered keys_ordered

  -- A content in which the keys of every object are in rising order is equal to itself sorted.
  pub sorted_ordered : (v : Value) → ordered v ≡ true → sorted v ≡ v
  sorted_ordered null e = refl
  sorted_ordered (boolean b) e = refl
  sorted_ordered (number n ds) e = refl
  sorted_ordered (string s) e = refl
  sorted_ordered (array vs) e = ap array (sorted_ordered_values vs e)
  sorted_ordered (object fs) e = let (k, o) = and_both (keys_ordered fs) (ordered_fields fs) e in ap object (sorted_ordered_fields fs k o)

  sorted_ordered_values : (vs : Values) → ordered_values vs ≡ true → sorted_values vs ≡ vs
  sorted_ordered_values no_values e = refl
  sorted_ordered_values (value v vs) e =
      let (o, os) = and_both (ordered v) (ordered_values vs) e in
      λ i. value (sorted_ordered v o i) (sorted_ordered_values vs os i)

  sorted_ordered_fields : (fs : Fields) → keys_ordered fs ≡ true → ordered_fields fs ≡ true → sorted_fields fs ≡ fs
  sorted_ordered_fields no_fields k e = refl
  sorted_ordered_fields (field k v no_fields) l e = ap (λ (x : Value). field k x no_fields) (sorted_ordered v (and_both (ordered v) true e).0)
  sorted_ordered_fields (field k v (field j w fs)) l e =
      let (o, os) = and_both (ordered v) (ordered_fields (field j w fs)) e in
      let (n, ns) = and_both (leq k j) (keys_ordered (field j w fs)) l in
      (λ i. insert_field k (sorted_ordered v o i) (sorted_ordered_fields (field j w fs) ns os i)) ∙ insert_before k j v w fs n

and_true : (a b : Bool) → a ≡ true → b ≡ true → a && b ≡ true
and_true a b e f = rw e f

-- a member put among members whose keys are in order leaves them in order
insert_ordered : (k : List ℕ) (v : Value) (fs : Fields) → keys_ordered fs ≡ true → keys_ordered (insert_field k v fs) ≡ true
unfolding insert_field keys_ordered
insert_ordered k v no_fields e = refl
insert_ordered k v (field j w no_fields) e =
    by_test (leq k j) (λ f. rw (f, insert_field) (and_true (leq k j) true f refl))
    (λ f. rw (f, insert_field) (and_true (leq j k) true (leq_total k j f) refl))
insert_ordered k v (field j w (field i x fs)) e = go (and_both (leq j i) (keys_ordered (field i x fs)) e) (insert_ordered k v (field i x fs))
  where
    go : (leq j i ≡ true) × (keys_ordered (field i x fs) ≡ true)
        → (keys_ordered (field i x fs) ≡ true → keys_ordered (insert_field k v (field i x fs)) ≡ true)
        → keys_ordered (insert_field k v (field j w (field i x fs))) ≡ true
    go p ih =
        by_test (leq k j)
        (λ f. rw (insert_before k j v w (field i x fs) f) (and_true (leq k j) _ f e))
        (λ f. rw (insert_after k j v w (field i x fs) f) (by_test (leq k i)
        (λ g. rw (insert_before k i v x fs g) (and_true (leq j k) _ (leq_total k j f) (and_true (leq k i) _ g p.1)))
        (λ g. rw (insert_after k i v x fs g) (and_true (leq j i) _ p.0 (rw (insert_after k i v x fs g) at (ih p.1))))))

insert_ordered_fields : (k : List ℕ) (v : Value) (fs : Fields) → ordered v ≡ true → ordered_fields fs ≡ true → ordered_fields (insert_field k v fs) ≡ true
unfolding insert_field ordered_fields
insert_ordered_fields k v no_fields o e = and_true (ordered v) true o refl
insert_ordered_fields k v (field j w fs) o e = go (and_both (ordered w) (ordered_fields fs) e) (insert_ordered_fields k v fs o)
  where
    go : (ordered w ≡ true) × (ordered_fields fs ≡ true) → (ordered_fields fs ≡ true → ordered_fields (insert_field k v fs) ≡ true)
        → ordered_fields (insert_field k v (field j w fs)) ≡ true
    go p ih =
        by_test (leq k j)
        (λ f. rw (insert_before k j v w fs f) (and_true (ordered v) _ o e))
        (λ f. rw (insert_after k j v w fs f) (and_true (ordered w) _ p.0 (ih p.1)))

-- what is sorted is in order
mutual
  unfolding sorted ordered keys_ordered

  -- A sorted content has the keys of every object in rising order.
  pub ordered_sorted : (v : Value) → ordered (sorted v) ≡ true
  ordered_sorted null = refl
  ordered_sorted (boolean b) = refl
  ordered_sorted (number n ds) = refl
  ordered_sorted (string s) = refl
  ordered_sorted (array vs) = ordered_sorted_values vs
  ordered_sorted (object fs) = and_true (keys_ordered (sorted_fields fs)) _ (keys_sorted fs) (ordered_sorted_fields fs)

  ordered_sorted_values : (vs : Values) → ordered_values (sorted_values vs) ≡ true
  ordered_sorted_values no_values = refl
  ordered_sorted_values (value v vs) = and_true (ordered (sorted v)) _ (ordered_sorted v) (ordered_sorted_values vs)

  ordered_sorted_fields : (fs : Fields) → ordered_fields (sorted_fields fs) ≡ true
  ordered_sorted_fields no_fields = refl
  ordered_sorted_fields (field k v fs) = insert_ordered_fields k (sorted v) (sorted_fields fs) (ordered_sorted v) (ordered_sorted_fields fs)

  keys_sorted : (fs : Fields) → keys_ordered (sorted_fields fs) ≡ true
  keys_sorted no_fields = refl
  keys_sorted (field k v fs) = insert_ordered k (sorted v) (sorted_fields fs) (keys_sorted fs)
