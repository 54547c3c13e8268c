-- The index of the aliases among the references. Assumes nothing.
use Prim.Native.Nat.{ℕ, zero, suc, ◌+◌, ◌<◌, ◌≤◌}
use mathlib.Core.Path.{◌≡◌, refl, sym, ap, subst, ◌∙◌}
use mathlib.Core.List.Memᴰ
use mathlib.Core.List.{List, [], ◌∷◌}
use mathlib.Core.Bool.{Bool, true, false, not, ◌||◌}
use native.Mathlib.Omega.{arith}
use native.Mathlib.Numerals.{add-one}
use lib.Dec.{eqb, ltb}
use lib.ListN.{length, take, get_or}
use borrow.Author.Tests.{eq-eqb, ne_eqb, eqb-true, eqb-false, ltb-true, lt-ltb}
use Rattle.laws.specs.Any.{any_of}
use Rattle.laws.proofs.Order.{by_test, false_true}
use Rattle.reference.specs.References.{Layer, layer_digest, layer_alias, no_layer}
use Rattle.manifest_index.specs.Index.{NumberOf, NameIndex, SomeNameIndex}
use Rattle.manifest_index.proofs.Indexing.{no_names, some_index, index_any}
use Rattle.manifest_objects.specs.Objects.{AllStand}
use Rattle.store_keys.specs.Keys.{Key}
use Rattle.lookup_links.specs.Links.{undefined_mark, AliasLink, undefined, linked, Link, Links}
use Rattle.lookup_index.specs.Table.{is_alias, NamedAt, AllNamed, undefined_in, Table}

module _ (next : List ℕ) (n : ℕ) where
  -- a number that is marked is added, and no other
  marked_in : get_or next n 0 ≡ undefined_mark → undefined_in next (suc n) ≡ n ∷ undefined_in next n
  unfolding undefined_in
  marked_in e = rw (eq-eqb (get_or next n 0) undefined_mark e, undefined_in)

  other_in : (get_or next n 0 ≡ undefined_mark → ⊥) → undefined_in next (suc n) ≡ undefined_in next n
  unfolding undefined_in
  other_in e = rw (ne_eqb (get_or next n 0) undefined_mark e, undefined_in)

-- the aliases among the first e references are in the index, which has n
pub record IndexedTo (b at next : List ℕ) (e n : ℕ) (before order : List ℕ) : Type 0 where
  pub size : length order ≡ length before
  pub few : n ≤ e
  pub index : NameIndex b at (undefined_in next e) (take n order)

module _ (b at next before : List ℕ) where
  -- At first the index is empty.
  pub indexed_none : IndexedTo b at next 0 0 before before
  unfolding undefined_in
  indexed_none = record { size = refl; few = omega arith; index = no_names b at }

  module _ (e n : ℕ) (order : List ℕ) (p : IndexedTo b at next e n before order) where
    -- What there is so far is an index.
    pub indexed_some : SomeNameIndex b at (take n order)
    indexed_some = some_index p.index

    -- An alias is added,
    pub indexed_taken : get_or next e 0 ≡ 65534 → (after : List ℕ) → length after ≡ length order
        → ((es : List ℕ) → NameIndex b at es (take n order) → NameIndex b at (e ∷ es) (take (n + 1) after)) → IndexedTo b at next (e + 1) (n + 1) before after
    indexed_taken m after z f =
        record {
          size = z ∙ p.size;
          few = omega (arith, p.few);
          index = subst (λ (es : List ℕ). NameIndex b at es (take (n + 1) after)) (sym (ap (undefined_in next) (add-one e) ∙ marked_in next e m))
              (f _ p.index);
        }

    -- and any other reference is passed over.
    pub indexed_passed : (get_or next e 0 ≡ 65534 → ⊥) → IndexedTo b at next (e + 1) n before order
    indexed_passed m =
        record {
          size = p.size;
          few = omega (arith, p.few);
          index = subst (λ (es : List ℕ). NameIndex b at es (take n order)) (sym (ap (undefined_in next) (add-one e) ∙ other_in next e m)) p.index;
        }

-- the numbers that are marked
in_undefined : (next : List ℕ) (n e : ℕ) → e < n → get_or next e 0 ≡ undefined_mark → any_of (eqb e) (undefined_in next n) ≡ true
unfolding any_of
in_undefined next zero e h m = absurd (omega arith)
in_undefined next (suc n) e h m = go (in_undefined next n e)
  where
    go : (e < n → get_or next e 0 ≡ undefined_mark → any_of (eqb e) (undefined_in next n) ≡ true) → any_of (eqb e) (undefined_in next (suc n)) ≡ true
    go ih =
        by_test (eqb e n)
        (λ f. let q = eqb-true e n f in
        ap (any_of (eqb e)) (marked_in next n (sym (ap (λ (k : ℕ). get_or next k 0) q) ∙ m)) ∙ ap (λ (x : Bool). x || any_of (eqb e) (undefined_in next n)) f)
        (λ f. let q = eqb-false e n f in
        let rest = ih (omega arith) m in
        by_test (eqb (get_or next n 0) undefined_mark)
        (λ g. ap (any_of (eqb e)) (marked_in next n (eqb-true (get_or next n 0) undefined_mark g)) ∙ (λ i. f i || rest i))
        (λ g. ap (any_of (eqb e)) (other_in next n (eqb-false (get_or next n 0) undefined_mark g)) ∙ rest))

-- none of them is too high
none_above : (next : List ℕ) (m n : ℕ) → n ≤ m → any_of (λ (e : ℕ). not (ltb e m)) (undefined_in next n) ≡ false
unfolding any_of undefined_in
none_above next m zero h = refl
none_above next m (suc n) h = go (none_above next m n (omega arith))
  where
    above : ℕ → Bool
    above e = not (ltb e m)

    go : any_of above (undefined_in next n) ≡ false → any_of above (undefined_in next (suc n)) ≡ false
    go ih =
        by_test (eqb (get_or next n 0) undefined_mark)
        (λ g. ap (any_of above) (marked_in next n (eqb-true (get_or next n 0) undefined_mark g)) ∙ (λ i. not (lt-ltb n m (omega arith) i) || ih i))
        (λ g. ap (any_of above) (other_in next n (eqb-false (get_or next n 0) undefined_mark g)) ∙ ih)

-- an element that passes
any_get : (p : ℕ → Bool) (xs : List ℕ) (i : ℕ) → i < length xs → p (get_or xs i 0) ≡ true → any_of p xs ≡ true
unfolding any_of
any_get p [] i h e = absurd (omega arith)
any_get p (x ∷ xs) zero h e = ap (λ (t : Bool). t || any_of p xs) e
any_get p (x ∷ xs) (suc i) h e = go (p x) (any_get p xs i (omega arith) e)
  where
    go : (t : Bool) → any_of p xs ≡ true → (t || any_of p xs) ≡ true
    go true f = refl
    go false f = f

-- before any alias is defined
alias_marked : {refs : List Layer} {k : Key} {o : ℕ} → AliasLink [] refs k o → o ≡ undefined_mark
alias_marked (undefined e) = refl
alias_marked (linked w) = absurd (Memᴰ.not-nil w.defined)

link_marked : (refs : List Layer) (l : Layer) (o : ℕ) → Link [] refs l o → is_alias l ≡ true → o ≡ undefined_mark
unfolding is_alias
link_marked refs (layer_digest a d) o p e = false_true e
link_marked refs (layer_alias a s n) o p e = alias_marked p
link_marked refs no_layer o p e = false_true e

number_named : (b at : List ℕ) (refs : List Layer) (e : ℕ) (l : Layer) (o : ℕ) → Link [] refs l o → o ≡ undefined_mark → NamedAt b at e l → NumberOf b at e
number_named b at refs e (layer_digest a d) o p m x = absurd (omega arith)
number_named b at refs e (layer_alias a s n) o p m x = x.0
number_named b at refs e no_layer o p m x = absurd (omega arith)

module _ (b keys at next : List ℕ) (refs : List Layer) (stand : AllStand b keys refs) (named : AllNamed b refs at) (links : Links [] refs next)
    (size : length next ≡ length refs) where
  -- What is marked as an alias has a name.
  pub undefined_number : (e : ℕ) → e < length next → get_or next e 0 ≡ 65534 → NumberOf b at e
  undefined_number e h m =
      number_named b at refs e (get_or refs e no_layer) (get_or next e 0) (links.each e (omega arith)) m (named.each e (omega arith))

  -- The references are in the table that has the index of what is marked so.
  pub table_made : (order : List ℕ) → length keys ≤ 4160 → NameIndex b at (undefined_in next (length next)) order → Table b keys at order refs
  table_made order few x =
      record {
        stand = stand;
        few = few;
        index = some_index x;
        below = below;
        named = named;
        all = λ e h k.
            index_any x (eqb e)
            ∙ in_undefined next (length next) e (omega arith) (link_marked refs (get_or refs e no_layer) (get_or next e 0) (links.each e h) k);
      }
    where
      above : ℕ → Bool
      above e = not (ltb e (length next))

      below : (i : ℕ) → i < length order → get_or order i 0 < length refs
      below i h =
          by_test (ltb (get_or order i 0) (length next))
          (λ e. let l = ltb-true (get_or order i 0) (length next) e in omega arith)
          (λ e. false_true (sym (none_above next (length next) (length next) (omega arith)) ∙ sym (index_any x above) ∙ any_get above order i h (ap not e)))
