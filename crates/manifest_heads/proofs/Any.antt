-- Laws of `any_of`: over two lists, over the aliases of a key, and over things that stand at sorted positions. Assumes nothing.
use Prim.Native.Nat.{ℕ, zero, suc, ◌<◌}
use mathlib.Core.Path.{◌≡◌, refl, sym, ap, ◌∙◌}
use mathlib.Core.List.{List, [], ◌∷◌}
use mathlib.Core.Bool.{Bool, true, false, ◌||◌}
use native.Mathlib.Omega.{arith}
use lib.ListN.{length, get_or}
use Rattle.laws.specs.Order.{same}
use Rattle.laws.specs.Sort.{insert, sort}
use Rattle.laws.proofs.Any.{or_none, or_exchanged, any_both}
use Rattle.laws.proofs.Order.{by_test}
use Rattle.laws.proofs.Sort.{insert_before, insert_after}
use Rattle.text_content.specs.Value.{Fields, no_fields, field}
use Rattle.reference.specs.Matches.{is_one_of}
use Rattle.manifest_fields.specs.Accessors.{texts, names_of}
use Rattle.manifest_values.specs.Values.{entries}
use Rattle.laws.specs.Any.{any_of}
use Rattle.manifest_heads.specs.Contents.{Named, named_under, named_in}
use Rattle.manifest_heads.specs.Placed.{Placed, no_place, placed}

-- A content is one of a list exactly where some element of the list is equal to it.
pub one_of_any : (c : List ℕ) (cs : List (List ℕ)) → is_one_of c cs ≡ any_of (same c) cs
unfolding is_one_of any_of
one_of_any c [] = refl
one_of_any c (d ∷ cs) = ap (λ (b : Bool). same c d || b) (one_of_any c cs)

-- the aliases of a key, and the names alone
pub any_under : (p : Named → Bool) (k : List ℕ) (ns : List (List ℕ)) → any_of p (named_under k ns) ≡ any_of (λ (n : List ℕ). p (record { name = n; key = k })) ns
unfolding any_of named_under
any_under p k [] = refl
any_under p k (n ∷ ns) = ap (λ (b : Bool). p (record { name = n; key = k }) || b) (any_under p k ns)

-- Some alias of a group has a name that passes a test exactly where some name of the group passes it.
pub any_name : (p : List ℕ → Bool) (fs : Fields) → any_of (λ (a : Named). p a.name) (named_in fs) ≡ any_of p (names_of fs)
unfolding any_of named_in names_of
any_name p no_fields = refl
any_name p (field k v fs) =
    any_both (λ (a : Named). p a.name) (named_under k (texts (entries v))) (named_in fs)
    ∙ ap (λ (b : Bool). b || any_of (λ (a : Named). p a.name) (named_in fs)) (any_under (λ (a : Named). p a.name) k (texts (entries v)))
    ∙ ap (λ (b : Bool). any_of p (texts (entries v)) || b) (any_name p fs)
    ∙ sym (any_both p (texts (entries v)) (names_of fs))

-- things that stand at positions, by their index
module _ {A : Type 0} {Here : ℕ → A → Type 0} (p : A → Bool) where
  -- If whatever stands at one of the positions passes the test, some element of the list passes it.
  pub any_at : {ks : List ℕ} {xs : List A} → Placed Here ks xs → (i : ℕ) → i < length ks → ((x : A) → Here (get_or ks i 0) x → p x ≡ true) → any_of p xs ≡ true
  unfolding any_of
  any_at no_place i h f = absurd (omega arith)
  any_at (placed {x = x} g r) zero h f = rw (f x g)
  any_at (placed {x = x} {xs = xs} g r) (suc i) h f = let e = any_at r i (omega arith) f in rw e (or_true (p x))
    where
      or_true : (b : Bool) → (b || true) ≡ true
      or_true true = refl
      or_true false = refl

  -- If whatever stands at any of the positions fails the test, no element of the list passes it.
  pub none_at : {ks : List ℕ} {xs : List A} → Placed Here ks xs → ((i : ℕ) → i < length ks → (x : A) → Here (get_or ks i 0) x → p x ≡ false) → any_of p xs ≡ false
  unfolding any_of
  none_at no_place f = refl
  none_at (placed {x = x} g r) f = rw (f zero (omega arith) x g) (none_at r (λ i h. f (suc i) (omega arith)))

-- what stands at an index
pub placed_get : {A : Type 0} {Here : ℕ → A → Type 0} {ks : List ℕ} {xs : List A} → Placed Here ks xs → (i : ℕ) → i < length ks → (x : A) × Here (get_or ks i 0) x
placed_get no_place i h = absurd (omega arith)
placed_get (placed {x = x} g r) zero h = (x, g)
placed_get (placed g r) (suc i) h = placed_get r i (omega arith)

-- what follows from two tests that no element passes
pub both_none : {A : Type 0} (p q r : A → Bool) (xs : List A) → ((x : A) → p x ≡ false → q x ≡ false → r x ≡ false)
    → any_of p xs ≡ false → any_of q xs ≡ false → any_of r xs ≡ false
unfolding any_of
both_none p q r [] f a b = refl
both_none p q r (x ∷ xs) f a b =
    let c = or_none (p x) (any_of p xs) a in
    let d = or_none (q x) (any_of q xs) b in
    rw (f x c.0 d.0) (both_none p q r xs f c.1 d.1)

-- the same things at the positions of another list
pub record Reordered {A : Type 0} (Here : ℕ → A → Type 0) (ks : List ℕ) (xs : List A) : Type 0 where
  pub items : List A
  pub here : Placed Here ks items
  pub any : (p : A → Bool) → any_of p items ≡ any_of p xs

module _ {A : Type 0} {Here : ℕ → A → Type 0} (le : ℕ → ℕ → Bool) where
  insert_placed : (k : ℕ) (x : A) → Here k x → {ks : List ℕ} {xs : List A} → Placed Here ks xs → Reordered Here (insert le k ks) (x ∷ xs)
  unfolding insert any_of
  insert_placed k x h no_place = record { items = x ∷ []; here = placed h no_place; any = λ p. refl }
  insert_placed k x h (placed {k = l} {ks = ls} {x = y} {xs = ys} g r) = go (insert_placed k x h r)
    where
      go : Reordered Here (insert le k ls) (x ∷ ys) → Reordered Here (insert le k (l ∷ ls)) (x ∷ y ∷ ys)
      go ih =
          by_test (le k l)
          (λ e. rw (insert_before le k l ls e) (record { items = x ∷ y ∷ ys; here = placed h (placed g r); any = λ p. refl }))
          (λ e. rw (insert_after le k l ls e)
          (record {
            items = y ∷ ih.items;
            here = placed g ih.here;
            any = λ p. ap (λ (b : Bool). p y || b) (ih.any p) ∙ or_exchanged (p y) (p x) (any_of p ys);
          }))

  -- sorting positions keeps what stands there
  pub sort_placed : {ks : List ℕ} {xs : List A} → Placed Here ks xs → Reordered Here (sort le ks) xs
  unfolding sort any_of
  sort_placed no_place = record { items = []; here = no_place; any = λ p. refl }
  sort_placed (placed {k = k} {x = x} {xs = xs} g r) =
      let ih = sort_placed r in
      let j = insert_placed k x g ih.here in
      record { items = j.items; here = j.here; any = λ p. j.any p ∙ ap (λ (b : Bool). p x || b) (ih.any p) }
