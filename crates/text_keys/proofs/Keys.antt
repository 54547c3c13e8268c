-- Laws of key places: of their parts, of sorting them and of comparing two of them.
use Prim.Native.Nat.{ℕ, zero, suc, ◌+◌, ◌<◌}
use mathlib.Core.Path.{◌≡◌, sym, ap, subst, ◌∙◌}
use mathlib.Core.List.{List, ◌∷◌, ◌++◌}
use mathlib.Core.Bool.{true, false}
use native.Mathlib.Omega.{arith}
use lib.ListN.{length, take, drop, get_or}
use Rattle.laws.specs.Order.{leq, same}
use Rattle.laws.specs.Sort.{insert, sort, Orders}
use Rattle.laws.proofs.Order.{by_test, false_true, leq_refl, leq_total, leq_trans, same_refl, same_eq}
use Rattle.laws.proofs.Sort.{insert_before, insert_after}
use Rattle.text_strings.specs.InString.{InString, Inside, content_from, key_le}
use Rattle.text_order.specs.Compare.{order}
use Rattle.std.specs.declared.cmp.Ordering.{Ordering}
use Rattle.std.specs.declared.cmp.Ordering.TheVariants.{Less, Equal, Greater}
use Rattle.text_strings.proofs.Contents.{inside_content}
use Rattle.text_order.proofs.Orders.{Ordered, is_less, is_equal, is_greater, ordered}
use Rattle.text_keys.specs.Keys.{KeysAt, no_keys, key_at}

-- each key by its index
pub keys_get : {s ks : List ℕ} → KeysAt s ks → (i : ℕ) → i < length ks → Inside s (get_or ks i 0 + 1)
keys_get no_keys i h = absurd (omega arith)
keys_get (key_at p q) zero h = p
keys_get (key_at p q) (suc i) h = keys_get q i (omega arith)

-- Two lists of key places, one after the other, are a list of key places.
pub keys_append : {s ks ls : List ℕ} → KeysAt s ks → KeysAt s ls → KeysAt s (ks ++ ls)
keys_append no_keys q = q
keys_append (key_at p r) q = key_at p (keys_append r q)

-- The first `n` positions of a list of key places are key places.
pub keys_take : {s ks : List ℕ} (n : ℕ) → KeysAt s ks → KeysAt s (take n ks)
keys_take zero p = no_keys
keys_take (suc n) no_keys = no_keys
keys_take (suc n) (key_at p q) = key_at p (keys_take n q)

-- The positions after the first `n` of a list of key places are key places.
pub keys_drop : {s ks : List ℕ} (n : ℕ) → KeysAt s ks → KeysAt s (drop n ks)
keys_drop zero p = p
keys_drop (suc n) no_keys = no_keys
keys_drop (suc n) (key_at p q) = keys_drop n q

-- a sorted list has the list's own keys
keys_insert : {s : List ℕ} (k : ℕ) {ks : List ℕ} → Inside s (k + 1) → KeysAt s ks → KeysAt s (insert (key_le s) k ks)
unfolding insert
keys_insert k p no_keys = key_at p no_keys
keys_insert {s} k p (key_at {k = l} {ks = ls} q r) = go (keys_insert k p r)
  where
    go : KeysAt s (insert (key_le s) k ls) → KeysAt s (insert (key_le s) k (l ∷ ls))
    go ih =
        by_test (key_le s k l)
        (λ e. rw (insert_before (key_le s) k l ls e) (key_at p (key_at q r)))
        (λ e. rw (insert_after (key_le s) k l ls e) (key_at q ih))

-- A list of key places is still one after sorting.
pub keys_sort : {s ks : List ℕ} → KeysAt s ks → KeysAt s (sort (key_le s) ks)
unfolding sort
keys_sort no_keys = no_keys
keys_sort (key_at {k = k} p q) = keys_insert k p (keys_sort q)

-- The order of keys compares any two of them and is transitive.
pub keys_order : (s : List ℕ) → Orders (key_le s)
unfolding key_le
keys_order s = record {
  total = λ k l. leq_total (content_from s (k + 1)) (content_from s (l + 1));
  trans = λ k l m. leq_trans (content_from s (k + 1)) (content_from s (l + 1)) (content_from s (m + 1));
}

-- the number by which a match tells the answers of a comparison apart
abbrev pub tag : Ordering → ℕ
tag Less = 0
tag Equal = 1
tag Greater = 2

-- the order of two keys' contents, from what comparing them ensures
pub compared : (s : List ℕ) (k l : ℕ) (r : Ordering) → Inside s (k + 1) → Inside s (l + 1)
    → ((x y : List ℕ) → InString s (k + 1) x → InString s (l + 1) y → r ≡ order x y)
    → Ordered (content_from s (k + 1)) (content_from s (l + 1)) r
compared s k l r p q f =
    let x = content_from s (k + 1) in
    let y = content_from s (l + 1) in
    subst (Ordered x y) (sym (f x y (inside_content s (k + 1) p) (inside_content s (l + 1) q))) (ordered x y)

module _ {xs ys : List ℕ} where
  unequal : (xs ≡ ys → ⊥) → same ys xs ≡ false
  unequal n = by_test (same ys xs) (λ e. absurd (n (sym (same_eq ys xs e)))) (λ e. e)

  -- Where the comparison answers `Less`, the contents are not equal, and the first does not come after the second.
  pub less : {r : Ordering} → Ordered xs ys r → tag r ≡ 0 → (same ys xs ≡ false) × (leq xs ys ≡ true)
  less (is_less a b) e = (unequal b, a)
  less (is_equal a) e = absurd (omega arith)
  less (is_greater a) e = absurd (omega arith)

  -- Where it answers `Equal`, the contents are equal, and so the first does not come after the second.
  pub equal : {r : Ordering} → Ordered xs ys r → tag r ≡ 1 → (same ys xs ≡ true) × (leq xs ys ≡ true)
  equal (is_less a b) e = absurd (omega arith)
  equal (is_equal a) e = (ap (same ys) a ∙ same_refl ys, ap (leq xs) (sym a) ∙ leq_refl xs)
  equal (is_greater a) e = absurd (omega arith)

  -- Where it answers `Greater`, the first content comes after the second, so they are not equal.
  pub greater : {r : Ordering} → Ordered xs ys r → tag r ≡ 2 → (same ys xs ≡ false) × (leq xs ys ≡ false)
  greater (is_less a b) e = absurd (omega arith)
  greater (is_equal a) e = absurd (omega arith)
  greater (is_greater a) e = (unequal (λ z. false_true (sym a ∙ ap (leq xs) (sym z) ∙ leq_refl xs)), a)
