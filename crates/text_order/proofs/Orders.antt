-- Laws of the order of two contents, and what a loop that compares them keeps.
use Prim.Native.Nat.{ℕ, ◌+◌, ◌<◌, ◌≤◌}
use mathlib.Core.Path.{◌≡◌, refl, sym, ap, ◌∙◌}
use mathlib.Core.List.{List, [], ◌∷◌, ◌++◌, nil≢cons, head-eq_of_cons-eq, tail-eq_of_cons-eq}
use mathlib.Core.Bool.{true, false, ◌||◌}
use native.Mathlib.Omega.{arith}
use borrow.Author.Tests.{lt-ltb, le-ltb, eqb-true, eqb-false, ltb-true, ltb-false}
use lib.ListN.{get_or}
use lib.Dec.{eqb, ltb}
use Rattle.laws.specs.Order.{leq}
use Rattle.laws.proofs.Order.{by_test, false_true, leq_less, leq_same, leq_more, Step, less, equal, more, step}
use Rattle.text_utf8.specs.Scalar.{encode}
use Rattle.text_strings.specs.InString.{InString, Escapes}
use Rattle.text_strings.specs.Cursor.{Left, GivesByte}
use Rattle.text_order.specs.Compare.{order, differs}
use Rattle.text_strings.specs.declared.Next.{Next}
use Rattle.std.specs.declared.cmp.Ordering.{Ordering}
use Rattle.std.specs.declared.cmp.Ordering.TheVariants.{Less, Equal, Greater}
use Rattle.text_strings.proofs.Cursors.{closes, plain, given_byte, given_end}

-- one step of the order
pub order_less : (x y : ℕ) (xs ys : List ℕ) → x < y → order (x ∷ xs) (y ∷ ys) ≡ Less
unfolding order
order_less x y xs ys h = rw (lt-ltb x y h, order)

-- Where the first byte of the first content is larger than that of the second, the order is greater.
pub order_more : (x y : ℕ) (xs ys : List ℕ) → y < x → order (x ∷ xs) (y ∷ ys) ≡ Greater
unfolding order
order_more x y xs ys h = let l : y ≤ x = omega arith in rw (le-ltb x y l, order) (rw (lt-ltb y x h))

-- Where the first bytes of two contents are equal, the order is that of what follows them.
pub order_same : (x y : ℕ) (xs ys : List ℕ) → x ≡ y → order (x ∷ xs) (y ∷ ys) ≡ order xs ys
unfolding order
order_same x y xs ys h = let l : y ≤ x = omega arith in let m : x ≤ y = omega arith in rw (le-ltb x y l, order) (rw (le-ltb y x m))

-- the order from here is the order from the start: contents that fit P and Q compare as contents that fit P' and Q' do
abbrev pub Tracks : (P Q P' Q' : List ℕ → Type 0) → Type 0
Tracks P Q P' Q' = (x y : List ℕ) → P x → Q y → (x' : List ℕ) × (y' : List ℕ) × P' x' × Q' y' × (order x y ≡ order x' y')

-- how the loop over two cursors ends, and how it goes on
module _ (s t : List ℕ) {P Q P' Q' : List ℕ → Type 0} (keep : Tracks P Q P' Q') (n m : Next)
    (gn : (c : List ℕ) → P' c → GivesByte s c n) (gm : (c : List ℕ) → Q' c → GivesByte t c m) where
  -- Where neither cursor gives a byte, the order of the contents is equal.
  pub both_end : n.found ≡ false → m.found ≡ false → (x y : List ℕ) → P x → Q y → Equal ≡ order x y
  unfolding order
  both_end a b x y p q =
      let k = keep x y p q in
      let e : k.0 ≡ [] = given_end s k.0 n a (gn k.0 k.2) in
      let f : k.1 ≡ [] = given_end t k.1 m b (gm k.1 k.3) in
      sym (k.4 ∙ ap (λ (z : List ℕ). order z k.1) e ∙ ap (order []) f)

  -- Where only the second cursor gives a byte, the order of the contents is less.
  pub first_ends : n.found ≡ false → m.found ≡ true → (x y : List ℕ) → P x → Q y → Less ≡ order x y
  unfolding order
  first_ends a b x y p q =
      let k = keep x y p q in
      let e : k.0 ≡ [] = given_end s k.0 n a (gn k.0 k.2) in
      let f = given_byte t k.1 m b (gm k.1 k.3) in
      sym (k.4 ∙ ap (λ (z : List ℕ). order z k.1) e ∙ ap (order []) f.1)

  -- Where only the first cursor gives a byte, the order of the contents is greater.
  pub second_ends : n.found ≡ true → m.found ≡ false → (x y : List ℕ) → P x → Q y → Greater ≡ order x y
  unfolding order
  second_ends a b x y p q =
      let k = keep x y p q in
      let e = given_byte s k.0 n a (gn k.0 k.2) in
      let f : k.1 ≡ [] = given_end t k.1 m b (gm k.1 k.3) in
      sym (k.4 ∙ ap (λ (z : List ℕ). order z k.1) e.1 ∙ ap (order (n.byte ∷ e.0)) f)

  module _ (a : n.found ≡ true) (b : m.found ≡ true) where
    -- Where both cursors give a byte, the contents compare as these bytes with what is left after them.
    pub by_bytes : (x y : List ℕ) → P x → Q y
        → (x' : List ℕ) × (y' : List ℕ) × Left s n.rest x' × Left t m.rest y' × (order x y ≡ order (n.byte ∷ x') (m.byte ∷ y'))
    by_bytes x y p q =
        let k = keep x y p q in
        let e = given_byte s k.0 n a (gn k.0 k.2) in
        let f = given_byte t k.1 m b (gm k.1 k.3) in
        (e.0, f.0, e.2, f.2, k.4 ∙ ap (λ (z : List ℕ). order z k.1) e.1 ∙ ap (order (n.byte ∷ e.0)) f.1)

    -- Where the byte of the first cursor is smaller, the order of the contents is less.
    pub first_less : n.byte < m.byte → (x y : List ℕ) → P x → Q y → Less ≡ order x y
    first_less h x y p q = let k = by_bytes x y p q in sym (k.4 ∙ order_less n.byte m.byte k.0 k.1 h)

    -- Where the byte of the first cursor is larger, the order of the contents is greater.
    pub first_more : m.byte < n.byte → (x y : List ℕ) → P x → Q y → Greater ≡ order x y
    first_more h x y p q = let k = by_bytes x y p q in sym (k.4 ∙ order_more n.byte m.byte k.0 k.1 h)

    -- Where the two bytes are equal, the contents compare as what is left after them.
    pub goes_on : n.byte ≡ m.byte → Tracks P Q (Left s n.rest) (Left t m.rest)
    goes_on h x y p q = let k = by_bytes x y p q in (k.0, k.1, k.2, k.3, k.4 ∙ order_same n.byte m.byte k.0 k.1 h)

-- neither of two bytes is a backslash
pub either_false : (x y : ℕ) → (eqb x 0x5C || eqb y 0x5C) ≡ false → (x ≡ 0x5C → ⊥) × (y ≡ 0x5C → ⊥)
either_false x y e = by_test (eqb x 0x5C) (λ f. false_true (sym (rw f at e))) (λ f. (eqb-false x 0x5C f, eqb-false y 0x5C (rw f at e)))

-- the same for a loop over the bytes of the text: how it ends, and how it goes on
module _ (s t : List ℕ) (i j : ℕ) {P Q : List ℕ → Type 0} (keep : Tracks P Q (InString s i) (InString t j)) where
  -- at the marks that end both contents
  pub both_close : get_or s i 0 ≡ get_or t j 0 → get_or s i 0 ≡ 0x22 → (x y : List ℕ) → P x → Q y → Equal ≡ order x y
  unfolding order
  both_close e a x y p q =
      let k = keep x y p q in
      sym (k.4 ∙ ap (λ (z : List ℕ). order z k.1) (closes s i k.0 k.2 a) ∙ ap (order []) (closes t j k.1 k.3 (sym e ∙ a)))

  module _ (a : get_or s i 0 ≡ 0x5C → ⊥) (b : get_or t j 0 ≡ 0x5C → ⊥) where
    -- Where the same byte, no quotation mark or backslash, stands in both texts, the contents compare as from the next positions on.
    pub both_plain : get_or s i 0 ≡ get_or t j 0 → (get_or s i 0 ≡ 0x22 → ⊥) → Tracks P Q (InString s (i + 1)) (InString t (j + 1))
    both_plain e n x y p q =
        let k = keep x y p q in
        let f = plain s i k.0 k.2 n a in
        let g = plain t j k.1 k.3 (λ h. n (e ∙ h)) b in (
          f.0,
          g.0,
          f.2,
          g.2,
          k.4 ∙ ap (λ (z : List ℕ). order z k.1) f.1 ∙ ap (order (get_or s i 0 ∷ f.0)) g.1
              ∙ order_same (get_or s i 0) (get_or t j 0) f.0 g.0 e,
        )

    -- at bytes that differ
    pub bytes_differ : (get_or s i 0 ≡ get_or t j 0 → ⊥) → (x y : List ℕ) → P x → Q y → differs (get_or s i 0) (get_or t j 0) ≡ order x y
    unfolding differs order
    bytes_differ n x y p q =
        let k = keep x y p q in
        sym (k.4 ∙ by_test (eqb (get_or s i 0) 0x22) (ends k) (λ e. by_test (eqb (get_or t j 0) 0x22) (more_left k e) (λ f. plains k e f)))
      where
        K : Type 0
        K = (x' : List ℕ) × (y' : List ℕ) × InString s i x' × InString t j y' × (order x y ≡ order x' y')

        ends : (k : K) → eqb (get_or s i 0) 0x22 ≡ true → order k.0 k.1 ≡ differs (get_or s i 0) (get_or t j 0)
        ends k e =
            let g = plain t j k.1 k.3 (λ h. n (eqb-true (get_or s i 0) 0x22 e ∙ sym h)) b in
            ap (λ (z : List ℕ). order z k.1) (closes s i k.0 k.2 (eqb-true (get_or s i 0) 0x22 e)) ∙ ap (order []) g.1 ∙ rw (differs, e)

        more_left : (k : K) → eqb (get_or s i 0) 0x22 ≡ false → eqb (get_or t j 0) 0x22 ≡ true → order k.0 k.1 ≡ differs (get_or s i 0) (get_or t j 0)
        more_left k e f =
            let g = plain s i k.0 k.2 (eqb-false (get_or s i 0) 0x22 e) a in
            ap (λ (z : List ℕ). order z k.1) g.1 ∙ ap (order (get_or s i 0 ∷ g.0)) (closes t j k.1 k.3 (eqb-true (get_or t j 0) 0x22 f))
            ∙ rw (differs, e, f)

        strict : get_or t j 0 ≤ get_or s i 0 → get_or t j 0 < get_or s i 0
        strict l = omega (arith, n)

        plains : (k : K) → eqb (get_or s i 0) 0x22 ≡ false → eqb (get_or t j 0) 0x22 ≡ false → order k.0 k.1 ≡ differs (get_or s i 0) (get_or t j 0)
        plains k e f =
            let g = plain s i k.0 k.2 (eqb-false (get_or s i 0) 0x22 e) a in
            let h = plain t j k.1 k.3 (eqb-false (get_or t j 0) 0x22 f) b in
            ap (λ (z : List ℕ). order z k.1) g.1 ∙ ap (order (get_or s i 0 ∷ g.0)) h.1
            ∙ by_test (ltb (get_or s i 0) (get_or t j 0))
            (λ l. order_less (get_or s i 0) (get_or t j 0) g.0 h.0 (ltb-true (get_or s i 0) (get_or t j 0) l) ∙ rw (differs, e, f, l))
            (λ l. order_more (get_or s i 0) (get_or t j 0) g.0 h.0 (strict (ltb-false (get_or s i 0) (get_or t j 0) l)) ∙ rw (differs, e, f, l))

-- two contents that begin with the same bytes
order_append : (xs ys zs : List ℕ) → order (xs ++ ys) (xs ++ zs) ≡ order ys zs
order_append [] ys zs = refl
order_append (x ∷ xs) ys zs = order_same x x (xs ++ ys) (xs ++ zs) refl ∙ order_append xs ys zs

-- both go on behind escapes of the same character
pub both_escaped : (s t : List ℕ) (i j m n c : ℕ) {P Q : List ℕ → Type 0} → Tracks P Q (InString s i) (InString t j)
    → Escapes s i m c → Escapes t j n c → Tracks P Q (InString s m) (InString t n)
both_escaped s t i j m n c keep e f x y p q =
    let k = keep x y p q in
    let g = e.stands k.0 k.2 in
    let h = f.stands k.1 k.3 in
    (g.0, h.0, g.2, h.2, k.4 ∙ ap (λ (z : List ℕ). order z k.1) g.1 ∙ ap (order (encode c ++ g.0)) h.1 ∙ order_append (encode c) g.0 h.0)

-- what the order says of two contents
pub data Ordered (xs ys : List ℕ) : Ordering → Type 0 where
  is_less : leq xs ys ≡ true → (xs ≡ ys → ⊥) → Ordered xs ys Less
  is_equal : xs ≡ ys → Ordered xs ys Equal
  is_greater : leq xs ys ≡ false → Ordered xs ys Greater

-- The order is less where the first content comes before the second, equal where they are equal, and greater where it comes after.
pub ordered : (xs ys : List ℕ) → Ordered xs ys (order xs ys)
unfolding order leq
ordered [] [] = is_equal refl
ordered [] (y ∷ ys) = is_less refl (λ e. nil≢cons e)
ordered (x ∷ xs) [] = is_greater refl
ordered (x ∷ xs) (y ∷ ys) = go (ordered xs ys) (step x y xs ys)
  where
    go : Ordered xs ys (order xs ys) → Step x y xs ys → Ordered (x ∷ xs) (y ∷ ys) (order (x ∷ xs) (y ∷ ys))
    go o (less h) = rw (order_less x y xs ys h) (is_less (leq_less x y xs ys h) (λ e. omega (arith, head-eq_of_cons-eq e)))
    go o (equal h) = rw (order_same x y xs ys h) (on o h)
      where
        on : {r : Ordering} → Ordered xs ys r → x ≡ y → Ordered (x ∷ xs) (y ∷ ys) r
        on (is_less a b) q = is_less (leq_same x y xs ys q ∙ a) (λ e. b (tail-eq_of_cons-eq e))
        on (is_equal a) q = is_equal (cc)
        on (is_greater a) q = is_greater (leq_same x y xs ys q ∙ a)
    go o (more h) = rw (order_more x y xs ys h) (is_greater (leq_more x y xs ys h))
