-- Whether a content is a given name, or begins with it, byte by byte; and whether two contents are equal.
use Prim.Native.Nat.{ℕ, ◌+◌, ◌<◌, ◌≤◌}
use mathlib.Core.Path.{◌≡◌, refl, sym, ap, ◌∙◌}
use mathlib.Core.List.{List, [], ◌∷◌}
use mathlib.Core.Bool.{Bool, true, false, not, ◌||◌}
use native.Mathlib.Omega.{arith}
use native.Mathlib.Numerals.{add-one}
use borrow.Author.Tests.{eq-eqb, ne_eqb, eqb-true, eqb-false}
use lib.ListN.{length, drop, get_or, drop_of_length-le}
use lib.Seq.{drop-cons}
use lib.Dec.{eqb}
use Rattle.laws.specs.Order.{same, leq}
use Rattle.laws.proofs.Order.{by_test, false_true, same_refl, same_eq, leq_refl}
use Rattle.text_strings.specs.InString.{Inside, content_from}
use Rattle.text_strings.specs.Cursor.{Left, GivesByte}
use Rattle.text_order.specs.Compare.{order}
use Rattle.text_names.specs.Named.{holds_name}
use Rattle.text_strings.specs.declared.Next.{Next}
use Rattle.std.specs.declared.cmp.Ordering.{Ordering}
use Rattle.std.specs.declared.cmp.Ordering.TheVariants.{Less, Equal, Greater}
use Rattle.text_strings.proofs.Cursors.{given_end, given_byte}
use Rattle.text_order.proofs.Orders.{Ordered, is_less, is_equal, is_greater, ordered}
use Rattle.text_strings.proofs.Positions.{ends, goes_on, some_left}

-- one step, for the whole content (w is true) and for its first bytes
same_head : (w : Bool) (x y : ℕ) (xs ys : List ℕ) → x ≡ y → holds_name w (x ∷ xs) (y ∷ ys) ≡ holds_name w xs ys
unfolding holds_name same
same_head true x y xs ys e = rw (eq-eqb x y e, same)
same_head false x y xs ys e = rw (eq-eqb x y e, same)

differ_head : (w : Bool) (x y : ℕ) (xs ys : List ℕ) → (x ≡ y → ⊥) → holds_name w (x ∷ xs) (y ∷ ys) ≡ false
unfolding holds_name same
differ_head true x y xs ys n = rw (ne_eqb x y n, same)
differ_head false x y xs ys n = rw (ne_eqb x y n, same)

too_short : (w : Bool) (y : ℕ) (ys : List ℕ) → holds_name w [] (y ∷ ys) ≡ false
unfolding holds_name same
too_short true y ys = refl
too_short false y ys = refl

-- the end of the name: nothing may be left of a whole content
nothing_left : (w : Bool) → holds_name w [] [] ≡ true
unfolding holds_name same
nothing_left true = refl
nothing_left false = refl

bytes_left : (w : Bool) (xs : List ℕ) → 1 ≤ length xs → holds_name w xs [] ≡ not w
unfolding holds_name same
bytes_left w [] h = absurd (omega arith)
bytes_left true (x ∷ xs) h = refl
bytes_left false (x ∷ xs) h = refl

module _ (w : Bool) where
  -- the name from its k-th byte on
  module _ (name : List ℕ) (k : ℕ) where
    module _ (h : k < length name) where
      next_of : drop k name ≡ get_or name k 0 ∷ drop (k + 1) name
      next_of = drop-cons name k 0 h ∙ ap (λ (j : ℕ). get_or name k 0 ∷ drop j name) (sym (add-one k))

      ends_before : false ≡ holds_name w [] (drop k name)
      ends_before = sym (ap (holds_name w []) next_of ∙ too_short w _ _)

      module _ (c : List ℕ) (b : ℕ) (d : List ℕ) (e : c ≡ b ∷ d) where
        split : holds_name w c (drop k name) ≡ holds_name w (b ∷ d) (get_or name k 0 ∷ drop (k + 1) name)
        split = ap (λ (l : List ℕ). holds_name w l (drop k name)) e ∙ ap (holds_name w (b ∷ d)) next_of

        same_next : b ≡ get_or name k 0 → holds_name w c (drop k name) ≡ holds_name w d (drop (k + 1) name)
        same_next q = split ∙ same_head w b (get_or name k 0) d (drop (k + 1) name) q

        differ_here : (b ≡ get_or name k 0 → ⊥) → false ≡ holds_name w c (drop k name)
        differ_here n = sym (split ∙ differ_head w b (get_or name k 0) d (drop (k + 1) name) n)

    -- past the end of the name
    module _ (h : length name ≤ k) (c : List ℕ) where
      at_the_end : holds_name w c (drop k name) ≡ holds_name w c []
      at_the_end = ap (holds_name w c) (drop_of_length-le name {i = k} h)

      all_there : (t : Bool) → t ≡ true → c ≡ [] → t || not w ≡ holds_name w c (drop k name)
      all_there t e f = ap (λ (b : Bool). b || not w) e ∙ sym (at_the_end ∙ ap (λ (l : List ℕ). holds_name w l []) f ∙ nothing_left w)

      more_there : (t : Bool) → t ≡ false → 1 ≤ length c → t || not w ≡ holds_name w c (drop k name)
      more_there t e f = ap (λ (b : Bool). b || not w) e ∙ sym (at_the_end ∙ bytes_left w c f)

  -- at a position of the text
  module _ (s : List ℕ) (i : ℕ) (p : Inside s i) (name : List ℕ) (k : ℕ) where
    -- Where the string ends and bytes of the name are left, the content does not hold what is left of the name.
    pub ends_early : k < length name → get_or s i 0 ≡ 0x22 → false ≡ holds_name w (content_from s i) (drop k name)
    ends_early h e = ends_before name k h ∙ ap (λ (l : List ℕ). holds_name w l (drop k name)) (sym (ends s i p e))

    module _ (h : k < length name) (b : get_or s i 0 ≡ 0x5C → ⊥) where
      -- Where the byte at the position is no backslash and not the name's, the content does not hold what is left of the name.
      pub byte_differs : (get_or s i 0 ≡ get_or name k 0 → ⊥) → false ≡ holds_name w (content_from s i) (drop k name)
      byte_differs n =
          by_test (eqb (get_or s i 0) 0x22)
          (λ e. ends_early h (eqb-true _ _ e))
          (λ e. differ_here name k h _ _ _ (goes_on s i p (eqb-false _ _ e) b).0 n)

      -- Where it is the name's and no quotation mark, the comparison goes on at the next position, still in the string.
      pub byte_same : (get_or s i 0 ≡ 0x22 → ⊥) → get_or s i 0 ≡ get_or name k 0
          → (holds_name w (content_from s i) (drop k name) ≡ holds_name w (content_from s (i + 1)) (drop (k + 1) name)) × Inside s (i + 1)
      byte_same a e = let g = goes_on s i p a b in (same_next name k h _ _ _ g.0 e, g.1)

    -- Past the end of the name, the content holds what is left of it exactly if a quotation mark stands at the position or bytes may be left.
    pub ends_there : length name ≤ k → eqb (get_or s i 0) 0x22 || not w ≡ holds_name w (content_from s i) (drop k name)
    ends_there h =
        by_test (eqb (get_or s i 0) 0x22)
        (λ e. all_there name k h _ _ e (ends s i p (eqb-true _ _ e)))
        (λ e. more_there name k h _ _ e (some_left s i p (eqb-false _ _ e)))

  -- a content that fits P holds xs where one that fits Q holds ys
  abbrev pub Follows : (P Q : List ℕ → Type 0) (xs ys : List ℕ) → Type 0
  Follows P Q xs ys = (x : List ℕ) → P x → (y : List ℕ) × Q y × (holds_name w x xs ≡ holds_name w y ys)

  -- at a cursor
  module _ (s : List ℕ) (n : Next) {P Q : List ℕ → Type 0} (xs name : List ℕ) (k : ℕ) (keep : Follows P Q xs (drop k name)) (g : (c : List ℕ) → Q c
      → GivesByte s c n) where
    -- Where the cursor gives no byte and bytes of the name are left, a content that fits `P` does not hold `xs`.
    pub cursor_ends : k < length name → n.found ≡ false → (x : List ℕ) → P x → false ≡ holds_name w x xs
    cursor_ends h e x p =
        let q = keep x p in
        ends_before name k h ∙ ap (λ (l : List ℕ). holds_name w l (drop k name)) (sym (given_end s q.0 n e (g q.0 q.1))) ∙ sym q.2

    -- Past the end of the name, a content that fits `P` holds `xs` exactly if the cursor gives no byte or bytes may be left.
    pub cursor_done : length name ≤ k → (x : List ℕ) → P x → not n.found || not w ≡ holds_name w x xs
    cursor_done h x p =
        let q = keep x p in
        by_test n.found
        (λ e. let b = given_byte s q.0 n e (g q.0 q.1) in
        more_there name k h q.0 (not n.found) (ap not e) (omega (arith, ap length b.1)) ∙ sym q.2)
        (λ e. all_there name k h q.0 (not n.found) (ap not e) (given_end s q.0 n e (g q.0 q.1)) ∙ sym q.2)

    module _ (h : k < length name) (e : n.found ≡ true) where
      -- Where the cursor gives a byte that is not the name's, a content that fits `P` does not hold `xs`.
      pub cursor_differs : (n.byte ≡ get_or name k 0 → ⊥) → (x : List ℕ) → P x → false ≡ holds_name w x xs
      cursor_differs d x p =
          let q = keep x p in
          let b = given_byte s q.0 n e (g q.0 q.1) in
          differ_here name k h q.0 n.byte b.0 b.1 d ∙ sym q.2

      -- Where it gives the name's byte, a content that fits `P` holds `xs` where the one left holds the name after that byte.
      pub cursor_same : n.byte ≡ get_or name k 0 → Follows P (Left s n.rest) xs (drop (k + 1) name)
      cursor_same d x p =
          let q = keep x p in
          let b = given_byte s q.0 n e (g q.0 q.1) in
          (b.0, b.2, q.2 ∙ same_next name k h q.0 n.byte b.0 b.1 d)

-- two contents are equal where their order is `Equal`
says_equal : Ordering → Bool
says_equal Equal = true
says_equal Less = false
says_equal Greater = false

module _ (x y : List ℕ) where
  by_order : says_equal (order x y) ≡ same x y
  unfolding says_equal
  by_order = go (ordered x y)
    where
      other : (x ≡ y → ⊥) → false ≡ same x y
      other n = by_test (same x y) (λ e. absurd (n (same_eq x y e))) (λ e. sym e)

      go : {r : Ordering} → Ordered x y r → says_equal r ≡ same x y
      go (is_less a b) = other b
      go (is_equal a) = sym (ap (same x) (sym a) ∙ same_refl x)
      go (is_greater a) = other (λ e. false_true (sym a ∙ ap (leq x) (sym e) ∙ leq_refl x))

  -- Contents whose order is `Equal` are equal.
  pub order_equal : Equal ≡ order x y → true ≡ same x y
  unfolding says_equal
  order_equal e = ap says_equal e ∙ by_order

  -- Contents whose order is `Less` are not equal.
  pub order_less : Less ≡ order x y → false ≡ same x y
  unfolding says_equal
  order_less e = ap says_equal e ∙ by_order

  -- Contents whose order is `Greater` are not equal.
  pub order_greater : Greater ≡ order x y → false ≡ same x y
  unfolding says_equal
  order_greater e = ap says_equal e ∙ by_order
