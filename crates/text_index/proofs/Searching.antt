-- How many strings of an index come before a content, found by halves. Assumes nothing.
use Prim.Native.Nat.{ℕ, ◌+◌, ◌<◌, ◌≤◌}
use mathlib.Core.Path.{◌≡◌, sym, ap, subst, ◌∙◌}
use mathlib.Core.List.{List}
use mathlib.Core.Bool.{Bool, true, false, not}
use native.Mathlib.Omega.{arith}
use lib.ListN.{length, get_or}
use Rattle.laws.specs.Order.{leq}
use Rattle.laws.proofs.Order.{by_test, false_true, leq_refl, leq_trans, leq_antisym, leq_total}
use Rattle.text_order.specs.Compare.{order}
use Rattle.std.specs.declared.cmp.Ordering.{Ordering}
use Rattle.std.specs.declared.cmp.Ordering.TheVariants.{Less, Equal, Greater}
use Rattle.text_order.proofs.Orders.{Ordered, is_less, is_equal, is_greater, ordered}
use Rattle.text_index.specs.Index.{entry_text, Entry, SomeIndex, comes_before, Counted, Before}
use Rattle.text_index.proofs.Indexing.{index_rising}

-- what `comes_before` says
module _ (x c : List ℕ) where
  -- A content that comes before c is not reached by it.
  pub before_false : comes_before false x c ≡ true → leq c x ≡ false
  unfolding comes_before
  before_false e = by_test (leq c x) (λ f. false_true (sym (ap not f) ∙ e)) (λ f. f)

  -- One that does not come before c is reached by it.
  pub after_false : comes_before false x c ≡ false → leq c x ≡ true
  unfolding comes_before
  after_false e = by_test (leq c x) (λ f. f) (λ f. false_true (sym e ∙ ap not f))

  less_before : (equal : Bool) → leq x c ≡ true → (x ≡ c → ⊥) → comes_before equal x c ≡ true
  unfolding comes_before
  less_before true e n = e
  less_before false e n = by_test (leq c x) (λ f. absurd (n (leq_antisym x c e f))) (λ f. ap not f)

  same_before : (equal : Bool) → x ≡ c → comes_before equal x c ≡ equal
  unfolding comes_before
  same_before true e = ap (λ (y : List ℕ). leq y c) e ∙ leq_refl c
  same_before false e = ap (λ (y : List ℕ). not (leq c y)) e ∙ ap not (leq_refl c)

  greater_before : (equal : Bool) → leq x c ≡ false → comes_before equal x c ≡ false
  unfolding comes_before
  greater_before true e = e
  greater_before false e = ap not (leq_total x c e)

  told : {r : Ordering} → r ≡ order x c → Ordered x c r
  told e = subst (Ordered x c) (sym e) (ordered x c)

  module _ (equal : Bool) where
    less : {r : Ordering} → Ordered x c r → r ≡ Less → true ≡ comes_before equal x c
    less (is_less a b) e = sym (less_before equal a b)
    less (is_equal a) e = let z : ◌≡◌ {A = ℕ} 0 1 = cc in absurd (omega arith)
    less (is_greater a) e = let z : ◌≡◌ {A = ℕ} 0 1 = cc in absurd (omega arith)

    alike : {r : Ordering} → Ordered x c r → r ≡ Equal → equal ≡ comes_before equal x c
    alike (is_less a b) e = let z : ◌≡◌ {A = ℕ} 0 1 = cc in absurd (omega arith)
    alike (is_equal a) e = sym (same_before equal a)
    alike (is_greater a) e = let z : ◌≡◌ {A = ℕ} 0 1 = cc in absurd (omega arith)

    greater : {r : Ordering} → Ordered x c r → r ≡ Greater → false ≡ comes_before equal x c
    greater (is_less a b) e = let z : ◌≡◌ {A = ℕ} 0 1 = cc in absurd (omega arith)
    greater (is_equal a) e = let z : ◌≡◌ {A = ℕ} 0 1 = cc in absurd (omega arith)
    greater (is_greater a) e = sym (greater_before equal a)

    -- A content that comparing finds less comes before c.
    pub is_before_less : {r : Ordering} → r ≡ order x c → r ≡ Less → true ≡ comes_before equal x c
    is_before_less e = less (told e)

    -- One that is the same comes before c where equal ones count.
    pub is_before_equal : {r : Ordering} → r ≡ order x c → r ≡ Equal → equal ≡ comes_before equal x c
    is_before_equal e = alike (told e)

    -- One that is greater does not come before c.
    pub is_before_greater : {r : Ordering} → r ≡ order x c → r ≡ Greater → false ≡ comes_before equal x c
    is_before_greater e = greater (told e)

-- what is not after a content that comes before c comes before c too
lower_before : (equal : Bool) (x y c : List ℕ) → leq x y ≡ true → comes_before equal y c ≡ true → comes_before equal x c ≡ true
unfolding comes_before
lower_before true x y c l e = leq_trans x y c l e
lower_before false x y c l e =
    by_test (leq c x) (λ f. false_true (sym (before_false y c e) ∙ leq_trans c x y f l)) (λ f. ap not f)

higher_after : (equal : Bool) (x y c : List ℕ) → leq x y ≡ true → comes_before equal x c ≡ false → comes_before equal y c ≡ false
higher_after equal x y c l e =
    by_test (comes_before equal y c) (λ f. false_true (sym e ∙ lower_before equal x y c l f)) (λ f. f)

-- where equal ones do not count, what comes before c comes before it where they do
strict_before : (x c : List ℕ) → comes_before false x c ≡ true → comes_before true x c ≡ true
unfolding comes_before
strict_before x c e = leq_total c x (before_false x c e)

after_strict : (x c : List ℕ) → comes_before true x c ≡ false → comes_before false x c ≡ false
after_strict x c e = by_test (comes_before false x c) (λ f. false_true (sym e ∙ strict_before x c f)) (λ f. f)

module _ (b at order : List ℕ) where
  -- At first nothing is known.
  pub count_started : (below above : Bool) (c : List ℕ) → Counted b at order below above c 0 (length order)
  count_started below above c =
      record { rising = omega arith; within = omega arith; before = λ i l. absurd (omega arith); after = λ i l h. absurd (omega arith) }

  -- At last no place is left between them.
  pub counted : (equal : Bool) (c : List ℕ) (low high : ℕ) → Counted b at order equal equal c low high → high ≤ low → Before b at order equal c low
  counted equal c low high p l =
      record { within = omega (arith, p.rising, p.within); before = p.before; after = λ i j h. p.after i (omega (arith, p.rising)) h }

  -- Where equal ones count above and not below, no string has the content.
  pub none_counted : (c : List ℕ) (low high : ℕ) → Counted b at order false true c low high → high ≤ low → (equal : Bool) → Before b at order equal c low
  none_counted c low high p l true =
      counted true c low high (record { rising = p.rising; within = p.within; before = λ i j. strict_before _ c (p.before i j); after = p.after }) l
  none_counted c low high p l false =
      counted false c low high (record { rising = p.rising; within = p.within; before = p.before; after = λ i j h. after_strict _ c (p.after i j h) }) l

  module _ (below above : Bool) (c : List ℕ) (low high : ℕ) (p : Counted b at order below above c low high) (x : SomeIndex b at order) (mid : ℕ)
      (l : low ≤ mid) (h : mid < high) where
    -- The string in the middle stands in the byte list.
    pub mid_entry : Entry b at (get_or order mid 0)
    mid_entry = x.index.entries mid (omega (arith, p.within))

    -- The middle comes before c, and so does what stands before the middle.
    pub goes_up : (equal : Bool) {r : Bool} → r ≡ comes_before equal (entry_text b at (get_or order mid 0)) c → r ≡ true
        → Counted b at order equal above c (mid + 1) high
    goes_up equal e t =
        record {
          rising = omega arith;
          within = p.within;
          before = λ i j. lower_before equal _ (entry_text b at (get_or order mid 0)) c
              (index_rising b at x.index i mid (omega arith) (omega (arith, p.within))) (sym e ∙ t);
          after = p.after;
        }

    -- The middle does not, and neither does what stands behind it.
    pub goes_down : (equal : Bool) {r : Bool} → r ≡ comes_before equal (entry_text b at (get_or order mid 0)) c → r ≡ false
        → Counted b at order below equal c low mid
    goes_down equal e t =
        record {
          rising = l;
          within = omega (arith, p.within);
          before = p.before;
          after = λ i j k. higher_after equal (entry_text b at (get_or order mid 0)) _ c (index_rising b at x.index mid i j k) (sym e ∙ t);
        }
