-- What follows an item, and what comes before a member's value.
use Rattle.std.specs.Prelude.{Ok, Err}
use Prim.Native.Nat.{ℕ, ◌+◌, ◌<◌, ◌≤◌}
use mathlib.Core.Path.{◌≡◌, refl, sym, ap, ◌∙◌}
use mathlib.Core.List.{List, [], ◌∷◌}
use native.Mathlib.Omega.{arith}
use borrow.Author.Tests.{eq-eqb, ne_eqb}
use lib.Dec.{eqb}
use lib.ListN.{length, drop, get_or, length-drop, length-append, drop_of_length-le}
use Rattle.laws.proofs.Order.{by_test}
use Rattle.text_json.specs.Syntax.{Char}
use Rattle.text_json.specs.Read.{Read, found, stuck, and_then, prepend, spaces, read_string, read_word, after_item}
use Rattle.text_json.specs.Content.{refused_string, unescape, escaped, quoted}
use Rattle.text_json.specs.Size.{string_size}
use Rattle.text_json.specs.Scan.{At, Steps, ScansToken as TokenScans}
use Rattle.text_json.specs.declared.Token.{Token}
use Rattle.text_tokens.specs.Scanned.{Misfits, Follows, read_key}
use Rattle.text_tokens.specs.declared.After.{After}
use Rattle.text_tokens.proofs.Tokens.{here}

module _ (s : List ℕ) (at mark i : ℕ) (h : at ≤ i) (p : At s i (spaces (drop at s))) where
  -- Where the text ends after the spaces, nothing that fits follows the item.
  pub nothing_follows : length s ≤ i → Follows s at mark (Err i)
  nothing_follows l = (p, rw (drop_of_length-le s {i = i} l) tt)

  module _ (w : i < length s) where
    found_here : spaces (drop at s) ≡ get_or s i 0 ∷ drop (i + 1) s
    found_here = p.1 ∙ here s i w

    -- Where the end mark stands after the spaces, the items end at the position after it.
    pub end_follows : get_or s i 0 ≡ mark → Follows s at mark (Ok (After.End (i + 1)))
    end_follows e = (omega arith, omega arith, found_here ∙ ap (λ (b : ℕ). b ∷ drop (i + 1) s) e)

    -- Where a comma that is not the end mark stands there, the next item follows, after that comma and spaces.
    pub more_follows : (j : ℕ) → (get_or s i 0 ≡ mark → ⊥) → get_or s i 0 ≡ 0x2C → (i + 1 ≤ j) × At s j (spaces (drop (i + 1) s)) → Follows s at mark (Ok (After.More j))
    more_follows j n e q =
        (omega (arith, q.0), q.1.0, drop (i + 1) s, found_here ∙ ap (λ (b : ℕ). b ∷ drop (i + 1) s) e, sym q.1.1, ne_eqb 0x2C mark (λ f. n (e ∙ f)))

    -- Where neither the end mark nor a comma stands there, nothing that fits follows the item.
    pub misfit_follows : (get_or s i 0 ≡ mark → ⊥) → (get_or s i 0 ≡ 0x2C → ⊥) → Follows s at mark (Err i)
    misfit_follows n m = (p, rw (here s i w) (ne_eqb (get_or s i 0) mark n, ne_eqb (get_or s i 0) 0x2C m))

-- the same as the reading function has it
module _ {A : Type 0} (f : List ℕ → Read (List A)) (t : A) (s : List ℕ) (at mark : ℕ) where
  -- Where the items end there, reading finds this item as the last one and the text after the end mark.
  pub after_end : (e : ℕ) → Follows s at mark (Ok (After.End e)) → after_item f mark t (spaces (drop at s)) ≡ found (t ∷ []) (drop e s)
  unfolding after_item
  after_end e p = rw p.2 (rw (eq-eqb mark mark refl, after_item))

  -- Where another item follows, reading puts this item before those that are read from there on.
  pub after_more : (j : ℕ) → Follows s at mark (Ok (After.More j)) → after_item f mark t (spaces (drop at s)) ≡ prepend t (f (drop j s))
  unfolding after_item
  after_more j p = rw p.3 (rw (p.5, after_item) (ap (λ (l : List ℕ). prepend t (f l)) (sym p.4)))

  misfit : (q : List ℕ) → Misfits mark q → after_item f mark t q ≡ stuck q
  unfolding after_item
  misfit [] m = refl
  misfit (b ∷ q) m = rw (m.0, after_item) (rw m.1)

  -- Where nothing that fits follows, reading is stuck at the position after the spaces.
  pub after_stuck : (e : ℕ) → Follows s at mark (Err e) → after_item f mark t (spaces (drop at s)) ≡ stuck (drop e s)
  after_stuck e p = ap (after_item f mark t) p.0.1 ∙ misfit (drop e s) p.1

-- a key: no string; a string and no colon; both
module _ (s : List ℕ) (at : ℕ) where
  -- Where scanning a string is stuck, scanning a key is stuck at the same position.
  pub key_none : (e : ℕ) → TokenScans refused_string string_size s (read_string (drop at s)) (Err e)
      → TokenScans refused_string string_size s (read_key (drop at s)) (Err e)
  unfolding read_key and_then
  key_none e p = go (read_string (drop at s)) p
    where
      go : (x : Read (List Char)) → TokenScans refused_string string_size s x (Err e)
          → TokenScans refused_string string_size s (and_then x (λ cs s₁. and_then (read_word (0x3A ∷ []) (spaces s₁)) (λ _ s₂. found cs (spaces s₂)))) (Err e)
      go (found cs r) q = absurd q
      go (stuck r) q = q

  module _ (t : Token) (i : ℕ) (p : TokenScans refused_string string_size s (read_string (drop at s)) (Ok t)) (q : At s i (spaces (drop t.end s))) where
    -- Where a string is scanned and the colon after it is not found, scanning a key is stuck where the colon should be.
    pub key_no_colon : (k : ℕ) → Steps s (read_word (0x3A ∷ []) (drop i s)) (Err k)
        → TokenScans refused_string string_size s (read_key (drop at s)) (Err k)
    unfolding read_key and_then
    key_no_colon k w = go (read_string (drop at s)) p
      where
        word : (y : Read (Unit {0})) (cs : List Char) → Steps s y (Err k)
            → TokenScans refused_string string_size s (and_then y (λ _ s₂. found cs (spaces s₂))) (Err k)
        word (found u r) cs z = absurd z
        word (stuck r) cs z = z

        go : (x : Read (List Char)) → TokenScans refused_string string_size s x (Ok t)
            → TokenScans refused_string string_size s (and_then x (λ cs s₁. and_then (read_word (0x3A ∷ []) (spaces s₁)) (λ _ s₂. found cs (spaces s₂)))) (Err k)
        go (found cs r) z = rw (z.0.1, q.1) (word (read_word (0x3A ∷ []) (drop i s)) cs w)
        go (stuck r) z = absurd z

    -- Where a string and a colon are scanned, the key is that string and ends after the spaces behind the colon.
    pub key_found : (k j : ℕ) → Steps s (read_word (0x3A ∷ []) (drop i s)) (Ok k) → At s j (spaces (drop k s))
        → TokenScans refused_string string_size s (read_key (drop at s)) (Ok (record { end = j; refused = t.refused; size = t.size }))
    unfolding read_key and_then
    key_found k j w v = go (read_string (drop at s)) p
      where
        word : (y : Read (Unit {0})) (cs : List Char) → Steps s y (Ok k) → (t.refused ≡ refused_string cs) × (t.size ≡ string_size cs)
            → TokenScans refused_string string_size s (and_then y (λ _ s₂. found cs (spaces s₂))) (Ok (record { end = j; refused = t.refused; size = t.size }))
        word (found u r) cs z g = rw z.1 (v, g.0, g.1)
        word (stuck r) cs z g = absurd z

        go : (x : Read (List Char)) → TokenScans refused_string string_size s x (Ok t)
            → TokenScans refused_string string_size s (and_then x (λ cs s₁. and_then (read_word (0x3A ∷ []) (spaces s₁)) (λ _ s₂. found cs (spaces s₂))))
            (Ok (record { end = j; refused = t.refused; size = t.size }))
        go (found cs r) z = rw (z.0.1, q.1) (word (read_word (0x3A ∷ []) (drop i s)) cs w (z.1, z.2))
        go (stuck r) z = absurd z

-- a string's canonical form has its two marks
pub two_marks : (s : List ℕ) (x : Read (List Char)) (t : Token) → TokenScans refused_string string_size s x (Ok t) → 2 ≤ t.size
unfolding string_size quoted
two_marks s (found cs r) t p = omega (arith, p.2, length-append (escaped (unescape cs)) (0x22 ∷ []))
two_marks s (stuck r) t p = absurd p

-- a colon has a byte
pub colon_later : (s : List ℕ) (i k : ℕ) → Steps s (read_word (0x3A ∷ []) (drop i s)) (Ok k) → i < k
unfolding read_word
colon_later s i k w = go (drop i s) refl w
  where
    go : (l : List ℕ) → drop i s ≡ l → Steps s (read_word (0x3A ∷ []) l) (Ok k) → i < k
    go [] e z = absurd z
    go (b ∷ q) e z = by_test (eqb b 0x3A) (λ t. one (rw (t, read_word) at z)) (λ t. absurd (rw (t, read_word) at z))
      where
        one : At s k q → i < k
        one y = omega (arith, simp length-drop at (ap length e), simp length-drop at (ap length y.1), y.0)

-- a step's end lies within the text
pub steps_inside : {A : Type 0} (s : List ℕ) (x : Read A) (k : ℕ) → Steps s x (Ok k) → k ≤ length s
steps_inside s (found u r) k p = p.0
steps_inside s (stuck r) k p = absurd p
