-- The canonical form of a string's content, byte by byte and character by character.
use Prim.Native.Nat.{ℕ, ◌+◌, ◌-◌, ◌%◌, ◌≤◌}
use mathlib.Core.Path.{◌≡◌, refl, ap, subst, ◌∙◌}
use mathlib.Core.List.{List, [], ◌∷◌, ◌++◌}
use mathlib.Core.Bool.{◌||◌}
use native.Mathlib.Omega.{arith}
use native.Mathlib.Nat.{sub-zero}
use borrow.Author.Tests.{ne_eqb}
use lib.ListN.{length, take, drop, set, length-take}
use lib.Dec.{ltb, eqb}
use Rattle.laws.proofs.Order.{by_test}
use Rattle.text_utf8.specs.Scalar.{encode, encode1, encode2, encode3, encode4}
use Rattle.text_json.specs.Content.{escaped}
use Rattle.laws.specs.Writes.{Writes}
use Rattle.laws.proofs.Writing.{nothing_written, byte_written}

-- two bytes that are set at the start of a slice of at least two bytes
two_written : (l : List ℕ) (a b : ℕ) → 2 ≤ length l → Writes l (set (set l 0 a) 1 b) (a ∷ b ∷ [])
two_written l a b h = byte_written (byte_written (nothing_written l) 0 a refl (omega arith)) 1 b refl (omega arith)

-- A byte that is neither a quotation mark nor a backslash stands for itself in the canonical form.
pub escaped_plain : (b : ℕ) (s : List ℕ) → (b ≡ 0x22 → ⊥) → (b ≡ 0x5C → ⊥) → escaped (b ∷ s) ≡ b ∷ escaped s
unfolding escaped
escaped_plain b s p q = rw (ne_eqb b 0x22 p, escaped) (rw (ne_eqb b 0x5C q))

-- The canonical form of two contents, one after the other, is the first one's followed by the second one's.
pub escaped_append : (s t : List ℕ) → escaped (s ++ t) ≡ escaped s ++ escaped t
unfolding escaped
escaped_append [] t = refl
escaped_append (b ∷ s) t = by_test (eqb b 0x22 || eqb b 0x5C) (λ e. rw (e, escaped) (rw (escaped_append s t))) (λ e. rw (e, escaped) (rw (escaped_append s t)))

-- the bytes of a longer encoding are 80 (hex) or more
high : (b : ℕ) (s t : List ℕ) → 0x80 ≤ b → escaped s ≡ t → escaped (b ∷ s) ≡ b ∷ t
high b s t h e = escaped_plain b s (λ q. omega arith) (λ q. omega arith) ∙ ap (λ (l : List ℕ). b ∷ l) e

none : escaped [] ≡ []
unfolding escaped
none = refl

-- The canonical form of a character that is neither a quotation mark nor a backslash is its encoding.
pub escaped_encode : (c : ℕ) → (c ≡ 0x22 → ⊥) → (c ≡ 0x5C → ⊥) → escaped (encode c) ≡ encode c
unfolding encode
escaped_encode c p q =
    by_test (ltb c 0x80)
    (λ e. rw (e, encode) one)
    (λ e. rw (e, encode) (by_test (ltb c 0x800)
    (λ f. rw f two)
    (λ f. rw f (by_test (ltb c 0x10000) (λ g. rw g three) (λ g. rw g four)))))
  where
    one : escaped (encode1 c) ≡ encode1 c
    one = escaped_plain c [] p q ∙ ap (λ (l : List ℕ). c ∷ l) none

    last : escaped ((0x80 + c % 64) ∷ []) ≡ (0x80 + c % 64) ∷ []
    last = high _ _ _ (omega arith) none

    two : escaped (encode2 c) ≡ encode2 c
    two = high _ _ _ (omega arith) last

    three : escaped (encode3 c) ≡ encode3 c
    three = high _ _ _ (omega arith) (high _ _ _ (omega arith) last)

    four : escaped (encode4 c) ≡ encode4 c
    four = high _ _ _ (omega arith) (high _ _ _ (omega arith) (high _ _ _ (omega arith) last))

-- the two characters that are escaped
pub quotation_mark : escaped (encode 0x22) ≡ 0x5C ∷ 0x22 ∷ []
unfolding escaped encode
quotation_mark = refl

-- The canonical form of a backslash is two backslashes.
pub backslash : escaped (encode 0x5C) ≡ 0x5C ∷ 0x5C ∷ []
unfolding escaped encode
backslash = refl

module _ (c b : ℕ) (l : List ℕ) (e : c ≡ b) (m : escaped (encode b) ≡ 0x5C ∷ b ∷ []) (h : length (escaped (encode c)) ≤ length l) where
  pair : escaped (encode c) ≡ 0x5C ∷ b ∷ []
  pair = ap (λ (x : ℕ). escaped (encode x)) e ∙ m

  -- A slice with space for the canonical form of a character that is escaped has at least two bytes.
  pub pair_fits : 2 ≤ length l
  pair_fits = rw pair at h

  -- With a backslash and the character set at its start, the two bytes of that character's canonical form are written.
  pub pair_written : (2 ≡ length (escaped (encode c))) × Writes l (set (set l 0 0x5C) 1 b) (escaped (encode c))
  pair_written = rw pair (refl, two_written l 0x5C b pair_fits)

-- any other character is written as it is encoded
module _ (c n : ℕ) (l : List ℕ) (p : c ≡ 0x22 → ⊥) (q : c ≡ 0x5C → ⊥) (e : (n ≡ length (encode c)) × (take n l ≡ encode c)) where
  -- The encoding, which is the first `n` bytes of `l`, lies within `l` and fits wherever the canonical form does.
  pub char_fits : (m : ℕ) → length (escaped (encode c)) ≤ m → (0 ≤ n) × (n ≤ length l) × (n - 0 ≤ m)
  char_fits m h = let x : n ≤ m = omega (arith, ap length (escaped_encode c p q)) in omega (arith, length-take n l, ap length e.1)

  -- Where those bytes are written, the canonical form of the character is.
  pub char_written : (r : ℕ) (before after : List ℕ) → (r ≡ n - 0) × Writes before after (take (n - 0) (drop 0 l))
      → (r ≡ length (escaped (encode c))) × Writes before after (escaped (encode c))
  char_written r before after w = rw (escaped_encode c p q) (omega arith, subst (Writes before after) (ap (λ (k : ℕ). take k l) (sub-zero n) ∙ e.1) w.1)
