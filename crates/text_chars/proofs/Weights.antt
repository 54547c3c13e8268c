-- What the chars of a string weigh: each law takes one character off a measured string.
-- Assumes nothing.
use Prim.Native.Nat.{ℕ, ◌+◌, ◌≤◌}
use mathlib.Core.Path.{◌≡◌, refl, sym, ◌∙◌}
use mathlib.Core.List.{List, [], ◌∷◌, ◌++◌}
use mathlib.Core.Bool.{Bool, true, false, ◌||◌, or-false, or_assoc}
use native.Mathlib.Omega.{arith}
use borrow.Author.Tests.{lt-leb, ne_eqb}
use lib.ListN.{length, drop, length-append}
use lib.Dec.{eqb}
use Rattle.text_utf8.specs.Scalar.{encode}
use Rattle.text_json.specs.Syntax.{Char, byte, unit}
use Rattle.text_json.specs.Read.{Read, found, stuck, prepend}
use Rattle.text_json.specs.Content.{is_high, is_low, is_pair, is_surrogate, pair_value, unescape, lone, is_control, any_control, refused_string, escaped, quoted}
use Rattle.text_json.specs.Scan.{ScansToken}
use Rattle.text_json.specs.Size.{content_size, string_size}
use Rattle.text_chars.specs.Measure.{Weight, weight, measure, add, paired}
use Rattle.std.specs.Prelude.{Ok, Err}
use Rattle.text_chars.proofs.Encoded.{control_high, size_four}

-- lists of bytes that stand one after the other

any_append : (a t : List ℕ) → any_control (a ++ t) ≡ any_control a || any_control t
unfolding any_control
any_append [] t = refl
any_append (b ∷ a) t = rw (any_append a t, or_assoc)

escaped_append : (a t : List ℕ) → length (escaped (a ++ t)) ≡ length (escaped a) + length (escaped t)
unfolding escaped
escaped_append [] t = omega arith
escaped_append (b ∷ a) t = one (eqb b 0x22 || eqb b 0x5C) (escaped (a ++ t)) (escaped a) (escaped t) (escaped_append a t)
  where
    one : (z : Bool) (x y l : List ℕ) → length x ≡ length y + length l
        → length {A = ℕ} (elim z [ true ↦ 0x5C ∷ b ∷ x | false ↦ b ∷ x ])
        ≡ length {A = ℕ} (elim z [ true ↦ 0x5C ∷ b ∷ y | false ↦ b ∷ y ]) + length l
    one true x y l e = omega arith
    one false x y l e = omega arith

-- a character with the bytes a, which f refuses for itself, before chars with the bytes t, which g refuses for themselves
split : (f g : Bool) (a t : List ℕ) → f || g || any_control (a ++ t) ≡ f || any_control a || (g || any_control t)
split f g a t = rw any_append (swap f g (any_control a) (any_control t))
  where
    swap : (f g x y : Bool) → f || g || (x || y) ≡ f || x || (g || y)
    swap true g x y = refl
    swap false true true y = refl
    swap false true false y = refl
    swap false false x y = refl

weigh : {f g : Bool} {n m : ℕ} (r : List ℕ) → f ≡ g → n ≡ m → found (weight f n) r ≡ found (weight g m) r
weigh r p q = λ i. found (weight (p i) (q i)) r

-- sums of weights

-- To add two refusals and two lengths one after the other is to add the disjunction of the former and the sum of the latter.
pub add_add : (f g : Bool) (n m : ℕ) (x : Read Weight) → add f n (add g m x) ≡ add (f || g) (n + m) x
unfolding add
add_add f g n m (found (weight h k) r) = weigh r (sym (or_assoc f g h)) (omega arith)
add_add f g n m (stuck r) = refl

-- To add no refusal and the length 0 changes nothing.
pub add_none : (x : Read Weight) → x ≡ add false 0 x
unfolding add
add_none (found (weight f n) r) = weigh r refl (omega arith)
add_none (stuck r) = refl

-- A refusal and a length added to what is measured of no chars are found as they are.
pub add_close : (f : Bool) (n : ℕ) (r : List ℕ) → add f n (measure (found [] r)) ≡ found (weight f n) r
unfolding add measure refused_string content_size lone unescape any_control escaped
add_close f n r = weigh r (or-false f) (omega arith)

-- Where reading is stuck, it remains stuck at the same place when a refusal and a length are added.
pub add_stuck : (f : Bool) (n : ℕ) (r : List ℕ) → add f n (measure (stuck r)) ≡ stuck r
unfolding add measure
add_stuck f n r = refl

-- one character before the rest of a string

-- A byte before other chars adds a refusal if it is a control character, and the length of its canonical form.
pub measure_byte : (b : ℕ) (x : Read (List Char))
    → measure (prepend (byte b) x) ≡ add (is_control b) (length (escaped (b ∷ []))) (measure x)
unfolding add measure prepend refused_string content_size lone unescape any_control
measure_byte b (found cs r) =
    weigh r (split false (lone cs) (b ∷ []) (unescape cs) ∙ rw or-false) (escaped_append (b ∷ []) (unescape cs))
measure_byte b (stuck r) = refl

if_true : {A : Type 0} (z : Bool) (a b : A) → z ≡ true → elim z [ true ↦ a | false ↦ b ] ≡ a
if_true z a b e = rw e

if_false : {A : Type 0} (z : Bool) (a b : A) → z ≡ false → elim z [ true ↦ a | false ↦ b ] ≡ b
if_false z a b e = rw e

-- a byte that stands for itself

plain_control : (b : ℕ) → 0x20 ≤ b → is_control b ≡ eqb b 0x7F
unfolding is_control
plain_control b l = rw (lt-leb b 0x1F l)

plain_size : (b : ℕ) → (b ≡ 0x22 → ⊥) → (b ≡ 0x5C → ⊥) → length (escaped (b ∷ [])) ≡ 1
unfolding escaped
plain_size b q e = rw (escaped, ne_eqb b 0x22 q, ne_eqb b 0x5C e)

-- A byte that stands for itself before other chars adds a refusal if it is 7F (hex), and the length 1.
pub measure_plain : (b : ℕ) (x : Read (List Char)) → (b ≡ 0x22 → ⊥) → (b ≡ 0x5C → ⊥) → 0x20 ≤ b
    → measure (prepend (byte b) x) ≡ add (eqb b 0x7F) 1 (measure x)
measure_plain b x q e l = measure_byte b x ∙ rw (plain_control b l, plain_size b q e)

module _ (u v : ℕ) (cs : List Char) where
  unescape_apart : is_pair u v ≡ false → unescape (unit u ∷ unit v ∷ cs) ≡ encode u ++ unescape (unit v ∷ cs)
  unfolding unescape
  unescape_apart e = if_false (is_pair u v) (encode (pair_value u v) ++ unescape cs) (encode u ++ unescape (unit v ∷ cs)) e

  lone_apart : is_pair u v ≡ false → lone (unit u ∷ unit v ∷ cs) ≡ is_surrogate u || lone (unit v ∷ cs)
  unfolding lone
  lone_apart e = if_false (is_pair u v) (lone cs) (is_surrogate u || lone (unit v ∷ cs)) e

  unescape_pair : is_pair u v ≡ true → unescape (unit u ∷ unit v ∷ cs) ≡ encode (pair_value u v) ++ unescape cs
  unfolding unescape
  unescape_pair e = if_true (is_pair u v) (encode (pair_value u v) ++ unescape cs) (encode u ++ unescape (unit v ∷ cs)) e

  lone_pair : is_pair u v ≡ true → lone (unit u ∷ unit v ∷ cs) ≡ lone cs
  unfolding lone
  lone_pair e = if_true (is_pair u v) (lone cs) (is_surrogate u || lone (unit v ∷ cs)) e

-- An unpaired \u escape adds a refusal if it is a surrogate or a control character, and its canonical form's length.
pub measure_unit : (u : ℕ) (x : Read (List Char)) → paired u x ≡ false
    → measure (prepend (unit u) x) ≡ add (is_surrogate u || any_control (encode u)) (length (escaped (encode u))) (measure x)
unfolding add measure prepend paired refused_string content_size lone unescape any_control escaped
measure_unit u (found [] r) e = weigh r (sym (or-false _)) (omega arith)
measure_unit u (found (byte b ∷ cs) r) e =
    weigh r (split (is_surrogate u) (lone (byte b ∷ cs)) (encode u) (unescape (byte b ∷ cs))) (escaped_append (encode u) (unescape (byte b ∷ cs)))
measure_unit u (found (unit v ∷ cs) r) e =
    weigh r (rw (lone_apart u v cs e, unescape_apart u v cs e) (split (is_surrogate u) (lone (unit v ∷ cs)) (encode u) (unescape (unit v ∷ cs))))
    (rw (unescape_apart u v cs e) (escaped_append (encode u) (unescape (unit v ∷ cs))))
measure_unit u (stuck r) e = refl

-- A surrogate pair adds the refusal and the length of the one character that it stands for.
pub measure_pair : (u v : ℕ) (x : Read (List Char)) → is_pair u v ≡ true
    → measure (prepend (unit u) (prepend (unit v) x))
    ≡ add (any_control (encode (pair_value u v))) (length (escaped (encode (pair_value u v)))) (measure x)
unfolding add measure prepend refused_string content_size
measure_pair u v (found cs r) e =
    weigh r (rw (lone_pair u v cs e, unescape_pair u v cs e) (split false (lone cs) (encode (pair_value u v)) (unescape cs)))
    (rw (unescape_pair u v cs e) (escaped_append (encode (pair_value u v)) (unescape cs)))
measure_pair u v (stuck r) e = refl

-- a surrogate pair is a character of four bytes, none of them a control character or escaped
pub measure_surrogates : (u v : ℕ) (x : Read (List Char)) → is_high u ≡ true → is_low v ≡ true
    → measure (prepend (unit u) (prepend (unit v) x)) ≡ add false 4 (measure x)
unfolding is_pair pair_value
measure_surrogates u v x h l =
    let far : 0x10000 ≤ pair_value u v = omega arith in
    measure_pair u v x (rw (h, l)) ∙ rw (control_high (pair_value u v) (omega arith), size_four (pair_value u v) far)

-- from what is measured to the scan

module _ (s : List ℕ) (e : ℕ) (inside : e ≤ length s) where
  -- Chars whose measure is found, with the rest from `e` on, are a token with that end, refusal and length.
  pub scans_token : (x : Read (List Char)) (f : Bool) (n : ℕ) → measure x ≡ found (weight f n) (drop e s)
      → ScansToken refused_string content_size s x (Ok (record { end = e; refused = f; size = n }))
  unfolding measure
  scans_token (found cs r) f n m = ((inside, cc), cc, cc)
  scans_token (stuck r) f n m = let z : ◌≡◌ {A = ℕ} 0 1 = cc in omega arith

  -- Chars whose measure is stuck at `e` are no token, and reading them is stuck at `e`.
  pub scans_none : (x : Read (List Char)) → measure x ≡ stuck (drop e s) → ScansToken refused_string content_size s x (Err e)
  unfolding measure
  scans_none (found cs r) m = let z : ◌≡◌ {A = ℕ} 0 1 = cc in omega arith
  scans_none (stuck r) m = (inside, cc)

-- a string's quotation marks are two bytes more than its content

-- A token of a string's content is a token of the string, two bytes longer in canonical form.
pub scans_quoted : (s : List ℕ) (x : Read (List Char)) (e : ℕ) (f : Bool) (n : ℕ)
    → ScansToken refused_string content_size s x (Ok (record { end = e; refused = f; size = n }))
    → ScansToken refused_string string_size s x (Ok (record { end = e; refused = f; size = n + 2 }))
unfolding string_size quoted content_size
scans_quoted s (found cs r) e f n h = (h.0, h.1, omega (arith, h.2, length-append (escaped (unescape cs)) (0x22 ∷ [])))
scans_quoted s (stuck r) e f n h = h

-- Where reading a string's content is stuck, the string is no token, and reading it is stuck at the same position.
pub scans_unquoted : (s : List ℕ) (x : Read (List Char)) (e : ℕ)
    → ScansToken refused_string content_size s x (Err e) → ScansToken refused_string string_size s x (Err e)
scans_unquoted s (found cs r) e h = h
scans_unquoted s (stuck r) e h = h
