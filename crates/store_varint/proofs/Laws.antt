-- Laws of numbers in groups of seven bits: what is written is read back, and nothing else is read.
use Prim.Native.Nat.{ℕ, zero, suc, ◌+◌, ◌-◌, ◌*◌, ◌/◌, ◌%◌, ◌≤◌, ◌<◌}
use mathlib.Core.Path.{◌≡◌, refl, sym, ap, ◌∙◌}
use mathlib.Core.List.{List, [], ◌∷◌, ◌++◌}
use native.Mathlib.Decide.{dec_lt}
use native.Mathlib.Omega.{arith}
use lib.ListN.{length, get_or}
use borrow.Author.Tests.{lt-ltb, le-ltb, eq-eqb, ne_eqb}
use Rattle.store_varint.specs.Varint.{groups, varint, Parsed, number, no_number, grouped, read_varint}

-- one step of `groups`
groups_small : (k n : ℕ) → n < 128 → groups k n ≡ n ∷ []
unfolding groups
groups_small zero n h = refl
groups_small (suc k) n h = rw (lt-ltb n 128 h, groups)

groups_more : (k n : ℕ) → 128 ≤ n → groups (suc k) n ≡ (128 + n % 128) ∷ groups k (n / 128)
unfolding groups
groups_more k n h = rw (le-ltb n 128 h, groups)

-- two bounds that are large enough give the same bytes
groups_enough : (k m n : ℕ) → n ≤ k → n ≤ m → groups k n ≡ groups m n
groups_enough zero m n h l = groups_small zero n (omega arith) ∙ sym (groups_small m n (omega arith))
groups_enough (suc k) zero n h l = groups_small (suc k) n (omega arith) ∙ sym (groups_small zero n (omega arith))
groups_enough (suc k) (suc m) n h l = go (dec_lt n 128) (groups_enough k m (n / 128))
  where
    go : Dec (n < 128) → (n / 128 ≤ k → n / 128 ≤ m → groups k (n / 128) ≡ groups m (n / 128)) → groups (suc k) n ≡ groups (suc m) n
    go (yes s) ih = groups_small (suc k) n s ∙ sym (groups_small (suc m) n s)
    go (no s) ih =
        groups_more k n (omega arith) ∙ ap (λ (l : List ℕ). (128 + n % 128) ∷ l) (ih (omega arith) (omega arith)) ∙ sym (groups_more m n (omega arith))

-- A number below 128 is one byte.
pub varint_small : (n : ℕ) → n < 128 → varint n ≡ n ∷ []
unfolding varint
varint_small n h = groups_small n n h

-- A larger number is its lowest group with the top bit set, and then the bytes of the rest.
pub varint_more : (n : ℕ) → 128 ≤ n → varint n ≡ (128 + n % 128) ∷ varint (n / 128)
unfolding varint
varint_more zero h = absurd (omega arith)
varint_more (suc k) h =
    groups_more k (suc k) h ∙ ap (λ (l : List ℕ). (128 + suc k % 128) ∷ l) (groups_enough k (suc k / 128) (suc k / 128) (omega arith) (omega arith))

-- What holds of the numbers below 128, and of a larger number if it holds of the rest without the lowest group, holds of all numbers.
pub by_groups : (P : ℕ → Type 0) → ((n : ℕ) → n < 128 → P n) → ((n : ℕ) → 128 ≤ n → P (n / 128) → P n) → (n : ℕ) → P n
by_groups P small more n = within n n (omega arith)
  where
    within : (k n : ℕ) → n ≤ k → P n
    within zero n h = small n (omega arith)
    within (suc k) n h = go (dec_lt n 128) (within k (n / 128))
      where
        go : Dec (n < 128) → (n / 128 ≤ k → P (n / 128)) → P n
        go (yes s) ih = small n s
        go (no s) ih = more n (omega arith) (ih (omega arith))

-- A byte below 128 is a whole number.
pub read_last : (b : ℕ) (s : List ℕ) → b < 128 → read_varint (b ∷ s) ≡ number b s
unfolding read_varint
read_last b s h = rw (lt-ltb b 128 h, read_varint)

-- A larger byte is the lowest group of a number whose other groups follow.
pub read_on : (b : ℕ) (s : List ℕ) → 128 ≤ b → read_varint (b ∷ s) ≡ grouped b (read_varint s)
unfolding read_varint
read_on b s h = rw (le-ltb b 128 h, read_varint)

-- Other groups that are not all zero make a larger number.
pub grouped_more : (b n : ℕ) (r : List ℕ) → 0 < n → grouped b (number n r) ≡ number (b - 128 + 128 * n) r
unfolding grouped
grouped_more b n r h = rw (ne_eqb n 0 (λ e. omega arith), grouped)

-- What the number n is made of whose lowest group is the byte b, if p is what its other groups are read as.
pub record Above (b : ℕ) (p : Parsed) (n : ℕ) (r : List ℕ) : Type 0 where
  pub rest : ℕ
  pub read : p ≡ number rest r
  pub some : 0 < rest
  pub whole : n ≡ b - 128 + 128 * rest

-- A number with the byte b as its lowest group comes from other groups that are not all zero.
pub above : (b : ℕ) (p : Parsed) (n : ℕ) (r : List ℕ) → grouped b p ≡ number n r → Above b p n r
unfolding grouped
above b no_number n r e = let z : ◌≡◌ {A = ℕ} 0 1 = cc in absurd (omega arith)
above b (number m t) n r e = go (dec_lt 0 m)
  where
    go : Dec (0 < m) → Above b (number m t) n r
    go (yes s) = let f : number (b - 128 + 128 * m) t ≡ number n r = sym (grouped_more b m t s) ∙ e in record { rest = m; read = cc; some = s; whole = cc }
    go (no s) =
        let q : m ≡ 0 = omega arith in
        let f : no_number ≡ number n r = (rw (eq-eqb m 0 q, grouped) at e) in
        let z : ◌≡◌ {A = ℕ} 0 1 = cc in absurd (omega arith)

-- What is written is read back.
pub varint_read_back : (n : ℕ) (s : List ℕ) → read_varint (varint n ++ s) ≡ number n s
varint_read_back = by_groups (λ n. (s : List ℕ) → read_varint (varint n ++ s) ≡ number n s) small more
  where
    small : (n : ℕ) → n < 128 → (s : List ℕ) → read_varint (varint n ++ s) ≡ number n s
    small n h s = rw (varint_small n h) (read_last n s h)

    more : (n : ℕ) → 128 ≤ n → ((s : List ℕ) → read_varint (varint (n / 128) ++ s) ≡ number (n / 128) s) → (s : List ℕ) → read_varint (varint n ++ s) ≡ number n s
    more n h ih s =
        rw (varint_more n h) (read_on (128 + n % 128) (varint (n / 128) ++ s) (omega arith)
        ∙ ap (grouped (128 + n % 128)) (ih s) ∙ grouped_more (128 + n % 128) (n / 128) s (omega arith) ∙ ap (λ (m : ℕ). number m s) (omega arith))

-- The shortest form is the only form.
pub varint_read : (s : List ℕ) (n : ℕ) (r : List ℕ) → ((k : ℕ) → get_or s k 0 < 256) → read_varint s ≡ number n r → s ≡ varint n ++ r
unfolding read_varint
varint_read [] n r h e = let z : ◌≡◌ {A = ℕ} 0 1 = cc in absurd (omega arith)
varint_read (b ∷ s) n r h e = go (dec_lt b 128) (λ m. varint_read s m r (λ k. h (suc k)))
  where
    go : Dec (b < 128) → ((m : ℕ) → read_varint s ≡ number m r → s ≡ varint m ++ r) → b ∷ s ≡ varint n ++ r
    go (yes l) ih =
        let f : number b s ≡ number n r = sym (read_last b s l) ∙ e in
        let q : b ≡ n = cc in
        let v : varint n ≡ n ∷ [] = varint_small n (omega arith) in
        rw v (cc)
    go (no l) ih =
        let a : Above b (read_varint s) n r = above b (read_varint s) n r (sym (read_on b s (omega arith)) ∙ e) in
        let w : s ≡ varint a.rest ++ r = ih a.rest a.read in
        let low : 128 + n % 128 ≡ b = omega (arith, h 0) in
        let high : n / 128 ≡ a.rest = omega (arith, h 0) in
        let v : varint n ≡ (128 + n % 128) ∷ varint (n / 128) = varint_more n (omega arith) in
        rw v (cc)

-- Every byte that is written is below 256.
pub varint_bytes : (n k : ℕ) → get_or (varint n) k 0 < 256
varint_bytes = by_groups (λ n. (k : ℕ) → get_or (varint n) k 0 < 256) small more
  where
    small : (n : ℕ) → n < 128 → (k : ℕ) → get_or (varint n) k 0 < 256
    small n h zero = rw (varint_small n h) (omega arith)
    small n h (suc k) = rw (varint_small n h) (omega arith)

    more : (n : ℕ) → 128 ≤ n → ((k : ℕ) → get_or (varint (n / 128)) k 0 < 256) → (k : ℕ) → get_or (varint n) k 0 < 256
    more n h ih zero = rw (varint_more n h) (omega arith)
    more n h ih (suc k) = rw (varint_more n h) (ih k)

-- A number below 128 has length one.
pub length_small : (n : ℕ) → n < 128 → length (varint n) ≡ 1
length_small n h = ap length (varint_small n h)

-- A larger number is one byte longer than the rest without its lowest group.
pub length_more : (n : ℕ) → 128 ≤ n → length (varint n) ≡ 1 + length (varint (n / 128))
length_more n h = ap length (varint_more n h) ∙ omega arith

-- A number takes at least one byte.
pub varint_positive : (n : ℕ) → 0 < length (varint n)
varint_positive = by_groups (λ n. 0 < length (varint n)) (λ n h. omega (arith, length_small n h)) (λ n h ih. omega (arith, length_more n h))

-- A number takes at most one byte more than its value.
pub varint_least : (n : ℕ) → length (varint n) ≤ n + 1
varint_least = by_groups (λ n. length (varint n) ≤ n + 1) (λ n h. omega (arith, length_small n h)) (λ n h ih. omega (arith, length_more n h))

-- one group more is at most one byte more
one_longer : (k n : ℕ) → length (varint (n / 128)) ≤ k → length (varint n) ≤ k + 1
one_longer k n h = go (dec_lt n 128)
  where
    go : Dec (n < 128) → length (varint n) ≤ k + 1
    go (yes s) = omega (arith, length_small n s)
    go (no s) = let l : 128 ≤ n = omega arith in omega (arith, length_more n l)

-- A number below two to the 21st takes at most three bytes.
pub varint_short : (n : ℕ) → n < 2097152 → length (varint n) ≤ 3
varint_short n h = one_longer 2 n (one_longer 1 (n / 128) (omega (arith, length_small (n / 128 / 128) (omega arith))))
