-- The well-formed texts are the encodings of lists of scalar values.
-- Assumes nothing.
use Prim.Native.Nat.{ℕ, zero, suc, ◌+◌, ◌-◌, ◌*◌, ◌/◌, ◌%◌, ◌≤◌, ◌<◌}
use native.Mathlib.Omega.{arith}
use mathlib.Core.Path.{◌≡◌, refl, sym, ap, ap₂, subst, ◌∙◌}
use mathlib.Core.Logic.{◌↔◌, ⊎_elim}
use mathlib.Core.Bool.{Bool, true, false, true≢false, false≢true}
use mathlib.Core.List.{List, [], ◌∷◌, ◌++◌, append-nil}
use lib.ListN.{length, length-append}
use Rattle.text_utf8.specs.Utf8.{Range, range, within, tail, Row, row, table, Lead, follows, none, lead_in, lead, utf8_from, utf8}
use Rattle.text_utf8.specs.Scalar.{is_scalar, encode, encode_all, AllScalar}
use Rattle.text_utf8.proofs.Forms.{encode_1, encode_2, encode_3, encode_4, scalar_low, scalar_high, scalar_bounds}
use Rattle.text_utf8.proofs.Steps.{utf8_follows, utf8_none, utf8_met, utf8_unmet}
use Rattle.laws.proofs.Order.{below}
use Rattle.text_utf8.proofs.Ranges.{within_in, within_bounds, hit, skip, lead_1, lead_2, lead_e0, lead_e1, lead_ed, lead_ee, lead_f0, lead_f1}
use Rattle.text_utf8.proofs.Ranges.{lead_f4}

-- bytes that are in the ranges, one for each
data Matches : List Range → List ℕ → Type 0 where
  done : Matches [] []
  more : {r : Range} {rs : List Range} {b : ℕ} {bs : List ℕ} → within r b ≡ true → Matches rs bs → Matches (r ∷ rs) (b ∷ bs)

matched : {rs : List Range} {bs : List ℕ} → Matches rs bs → (s : List ℕ) → utf8_from rs (bs ++ s) ≡ utf8_from [] s
matched done s = refl
matched (more {r = r} {rs = rs} {b = b} {bs = bs} p m) s = utf8_met b (bs ++ s) r rs p ∙ matched m s

-- a character before a text changes nothing for the text
char : (b : ℕ) (bs : List ℕ) (rs : List Range) (s : List ℕ) → lead b ≡ follows rs → Matches rs bs → utf8 ((b ∷ bs) ++ s) ≡ utf8 s
unfolding utf8
char b bs rs s p m = utf8_follows b (bs ++ s) rs p ∙ matched m s

low_six : (x : ℕ) → within tail (0x80 + x % 64) ≡ true
low_six x = within_in 0x80 0xBF (0x80 + x % 64) (omega arith) (omega arith)

module _ (c : ℕ) (s : List ℕ) where
  char_1 : c < 0x80 → utf8 (encode c ++ s) ≡ utf8 s
  char_1 h = rw (encode_1 c h) (char c [] [] s (lead_1 c (omega arith)) done)

  char_2 : 0x80 ≤ c → c < 0x800 → utf8 (encode c ++ s) ≡ utf8 s
  char_2 l h =
      rw (encode_2 c l h)
      (char (0xC0 + c / 64) _ (tail ∷ []) s (lead_2 (0xC0 + c / 64) (omega arith) (omega arith)) (more (low_six c) done))

  -- three bytes, of which the second is in the range r
  char_3 : (r : Range) → 0x800 ≤ c → c < 0x10000 → lead (0xE0 + c / 4096) ≡ follows (r ∷ tail ∷ [])
      → within r (0x80 + c / 64 % 64) ≡ true → utf8 (encode c ++ s) ≡ utf8 s
  char_3 r l h e w = rw (encode_3 c l h) (char (0xE0 + c / 4096) _ (r ∷ tail ∷ []) s e (more w (more (low_six c) done)))

  char_4 : (r : Range) → 0x10000 ≤ c → lead (0xF0 + c / 262144) ≡ follows (r ∷ tail ∷ tail ∷ [])
      → within r (0x80 + c / 4096 % 64) ≡ true → utf8 (encode c ++ s) ≡ utf8 s
  char_4 r l e w =
      rw (encode_4 c l)
      (char (0xF0 + c / 262144) _ (r ∷ tail ∷ tail ∷ []) s e (more w (more (low_six (c / 64)) (more (low_six c) done))))

module _ (c : ℕ) (s : List ℕ) where
  char_low : c < 0xD800 → utf8 (encode c ++ s) ≡ utf8 s
  char_low u =
      below c 0x80 (λ h. char_1 c s h)
      λ l. below c 0x800 (λ h. char_2 c s l h)
      λ l. below c 0x1000
      (λ h. char_3 c s (range 0xA0 0xBF) l (omega arith) (lead_e0 _ (omega arith)) (within_in 0xA0 0xBF _ (omega arith) (omega arith)))
      λ m. below c 0xD000
      (λ h. char_3 c s tail l (omega arith) (lead_e1 _ (omega arith) (omega arith)) (low_six (c / 64)))
      (λ h. char_3 c s (range 0x80 0x9F) l (omega arith) (lead_ed _ (omega arith)) (within_in 0x80 0x9F _ (omega arith) (omega arith)))

  char_high : 0xE000 ≤ c → c < 0x110000 → utf8 (encode c ++ s) ≡ utf8 s
  char_high u v =
      below c 0x10000
      (λ h. char_3 c s tail (omega arith) h (lead_ee _ (omega arith) (omega arith)) (low_six (c / 64)))
      λ l. below c 0x40000
      (λ h. char_4 c s (range 0x90 0xBF) l (lead_f0 _ (omega arith)) (within_in 0x90 0xBF _ (omega arith) (omega arith)))
      λ m. below c 0x100000
      (λ h. char_4 c s tail l (lead_f1 _ (omega arith) (omega arith)) (low_six (c / 4096)))
      (λ h. char_4 c s (range 0x80 0x8F) l (lead_f4 _ (omega arith)) (within_in 0x80 0x8F _ (omega arith) (omega arith)))

-- the bytes of a scalar value before a text change nothing for the text
pub utf8_encode_append : (c : ℕ) (s : List ℕ) → is_scalar c ≡ true → utf8 (encode c ++ s) ≡ utf8 s
utf8_encode_append c s e = ⊎_elim (char_low c s) (λ h. char_high c s h.0 h.1) (scalar_bounds c e)

-- the bytes of a scalar value are well-formed
pub utf8_encode : (c : ℕ) → is_scalar c ≡ true → utf8 (encode c) ≡ true
unfolding utf8 utf8_from
utf8_encode c e = rw append-nil at (utf8_encode_append c [] e)

-- and so are those of a list of them
pub utf8_encode_all : (cs : List ℕ) → AllScalar cs → utf8 (encode_all cs) ≡ true
unfolding utf8 utf8_from AllScalar encode_all
utf8_encode_all [] a = refl
utf8_encode_all (c ∷ cs) a = utf8_encode_append c (encode_all cs) a.0 ∙ utf8_encode_all cs a.1

-- a scalar value whose bytes these are
abbrev Decoded : List ℕ → Type 0
Decoded w = (c : ℕ) × (is_scalar c ≡ true) × (encode c ≡ w)

decode_1 : (b : ℕ) → within (range 0 0x7F) b ≡ true → Decoded (b ∷ [])
decode_1 b p =
    let h = within_bounds (range 0 0x7F) b p in
    (b, scalar_low b (omega arith), encode_1 b (omega arith))

decode_2 : (b x : ℕ) → within (range 0xC2 0xDF) b ≡ true → within tail x ≡ true → Decoded (b ∷ x ∷ [])
decode_2 b x p q =
    let h = within_bounds (range 0xC2 0xDF) b p in
    let i = within_bounds tail x q in
    let c : ℕ = (b - 0xC0) * 64 + (x - 0x80) in
    let u : 0xC0 + c / 64 ≡ b = omega arith in
    let v : 0x80 + c % 64 ≡ x = omega arith in
    (c, scalar_low c (omega arith), encode_2 c (omega arith) (omega arith) ∙ rw (u, v))

-- the bytes that a line of the grammar allows are those of a scalar value
abbrev Decodes : Row → Type 0
Decodes r = (b : ℕ) (bs : List ℕ) → within r.first b ≡ true → Matches r.rest bs → Decoded (b ∷ bs)

abbrev Bounds : Range → ℕ → Type 0
Bounds r b = (r.low ≤ b) × (b ≤ r.high)

abbrev value_3 : ℕ → ℕ → ℕ → ℕ
value_3 b x y = (b - 0xE0) * 4096 + (x - 0x80) * 64 + (y - 0x80)

-- what the ranges of three bytes have to say of them
abbrev Three : ℕ → ℕ → ℕ → Type 0
Three b x y = Bounds (range 0xE0 0xEF) b × Bounds tail x × (0x800 ≤ value_3 b x y) × (is_scalar (value_3 b x y) ≡ true)

decode_3 : (f g : Range) → ((b x y : ℕ) → Bounds f b → Bounds g x → Bounds tail y → Three b x y) → Decodes (row f (g ∷ tail ∷ []))
decode_3 f g says b bs p (more {b = x} q (more {b = y} t done)) =
    let j = within_bounds tail y t in
    let k = says b x y (within_bounds f b p) (within_bounds g x q) j in
    let c : ℕ = value_3 b x y in
    let u : 0xE0 + c / 4096 ≡ b = omega arith in
    let v : 0x80 + c / 64 % 64 ≡ x = omega arith in
    let w : 0x80 + c % 64 ≡ y = omega arith in
    (c, k.3, encode_3 c k.2 (omega arith) ∙ rw (u, v, w))

abbrev value_4 : ℕ → ℕ → ℕ → ℕ → ℕ
value_4 b x y z = (b - 0xF0) * 262144 + (x - 0x80) * 4096 + (y - 0x80) * 64 + (z - 0x80)

-- what the ranges of four bytes have to say of them
abbrev Four : ℕ → ℕ → ℕ → ℕ → Type 0
Four b x y z = Bounds (range 0xF0 0xF4) b × Bounds tail x × (0x10000 ≤ value_4 b x y z) × (value_4 b x y z < 0x110000)

decode_4 : (f g : Range) → ((b x y z : ℕ) → Bounds f b → Bounds g x → Bounds tail y → Bounds tail z → Four b x y z)
    → Decodes (row f (g ∷ tail ∷ tail ∷ []))
decode_4 f g says b bs p (more {b = x} q (more {b = y} s (more {b = z} t done))) =
    let j = within_bounds tail y s in
    let m = within_bounds tail z t in
    let k = says b x y z (within_bounds f b p) (within_bounds g x q) j m in
    let c : ℕ = value_4 b x y z in
    let u : 0xF0 + c / 262144 ≡ b = omega arith in
    let v : 0x80 + c / 4096 % 64 ≡ x = omega arith in
    let w : 0x80 + c / 64 % 64 ≡ y = omega arith in
    let o : 0x80 + c % 64 ≡ z = omega arith in
    (c, scalar_high c (omega arith) k.3, encode_4 c k.2 ∙ rw (u, v, w, o))

row_1 : Decodes (row (range 0x00 0x7F) [])
row_1 b bs p done = decode_1 b p

row_2 : Decodes (row (range 0xC2 0xDF) (tail ∷ []))
row_2 b bs p (more {b = x} q done) = decode_2 b x p q

-- each line of a table has it
abbrev Every : List Row → Type 0
Every [] = Unit
Every (r ∷ t) = Decodes r × Every t

every_row : Every table
unfolding table
every_row = (
  row_1,
  (
    row_2,
    (
      decode_3 (range 0xE0 0xE0) (range 0xA0 0xBF) (λ b x y h i j. (omega arith, omega arith, omega arith, scalar_low _ (omega arith))),
      (
        decode_3 (range 0xE1 0xEC) tail (λ b x y h i j. (omega arith, omega arith, omega arith, scalar_low _ (omega arith))),
        (
          decode_3 (range 0xED 0xED) (range 0x80 0x9F) (λ b x y h i j. (omega arith, omega arith, omega arith, scalar_low _ (omega arith))),
          (
            decode_3 (range 0xEE 0xEF) tail (λ b x y h i j. (omega arith, omega arith, omega arith, scalar_high _ (omega arith) (omega arith))),
            (
              decode_4 (range 0xF0 0xF0) (range 0x90 0xBF) (λ b x y z h i j k. (omega arith, omega arith, omega arith, omega arith)),
              (
                decode_4 (range 0xF1 0xF3) tail (λ b x y z h i j k. (omega arith, omega arith, omega arith, omega arith)),
                (decode_4 (range 0xF4 0xF4) (range 0x80 0x8F) (λ b x y z h i j k. (omega arith, omega arith, omega arith, omega arith)), tt),
              ),
            ),
          ),
        ),
      ),
    ),
  ),
)

follows_inj : (rs qs : List Range) → follows rs ≡ follows qs → rs ≡ qs
follows_inj rs qs e = cc

abbrev is_none : Lead → Bool
is_none (follows rs) = false
is_none none = true

decode_in : (t : List Row) → Every t → (b : ℕ) (rs : List Range) (bs : List ℕ) → lead_in t b ≡ follows rs → Matches rs bs → Decoded (b ∷ bs)
unfolding lead_in
decode_in [] d b rs bs e m = absurd (true≢false (ap is_none e))
decode_in (r ∷ t) d b rs bs e m = go (within r.first b) refl (decode_in t d.1 b rs bs)
  where
    go : (w : Bool) → within r.first b ≡ w → (lead_in t b ≡ follows rs → Matches rs bs → Decoded (b ∷ bs)) → Decoded (b ∷ bs)
    go true p ih = d.0 b bs p (subst (λ x. Matches x bs) (follows_inj rs r.rest (sym e ∙ hit r t b p)) m)
    go false p ih = ih (sym (skip r t b p) ∙ e) m

decode : (b : ℕ) (rs : List Range) (bs : List ℕ) → lead b ≡ follows rs → Matches rs bs → Decoded (b ∷ bs)
unfolding lead
decode b rs bs e m = decode_in table every_row b rs bs e m

-- a text that goes on with bytes in these ranges, and is well-formed after them
record Split (rs : List Range) (s : List ℕ) : Type 0 where
  bytes : List ℕ
  left : List ℕ
  matches : Matches rs bytes
  joined : bytes ++ left ≡ s
  well : utf8_from [] left ≡ true

split : (rs : List Range) (s : List ℕ) → utf8_from rs s ≡ true → Split rs s
unfolding utf8_from
split [] s e = record { bytes = []; left = s; matches = done; joined = refl; well = e }
split (r ∷ rs) [] e = absurd (false≢true e)
split (r ∷ rs) (b ∷ s) e = go (within r b) refl (split rs s)
  where
    go : (w : Bool) → within r b ≡ w → (utf8_from rs s ≡ true → Split rs s) → Split (r ∷ rs) (b ∷ s)
    go true p ih =
        let t = ih (sym (utf8_met b s r rs p) ∙ e) in
        record { bytes = b ∷ t.bytes; left = t.left; matches = more p t.matches; joined = ap (λ x. b ∷ x) t.joined; well = t.well }
    go false p ih = absurd (false≢true (sym (utf8_unmet b s r rs p) ∙ e))

-- a list of scalar values whose bytes these are
abbrev pub Encoded : List ℕ → Type 0
Encoded s = (cs : List ℕ) × AllScalar cs × (encode_all cs ≡ s)

joined : (b : ℕ) {bs x y left s : List ℕ} → x ≡ b ∷ bs → y ≡ left → bs ++ left ≡ s → x ++ y ≡ b ∷ s
joined b p q r = ap₂ ◌++◌ p q ∙ ap (λ w. b ∷ w) r

-- n is a bound on the length, by which this recurses
decoded : (n : ℕ) (s : List ℕ) → length s ≤ n → utf8_from [] s ≡ true → Encoded s
unfolding AllScalar encode_all
decoded zero [] h e = ([], tt, refl)
decoded zero (b ∷ s) h e = absurd (omega arith)
decoded (suc n) [] h e = ([], tt, refl)
decoded (suc n) (b ∷ s) h e = go (lead b) refl (λ x. decoded n x)
  where
    go : (l : Lead) → lead b ≡ l → ((s : List ℕ) → length s ≤ n → utf8_from [] s ≡ true → Encoded s) → Encoded (b ∷ s)
    go (follows rs) p ih =
        let t = split rs s (sym (utf8_follows b s rs p) ∙ e) in
        let d = decode b rs t.bytes p t.matches in
        let fits : length t.left ≤ n = omega (arith, length-append t.bytes t.left, ap length t.joined) in
        let r = ih t.left fits t.well in
        (d.0 ∷ r.0, (d.1, r.1), joined b {x = encode d.0} {y = encode_all r.0} d.2 r.2 t.joined)
    go none p ih = absurd (false≢true (sym (utf8_none b s p) ∙ e))

-- a text is well-formed exactly if it is the encoding of a list of scalar values
pub utf8_is_encodings : (s : List ℕ) → utf8 s ≡ true ↔ Encoded s
unfolding utf8
utf8_is_encodings s = (λ e. decoded (length s) s (omega arith) e, λ d. rw (← d.2) (utf8_encode_all d.0 d.1))
