-- What a cursor gives next.
use Prim.Native.Nat.{ℕ, suc, ◌+◌, ◌<◌, ◌≤◌}
use mathlib.Core.Path.{◌≡◌, refl, sym, ap, subst, ◌∙◌}
use mathlib.Core.List.{List, [], ◌∷◌, ◌++◌}
use mathlib.Core.Bool.{Bool, true, false}
use native.Mathlib.Omega.{arith}
use native.Mathlib.Numerals.{add-one}
use lib.Dec.{ltb}
use lib.ListN.{length, take, drop, get_or, length-take, drop_of_length-le}
use lib.Seq.{drop-cons, get_or-take, length-take-le, drop-nil}
use Rattle.laws.proofs.Order.{by_test, false_true}
use Rattle.text_utf8.specs.Scalar.{encode}
use Rattle.text_json.specs.Bytes.{is_unescaped}
use Rattle.text_json.specs.Content.{unescape}
use Rattle.text_strings.specs.InString.{InString, Escapes, EscapeAt, Inside}
use Rattle.text_strings.specs.Cursor.{held_bytes, Left, Given, GivesByte, Encodes, weight}
use Rattle.text_strings.specs.declared.Cursor.{Cursor}
use Rattle.text_strings.specs.declared.Next.{Next}
use Rattle.text_strings.proofs.Views.{View, at_close, at_byte, at_short, at_hex, view}
use Rattle.text_strings.proofs.Escapes.{char_within}

-- a part of a list, by its first element
part_cons : (l : List ℕ) (i n : ℕ) → i < n → n ≤ length l → drop i (take n l) ≡ get_or l i 0 ∷ drop (i + 1) (take n l)
part_cons l i n h k =
    let m : i < length (take n l) = rw (length-take-le n l k) h in
    drop-cons (take n l) i 0 m ∙ ap (λ (b : ℕ). b ∷ drop (suc i) (take n l)) (get_or-take n l i 0 h)
    ∙ ap (λ (j : ℕ). get_or l i 0 ∷ drop j (take n l)) (sym (add-one i))

part_empty : (l : List ℕ) (i n : ℕ) → n ≤ i → n ≤ length l → drop i (take n l) ≡ []
part_empty l i n h k = drop_of_length-le (take n l) {i = i} (rw (length-take-le n l k) h)

-- the closing mark ends the content
pub closes : (s : List ℕ) (i : ℕ) (c : List ℕ) → InString s i c → get_or s i 0 ≡ 0x22 → c ≡ []
unfolding is_unescaped unescape
closes s i c p q = go (view s i p.chars p.rest p.reads)
  where
    go : View s i p.chars p.rest → c ≡ []
    go (at_close l e f) = sym p.content ∙ ap unescape f
    go (at_byte ds l e f d) = false_true (sym (ap is_unescaped q) ∙ e)
    go (at_short ds l g h f d) = absurd (omega arith)
    go (at_hex ds l g h ha hb hc hd f d) = absurd (omega arith)

-- a byte that is neither of the marks stands for itself
pub plain : (s : List ℕ) (i : ℕ) (c : List ℕ) → InString s i c → (get_or s i 0 ≡ 0x22 → ⊥) → (get_or s i 0 ≡ 0x5C → ⊥)
    → (d : List ℕ) × (c ≡ get_or s i 0 ∷ d) × InString s (i + 1) d
unfolding unescape
plain s i c p a b = go (view s i p.chars p.rest p.reads)
  where
    go : View s i p.chars p.rest → (d : List ℕ) × (c ≡ get_or s i 0 ∷ d) × InString s (i + 1) d
    go (at_close l e f) = absurd (a e)
    go (at_byte ds l e f d) = (unescape ds, sym p.content ∙ ap unescape f, record { chars = ds; rest = p.rest; reads = d; content = refl })
    go (at_short ds l g h f d) = absurd (b g)
    go (at_hex ds l g h ha hb hc hd f d) = absurd (b g)

module _ (s : List ℕ) (k : Cursor) where
  -- a byte that is held
  pub gives_held : (c : List ℕ) → Left s k c → k.from < k.count
      → Given s c true (get_or k.held k.from 0) (record { at = k.at; held = k.held; from = k.from + 1; count = k.count })
  gives_held c l h = (
    drop (k.from + 1) (take k.count k.held) ++ l.tail,
    l.content ∙ ap (λ (m : List ℕ). m ++ l.tail) (part_cons k.held k.from k.count h l.there),
    record { order = omega arith; few = l.few; there = l.there; tail = l.tail; inside = l.inside; content = refl },
  )

  module _ (n : k.count ≤ k.from) where
    none_held : (l : List ℕ) → k.count ≤ length k.held → held_bytes k ++ l ≡ l
    none_held l t = ap (λ (m : List ℕ). m ++ l) (part_empty k.held k.from k.count n t)

    -- with nothing held the content is the string's from the position on
    pub left_inside : (c : List ℕ) → Left s k c → InString s k.at c
    left_inside c l = subst (InString s k.at) (sym (l.content ∙ none_held l.tail l.there)) l.inside

    -- With nothing held, the cursor's position is below the text's length.
    pub byte_within : (c : List ℕ) → Left s k c → k.at < length s
    byte_within c l = let i = l.inside in char_within s k.at i.chars i.rest (view s k.at i.chars i.rest i.reads)

    -- With nothing held and a quotation mark at the cursor's position, no content is left.
    pub gives_end : (c : List ℕ) → Left s k c → get_or s k.at 0 ≡ 0x22 → c ≡ []
    gives_end c l q = let i = left_inside c l in closes s k.at c i q

    -- At an escape, the first byte of its character is given, with the character's other bytes held.
    pub gives_escape : (c : List ℕ) (next scalar : ℕ) (x : Next) → Left s k c → Escapes s k.at next scalar → Encodes next scalar x → GivesByte s c x
    gives_escape c next scalar x l e q =
        let r = e.stands c (left_inside c l) in
        subst (λ (f : Bool). Given s c f x.byte x.rest) (sym q.found) (
          held_bytes x.rest ++ r.0,
          r.1 ∙ ap (λ (m : List ℕ). m ++ r.0) (sym q.bytes),
          record {
            order = subst (λ (n : ℕ). n ≤ x.rest.count) (sym q.one) q.some;
            few = q.few;
            there = q.there;
            tail = r.0;
            inside = subst (λ (n : ℕ). InString s n r.0) (sym q.next) r.2;
            content = refl;
          },
        )

    -- A byte that is no quotation mark and no backslash is given as itself, with the cursor at the next position.
    pub gives_plain : (c : List ℕ) → Left s k c → (get_or s k.at 0 ≡ 0x22 → ⊥) → (get_or s k.at 0 ≡ 0x5C → ⊥)
        → Given s c true (get_or s k.at 0) (record { at = k.at + 1; held = k.held; from = k.from; count = k.count })
    gives_plain c l a b =
        let r = plain s k.at c (left_inside c l) a b in
        (r.0, r.1, record { order = l.order; few = l.few; there = l.there; tail = r.0; inside = r.2; content = sym (none_held r.0 l.there) })

-- the encoding of a scalar value has one to four bytes
encode_length : (c : ℕ) → (1 ≤ length (encode c)) × (length (encode c) ≤ 4)
unfolding encode
encode_length c = by_test (ltb c 0x80) (λ e. rw e (omega arith))
    (λ e. rw e (by_test (ltb c 0x800) (λ f. rw f (omega arith)) (λ f. rw f (by_test (ltb c 0x10000) (λ g. rw g (omega arith)) (λ g. rw g (omega arith))))))

-- an encoding that is held from its second byte on
pub encodes : (at scalar n : ℕ) (l : List ℕ) → n ≡ length (encode scalar) → take n l ≡ encode scalar
    → Encodes at scalar (record { found = true; byte = get_or l 0 0; rest = record { at = at; held = l; from = 1; count = n } })
encodes at scalar n l e f =
    let b = encode_length scalar in
    let t : n ≤ length l = omega (arith, length-take n l, ap length f) in
    let o : 0 < n = omega arith in
    record { found = refl; next = refl; one = refl; some = omega arith; few = omega arith; there = t; bytes = sym (part_cons l 0 n o t) ∙ f }

-- an escape takes two bytes of the text or more, and holds three or fewer
pub escape_lighter : (s : List ℕ) (k : Cursor) (next scalar : ℕ) (x : Next) → Escapes s k.at next scalar → Encodes next scalar x
    → weight s x.rest < weight s k
escape_lighter s k next scalar x e q =
    let l = e.later in
    let w = e.within in
    let a = q.next in
    let o = q.one in
    let f = q.few in
    omega arith

-- what is given at the end, and at a byte
pub given_end : (s c : List ℕ) (n : Next) → n.found ≡ false → GivesByte s c n → c ≡ []
given_end s c n e g = subst (λ (f : Bool). Given s c f n.byte n.rest) e g

-- Where a byte is given, it is the first of the content, and the rest of the content lies before the new cursor.
pub given_byte : (s c : List ℕ) (n : Next) → n.found ≡ true → GivesByte s c n → (d : List ℕ) × (c ≡ n.byte ∷ d) × Left s n.rest d
given_byte s c n e g = subst (λ (f : Bool). Given s c f n.byte n.rest) e g

-- a new cursor has the string's content before it
pub new_left : (s : List ℕ) (i : ℕ) (k : Cursor) (c : List ℕ) → (k.at ≡ i) × (k.from ≡ 0) × (k.count ≡ 0) → InString s i c → Left s k c
new_left s i k c e p =
    record {
      order = omega (arith, e.1, e.2);
      few = omega (arith, e.2);
      there = omega (arith, e.2);
      tail = c;
      inside = subst (λ (n : ℕ). InString s n c) (sym e.0) p;
      content = sym nothing;
    }
  where
    nothing : drop k.from (take k.count k.held) ++ c ≡ c
    nothing = ap (λ (n : ℕ). drop k.from (take n k.held) ++ c) e.2 ∙ ap (λ (l : List ℕ). l ++ c) (drop-nil k.from)

-- a position in a string is below the text's length
pub inside_within : (s : List ℕ) (i : ℕ) → Inside s i → i < length s
inside_within s i p = let h = p.here in char_within s i h.chars h.rest (view s i h.chars h.rest h.reads)

-- At a backslash inside a string stands an escape.
pub escape_here : (s : List ℕ) (i : ℕ) → Inside s i → get_or s i 0 ≡ 0x5C → EscapeAt s i
escape_here s i p e = record { left = p.bytes; inside = p.here; backslash = e }

-- After a byte that is no quotation mark and no backslash, the next position is inside the string too.
pub inside_next : (s : List ℕ) (i : ℕ) → Inside s i → (get_or s i 0 ≡ 0x22 → ⊥) → (get_or s i 0 ≡ 0x5C → ⊥) → Inside s (i + 1)
inside_next s i p a b = let r = plain s i p.bytes p.here a b in record { bytes = r.0; here = r.2 }
