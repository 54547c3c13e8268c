-- What reading the body or the record at a position answers, by what stands there.
use Rattle.std.specs.Prelude.{Option, None, Some}
use Prim.Native.Nat.{ℕ, suc, ◌+◌, ◌-◌, ◌*◌, ◌≤◌, ◌<◌}
use mathlib.Core.Path.{◌≡◌, refl, sym, ap, ◌∙◌}
use mathlib.Core.List.{List, [], ◌∷◌}
use native.Mathlib.Omega.{arith}
use native.Mathlib.Numerals.{add-one}
use native.Mathlib.Decide.{dec_lt}
use lib.ListN.{length, take, drop, get_or, length-drop}
use lib.Seq.{drop-cons, drop-drop, drop_at, take-add, take-take, length-take-le}
use Rattle.reference_digests.specs.Algorithms.{digest_bytes, numbered}
use Rattle.reference_digests.specs.declared.algorithm.Algorithm.{Algorithm}
use Rattle.store_varint.specs.Varint.{read_varint, Parsed, number, no_number}
use Rattle.store_varint.specs.Reading.{NumberAt}
use Rattle.store_varint.proofs.Laws.{read_last, read_on, above}
use Rattle.store_record.specs.Image.{Image}
use Rattle.store_record.specs.Record.{read_body, image, no_image, before_rest, read_sized, read_record}
use Rattle.store_record.specs.Reading.{between, held_in, Reads, BodyAt, ReadsBody}
use Rattle.store_record.proofs.Records.{body_unknown, body_cut, body_whole, sized_short, sized_whole}
use Rattle.store_record.specs.declared.Record.{Record}

-- the bytes between two positions, taken apart at a third
module _ (s : List ℕ) where
  between_length : (i j : ℕ) → j ≤ length s → length (between s i j) ≡ j - i
  unfolding between
  between_length i j h = length-take-le (j - i) (drop i s) (omega (arith, length-drop i s))

  between_first : (i j : ℕ) → i < j → j ≤ length s → between s i j ≡ get_or s i 0 ∷ between s (i + 1) j
  unfolding between
  between_first i j h l =
      let n : j - i ≡ suc (j - (i + 1)) = omega arith in
      let b : i < length s = omega arith in
      ap (λ (k : ℕ). take k (drop i s)) n ∙ ap (take (suc (j - (i + 1)))) (drop-cons s i 0 b) ∙ rw (add-one)

  between_front : (i n j : ℕ) → i + n ≤ j → take n (between s i j) ≡ between s i (i + n)
  unfolding between
  between_front i n j h =
      let e : n ≡ i + n - i = omega arith in
      take-take n (j - i) (drop i s) (omega arith) ∙ ap (λ (k : ℕ). take k (drop i s)) e

  between_back : (i n j : ℕ) → i + n ≤ j → j ≤ length s → drop n (between s i j) ≡ between s (i + n) j
  unfolding between
  between_back i n j h l =
      let e : j - i ≡ n + (j - (i + n)) = omega arith in
      let d = drop i s in
      ap (λ (k : ℕ). drop n (take k d)) e ∙ ap (drop n) (take-add n (j - (i + n)) d)
      ∙ drop_at (take n d) (take (j - (i + n)) (drop n d)) n (length-take-le n d (omega (arith, length-drop i s)))
      ∙ ap (take (j - (i + n))) (drop-drop n i s)

module _ (s : List ℕ) (i end : ℕ) (space : i ≤ end) (within : end ≤ length s) where
  -- there is no body in no bytes
  pub no_body : i ≡ end → ReadsBody s i end None
  unfolding between read_body
  no_body e = let z : end - i ≡ 0 = omega arith in rw (between, z)

  module _ (some_byte : (i ≡ end → ⊥)) where
    start : between s i end ≡ get_or s i 0 ∷ between s (i + 1) end
    start = between_first s i end (omega arith) within

    left : length (between s (i + 1) end) ≡ end - (i + 1)
    left = between_length s (i + 1) end within

    -- no algorithm has that byte
    pub unknown_body : numbered (get_or s i 0) ≡ None → ReadsBody s i end None
    unknown_body e = ap read_body start ∙ body_unknown (get_or s i 0) (between s (i + 1) end) e

    -- the algorithm is known, with digests of n bytes
    module _ (a : Algorithm) (known : numbered (get_or s i 0) ≡ Some a) (n : ℕ) (size : n ≡ digest_bytes a) where
      -- If fewer bytes are left than two digests have, no body stands there.
      pub cut_body : end - (i + 1) < 2 * n → ReadsBody s i end None
      cut_body h = ap read_body start ∙ body_cut a (get_or s i 0) (between s (i + 1) end) known (omega (arith, left))

      -- If two digests fit into the bytes that are left, a body stands there: they follow the first byte, and then the text.
      pub whole_body : 2 * n ≤ end - (i + 1)
          → BodyAt s i end (record { algorithm = a; signer = i + 1; manifest = i + 1 + n; text = i + 1 + n + n; end = end })
      unfolding held_in
      whole_body h =
          record {
            reads =
                ap read_body start ∙ body_whole a (get_or s i 0) rest known (omega (arith, left))
                ∙ rw (← size) (rw (first, second, third));
            is_in =
                record {
                  signer = ap (λ (k : ℕ). i + 1 + k) size;
                  manifest = ap (λ (k : ℕ). i + 1 + n + k) size;
                  text = omega arith;
                  within = within;
                };
            end = refl;
          }
        where
          rest : List ℕ
          rest = between s (i + 1) end

          first : take n rest ≡ between s (i + 1) (i + 1 + n)
          first = between_front s (i + 1) n end (omega arith)

          second : take n (drop n rest) ≡ between s (i + 1 + n) (i + 1 + n + n)
          second =
              ap (take n) (between_back s (i + 1) n end (omega arith) within) ∙ between_front s (i + 1 + n) n end (omega arith)

          third : drop (2 * n) rest ≡ between s (i + 1 + n + n) end
          third =
              let e : i + 1 + 2 * n ≡ i + 1 + n + n = omega arith in
              between_back s (i + 1) (2 * n) end (omega arith) within ∙ ap (λ (k : ℕ). between s k end) e

-- What follows a number is shorter than the bytes that it is read from.
pub rest_shorter : (s : List ℕ) (n : ℕ) (r : List ℕ) → read_varint s ≡ number n r → length r < length s
unfolding read_varint
rest_shorter [] n r e = let z : ◌≡◌ {A = ℕ} 0 1 = cc in absurd (omega arith)
rest_shorter (b ∷ s) n r e = by_size (dec_lt b 128) (λ m. rest_shorter s m r)
  where
    by_size : Dec (b < 128) → ((m : ℕ) → read_varint s ≡ number m r → length r < length s) → length r < suc (length s)
    by_size (yes l) ih =
        let f : number b s ≡ number n r = sym (read_last b s l) ∙ e in
        let q : s ≡ r = cc in omega (arith, ap length q)
    by_size (no l) ih =
        let a = above b (read_varint s) n r (sym (read_on b s (omega arith)) ∙ e) in omega (arith, ih a.rest a.read)

module _ (s : List ℕ) (i : ℕ) where
  -- no number that the bytes have space for stands there
  pub no_length : ((n : ℕ) (r : List ℕ) → read_varint (drop i s) ≡ number n r → length s < n) → Reads s i None
  unfolding read_record read_sized
  no_length none_fits = by_number (read_varint (drop i s)) refl
    where
      by_number : (p : Parsed) → read_varint (drop i s) ≡ p → read_sized p ≡ no_image
      by_number no_number e = refl
      by_number (number n r) e =
          sized_short n r (omega (arith, none_fits n r e, rest_shorter (drop i s) n r e, length-drop i s))

  -- the number n stands there, and j is the position after it
  module _ (n j : ℕ) (here : NumberAt s i (length s) n j) where
    -- If the number is more than the bytes that are left, no record stands there.
    pub too_long : length s - j < n → Reads s i None
    unfolding read_record
    too_long h = ap read_sized here.reads ∙ sized_short n (drop j s) (omega (arith, length-drop j s))

    module _ (fits : n ≤ length s - j) where
      whole : (o : Option Image) → read_body (between s j (j + n)) ≡ o → read_record (drop i s) ≡ before_rest o (drop (j + n) s)
      unfolding read_record between
      whole o e =
          let k : j + n - j ≡ n = omega arith in
          ap read_sized here.reads ∙ sized_whole n (drop j s) (omega (arith, length-drop j s))
          ∙ ap (λ (b : Option Image). before_rest b (drop n (drop j s))) (ap (λ (m : ℕ). read_body (take m (drop j s))) (sym k) ∙ e)
          ∙ ap (before_rest o) (drop-drop n j s)

      -- Where all bytes of the record are there, what is read of its body is read of the record.
      pub with_body : (f : Option Record) → ReadsBody s j (j + n) f → Reads s i f
      unfolding before_rest
      with_body (Some r) b =
          record {
            reads = whole (Some (held_in s r)) b.reads ∙ ap (λ (k : ℕ). image (held_in s r) (drop k s)) (sym b.end);
            is_in = b.is_in;
            later = omega (arith, here.later, b.end);
          }
      with_body None b = whole None b
