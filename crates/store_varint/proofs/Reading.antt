-- What reading the number at a position answers, by the byte that stands there.
use Prim.Native.Nat.{ℕ, ◌+◌, ◌-◌, ◌*◌, ◌/◌, ◌≤◌, ◌<◌}
use mathlib.Core.Path.{◌≡◌, sym, ap, ◌∙◌}
use mathlib.Core.List.{List, [], ◌∷◌}
use native.Mathlib.Omega.{arith}
use native.Mathlib.Numerals.{add-one}
use lib.ListN.{length, drop, get_or, drop_of_length-le}
use lib.Seq.{drop-cons}
use Rattle.store_varint.specs.Varint.{read_varint, grouped, number}
use Rattle.store_varint.specs.Reading.{NumberAt, Reads}
use Rattle.std.specs.Prelude.{None}
use Rattle.store_varint.proofs.Laws.{read_last, read_on, grouped_more, above}

-- there is no number past the end
pub past_end : (s : List ℕ) (i most : ℕ) → length s ≤ i → Reads s i most None
unfolding read_varint
past_end s i most h n r e =
    let f : read_varint [] ≡ number n r = sym (ap read_varint (drop_of_length-le s {i = i} h)) ∙ e in
    let z : ◌≡◌ {A = ℕ} 0 1 = cc in absurd (omega arith)

module _ (s : List ℕ) (i most : ℕ) (inside : i < length s) where
  next_byte : drop i s ≡ get_or s i 0 ∷ drop (i + 1) s
  next_byte = rw (add-one, drop-cons s i 0)

  -- a byte below 128 is the whole number
  last_group : get_or s i 0 < 128 → read_varint (drop i s) ≡ number (get_or s i 0) (drop (i + 1) s)
  last_group h = ap read_varint next_byte ∙ read_last (get_or s i 0) (drop (i + 1) s) h

  -- A byte below 128 that is at most `most` is the number at its position, which ends after that byte.
  pub one_byte : get_or s i 0 < 128 → get_or s i 0 ≤ most → NumberAt s i most (get_or s i 0) (i + 1)
  one_byte h l = record { reads = last_group h; small = l; later = omega arith; within = omega arith }

  -- If a byte below 128 is more than `most`, no number of at most `most` stands at its position.
  pub large_byte : get_or s i 0 < 128 → most < get_or s i 0 → Reads s i most None
  large_byte h l n r e =
      let f : number (get_or s i 0) (drop (i + 1) s) ≡ number n r = sym (last_group h) ∙ e in
      let q : get_or s i 0 ≡ n = cc in omega arith

  -- a larger byte is the lowest group of a number whose other groups follow
  module _ (more : 128 ≤ get_or s i 0) where
    more_groups : read_varint (drop i s) ≡ grouped (get_or s i 0) (read_varint (drop (i + 1) s))
    more_groups = ap read_varint next_byte ∙ read_on (get_or s i 0) (drop (i + 1) s) more

    -- no number here, if with any that is not zero in the other groups it would be too large
    pub none_here : ((m : ℕ) (r : List ℕ) → read_varint (drop (i + 1) s) ≡ number m r → 0 < m → most < 128 * m + (get_or s i 0 - 128)) → Reads s i most None
    none_here large n r e =
        let a = above (get_or s i 0) (read_varint (drop (i + 1) s)) n r (sym more_groups ∙ e) in omega (arith, large a.rest r a.read a.some)

    -- If no number of at most `most` divided by 128 stands at the next position, none of at most `most` stands here.
    pub rest_missing : Reads s (i + 1) (most / 128) None → Reads s i most None
    rest_missing none = none_here λ m r e p. omega (arith, none m r e)

    -- the other groups are read
    module _ (m j : ℕ) (rest : NumberAt s (i + 1) (most / 128) m j) where
      same_rest : (k : ℕ) (r : List ℕ) → read_varint (drop (i + 1) s) ≡ number k r → k ≡ m
      same_rest k r e = let f : number k r ≡ number m (drop j s) = sym e ∙ rest.reads in cc

      -- If the other groups are zero, no number of at most `most` stands here.
      pub zero_rest : m ≡ 0 → Reads s i most None
      zero_rest z = none_here λ k r e p. omega (arith, same_rest k r e)

      -- If the number that the groups make together is more than `most`, no number of at most `most` stands here.
      pub large_rest : most < 128 * m + (get_or s i 0 - 128) → Reads s i most None
      large_rest h = none_here λ k r e p. omega (arith, same_rest k r e)

      -- If the other groups are not zero and the number is at most `most`, it stands here and ends where they end.
      pub with_rest : 0 < m → get_or s i 0 - 128 + 128 * m ≤ most → NumberAt s i most (get_or s i 0 - 128 + 128 * m) j
      with_rest p h =
          record {
            reads = more_groups ∙ ap (grouped (get_or s i 0)) rest.reads ∙ grouped_more (get_or s i 0) m (drop j s) p;
            small = h;
            later = omega (arith, rest.later);
            within = rest.within;
          }
