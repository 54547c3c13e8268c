-- The entry of a layer whose digest was read: its size, if it is present, and its bytes. Assumes nothing.
use Rattle.std.specs.Prelude.{Some, None}
use Prim.Native.Nat.{ℕ, ◌+◌, ◌-◌, ◌≤◌}
use mathlib.Core.Path.{◌≡◌, refl, sym, ap, subst, ◌∙◌}
use mathlib.Core.List.{List, [], ◌∷◌, ◌++◌}
use mathlib.Core.Bool.{Bool, true, false}
use native.Mathlib.Omega.{arith}
use borrow.Rule.Slice.PartMut.{mid_of, put_mid}
use lib.ListN.{length, take, drop, set}
use lib.Seq.{take_at}
use Rattle.reference_digests.specs.Algorithms.{digest_bytes, byte_of}
use Rattle.reference_digests.specs.Digests.{is_digest, digest_of}
use Rattle.reference_digests.proofs.Digests.{digest_length}
use Rattle.reference_digests.specs.declared.algorithm.Algorithm.{Algorithm}
use Rattle.reference.specs.References.{Layer, layer_digest, layer_alias, no_layer}
use Rattle.reference.specs.declared.layer.Layer.TheVariants.{Alias as ReadAlias}
use Rattle.manifest.specs.Opened.{Denotes}
use Rattle.manifest_objects.specs.Objects.{StandsAt}
use Rattle.laws.specs.Writes.{Writes}
use Rattle.laws.proofs.Writing.{nothing_written, byte_written, lent_length, part_written}
use Rattle.lookup_layers.specs.Layers.{LayerDigest, entry_of, is_listed}
use Rattle.lookup_outcome.specs.Resolving.{DigestStands, size_if}
use Rattle.lookup_outcome.proofs.Meeting.{one_algorithm, one_digest}

-- constructors that differ
not_alias : {C : Type 0} {a c : Algorithm} {d s n : List ℕ} → layer_digest a d ≡ layer_alias c s n → C
not_alias e = let z : ◌≡◌ {A = ℕ} 0 1 = cc in absurd (omega arith)

not_bad : {C : Type 0} {a : Algorithm} {d : List ℕ} → layer_digest a d ≡ no_layer → C
not_bad e = let z : ◌≡◌ {A = ℕ} 0 1 = cc in absurd (omega arith)

-- the digits y, of a digest of algorithm a, are those of the layer d
pub record DigitsOf (a : Algorithm) (y : List ℕ) (d : LayerDigest) : Type 0 where
  pub algorithm : a ≡ d.algorithm
  pub bytes : digest_of y ≡ d.bytes
  pub size : length d.bytes ≡ digest_bytes a

-- The digits of a digest that was read where a layer stands are that layer's.
pub digits_read : {a : Algorithm} {y : List ℕ} {d : LayerDigest} → is_digest a y ≡ true
    → layer_digest a (digest_of y) ≡ layer_digest d.algorithm d.bytes → DigitsOf a y d
digits_read {a} {y} {d} e f =
    let q : digest_of y ≡ d.bytes = one_digest f in
    record { algorithm = one_algorithm f; bytes = q; size = ap length (sym q) ∙ digest_length a y e }

module _ (b : List ℕ) (k : ℕ) (d : LayerDigest) (s : DigestStands b k d) where
  -- A digest that stands somewhere is not read as an alias,
  pub stands_no_alias : {C : Type 0} (a : Algorithm) (p q : ℕ) → ((l : Layer) → StandsAt b k l → Denotes b (Some (ReadAlias a p q)) l) → C
  stands_no_alias a p q r = let x = r _ s.stands in not_alias (sym x.is ∙ x.reads.2)

  -- and not as no reference.
  pub stands_no_bad : {C : Type 0} → ((l : Layer) → StandsAt b k l → Denotes b None l) → C
  stands_no_bad r = let x = r _ s.stands in not_bad (sym x.is ∙ x.reads)

module _ {a : Algorithm} {y : List ℕ} {d : LayerDigest} (x : DigitsOf a y d) where
  -- The entry is the algorithm's byte and the digest.
  pub entry_size : (n : ℕ) → n ≡ digest_bytes a → 1 + n ≡ length (entry_of d)
  unfolding entry_of
  entry_size n e = omega (arith, x.size)

  module _ (n : ℕ) (e : n ≡ digest_bytes a) (w rest : List ℕ) (written : w ≡ digest_of y ++ rest) where
    -- the layer by the first n bytes of a buffer
    is_layer : d ≡ record { algorithm = a; bytes = take n w }
    is_layer =
        let q : take n w ≡ d.bytes = ap (take n) (written ∙ ap (λ (l : List ℕ). l ++ rest) x.bytes) ∙ take_at d.bytes rest n (x.size ∙ sym e) in
        λ i. record { algorithm = sym x.algorithm i; bytes = sym q i }

    module _ (ds : List LayerDigest) (t : Bool) (f : t ≡ is_listed (record { algorithm = a; bytes = take n w }) ds) where
      listed_so : is_listed d ds ≡ t
      listed_so = ap (λ (y : LayerDigest). is_listed y ds) is_layer ∙ sym f

      -- A digest that is present has the size of its entry,
      pub size_present : t ≡ true → 1 + n ≡ size_if (is_listed d ds) d
      unfolding size_if
      size_present g = entry_size n e ∙ sym (ap (λ (y : Bool). size_if y d) (listed_so ∙ g))

      -- and any other has none.
      pub size_absent : t ≡ false → 0 ≡ size_if (is_listed d ds) d
      unfolding size_if
      size_absent g = sym (ap (λ (y : Bool). size_if y d) (listed_so ∙ g))

  module _ (out : List ℕ) (room : 1 + digest_bytes a ≤ length out) (v : ℕ) (f : v ≡ byte_of a) where
    with_byte : Writes out (set out 0 v) (v ∷ [])
    with_byte = byte_written (nothing_written out) 0 v refl (omega arith)

    -- what is lent behind the algorithm's byte
    abbrev lent : List ℕ
    lent = mid_of 1 (length (set out 0 v) - 1) (set out 0 v)

    -- The digest fits there.
    pub digest_fits : digest_bytes a ≤ length (mid_of 1 (length (set out 0 v) - 1) (set out 0 v))
    digest_fits = omega (arith, lent_length with_byte 1 refl)

    -- The entry is written, and what follows it stays.
    pub entry_written : (part : List ℕ) → part ≡ digest_of y ++ drop (digest_bytes a) (mid_of 1 (length (set out 0 v) - 1) (set out 0 v))
        → Writes out (put_mid 1 (length (set out 0 v) - 1) (set out 0 v) part) (entry_of d)
    unfolding entry_of
    entry_written part w =
        subst (Writes out (put_mid 1 (length (set out 0 v) - 1) (set out 0 v) part)) (ap (λ (n : ℕ). n ∷ d.bytes) (f ∙ ap byte_of x.algorithm))
        (part_written with_byte 1 part d.bytes refl
        (record {
          fits = omega (arith, x.size, digest_fits);
          all = w ∙ ap (λ (l : List ℕ). l ++ drop (digest_bytes a) lent) x.bytes ∙ ap (λ (n : ℕ). d.bytes ++ drop n lent) (sym x.size);
        }))

-- A size of 0 says that a digest is not present,
pub absent_size : (t : Bool) (d : LayerDigest) → size_if t d ≡ 0 → t ≡ false
unfolding size_if entry_of
absent_size true d e = absurd (omega arith)
absent_size false d e = refl

-- and any other that it is.
pub present_size : (t : Bool) (d : LayerDigest) → (size_if t d ≡ 0 → ⊥) → t ≡ true
unfolding size_if
present_size true d e = refl
present_size false d e = absurd (e refl)
