-- Laws of one entry: what is written is read back, and nothing else is read.
use Rattle.std.specs.Prelude.{Option, Some, None}
use Prim.Native.Nat.{ℕ, ◌≤◌, ◌<◌}
use mathlib.Core.Path.{◌≡◌, refl, sym, ap, ◌∙◌}
use mathlib.Core.List.{List, [], ◌∷◌, ◌++◌}
use native.Mathlib.Omega.{arith}
use native.Mathlib.Decide.{dec_le}
use borrow.Author.Tests.{le-leb, lt-leb}
use lib.ListN.{length, take, drop, length-append, take-append-drop}
use lib.Seq.{take_at, drop_at, length-take-le}
use Rattle.reference_digests.specs.Algorithms.{digest_bytes, byte_of, numbered}
use Rattle.reference_digests.specs.declared.algorithm.Algorithm.{Algorithm}
use Rattle.reference_digests.proofs.Digests.{numbered_byte, byte_numbered}
use Rattle.lookup_layers.specs.Layers.{LayerDigest, entry_of, entry, no_entry, entry_under, first_of}

-- Bytes that begin with no algorithm's byte begin with no entry.
pub first_unknown : (b : ℕ) (s : List ℕ) → numbered b ≡ None → first_of (b ∷ s) ≡ no_entry
unfolding first_of entry_under
first_unknown b s e = rw e

-- An entry whose digest is cut is none.
pub first_cut : (a : Algorithm) (b : ℕ) (s : List ℕ) → numbered b ≡ Some a → length s < digest_bytes a → first_of (b ∷ s) ≡ no_entry
unfolding first_of entry_under
first_cut a b s e h = rw e (rw (lt-leb (digest_bytes a) (length s) h, entry_under))

-- An algorithm's byte and a whole digest are an entry.
pub first_whole : (a : Algorithm) (b : ℕ) (s : List ℕ) → numbered b ≡ Some a → digest_bytes a ≤ length s
    → first_of (b ∷ s) ≡ entry (record { algorithm = a; bytes = take (digest_bytes a) s }) (drop (digest_bytes a) s)
unfolding first_of entry_under
first_whole a b s e h = rw e (rw (le-leb (digest_bytes a) (length s) h, entry_under))

-- The entry of a layer is read back, whatever follows it.
pub read_first : (d : LayerDigest) (r : List ℕ) → length d.bytes ≡ digest_bytes d.algorithm → first_of (entry_of d ++ r) ≡ entry d r
unfolding entry_of
read_first d r h =
    let n = digest_bytes d.algorithm in
    first_whole d.algorithm (byte_of d.algorithm) (d.bytes ++ r) (numbered_byte d.algorithm) (omega (arith, length-append d.bytes r))
    ∙ rw (take_at d.bytes r n h, drop_at d.bytes r n h)

-- Bytes that begin with an entry begin with the one entry of its layer, whose digest has the length of its algorithm.
pub first_read : (s : List ℕ) (d : LayerDigest) (r : List ℕ) → first_of s ≡ entry d r
    → (s ≡ entry_of d ++ r) × (length d.bytes ≡ digest_bytes d.algorithm)
unfolding first_of entry_of
first_read [] d r e = let z : ◌≡◌ {A = ℕ} 0 1 = cc in absurd (omega arith)
first_read (b ∷ s) d r e = by_kind (numbered b) refl
  where
    by_size : (a : Algorithm) → numbered b ≡ Some a → Dec (digest_bytes a ≤ length s)
        → (b ∷ s ≡ entry_of d ++ r) × (length d.bytes ≡ digest_bytes d.algorithm)
    by_size a q (no h) =
        let f : no_entry ≡ entry d r = sym (first_cut a b s q (omega arith)) ∙ e in
        let z : ◌≡◌ {A = ℕ} 0 1 = cc in absurd (omega arith)
    by_size a q (yes h) =
        let n = digest_bytes a in
        let x : LayerDigest = record { algorithm = a; bytes = take n s } in
        let f : entry x (drop n s) ≡ entry d r = sym (first_whole a b s q h) ∙ e in
        let g : x ≡ d = cc in
        let k : drop n s ≡ r = cc in
        rw (← g, ← k) (
          ap (λ (c : ℕ). c ∷ s) (byte_numbered b a q) ∙ ap (λ (l : List ℕ). byte_of a ∷ l) (sym (take-append-drop n s)),
          length-take-le n s h,
        )

    by_kind : (k : Option Algorithm) → numbered b ≡ k → (b ∷ s ≡ entry_of d ++ r) × (length d.bytes ≡ digest_bytes d.algorithm)
    by_kind None q =
        let f : no_entry ≡ entry d r = sym (first_unknown b s q) ∙ e in
        let z : ◌≡◌ {A = ℕ} 0 1 = cc in absurd (omega arith)
    by_kind (Some a) q = by_size a q (dec_le (digest_bytes a) (length s))

-- What follows an entry is shorter than the bytes that it is read from.
pub rest_shorter : (s : List ℕ) (d : LayerDigest) (r : List ℕ) → first_of s ≡ entry d r → length r < length s
unfolding entry_of
rest_shorter s d r e = omega (arith, ap length (first_read s d r e).0, length-append d.bytes r)
