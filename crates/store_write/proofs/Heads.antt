-- The start of a record as it is written: the number, the algorithm's byte and the two digests.
use Prim.Native.Nat.{ℕ, ◌+◌, ◌*◌}
use mathlib.Core.Path.{◌≡◌, sym, ap, ◌∙◌}
use mathlib.Core.List.{List, [], ◌∷◌, ◌++◌, append_assoc}
use native.Mathlib.Omega.{arith}
use lib.ListN.{length, length-append}
use Rattle.store_varint.specs.Varint.{varint}
use Rattle.reference_digests.specs.Algorithms.{digest_bytes, byte_of}
use Rattle.reference_digests.specs.declared.algorithm.Algorithm.{Algorithm}
use Rattle.reference.specs.References.{image_id}
use Rattle.store_record.specs.Record.{id_bytes, head_of}

module _ (a : Algorithm) (signer manifest : List ℕ) (text n : ℕ) (size : n ≡ digest_bytes a) (signer_size : length signer
    ≡ digest_bytes a) (manifest_size : length manifest ≡ digest_bytes a) where
  -- The head of a record is the number, the algorithm's byte, the signer's digest and the manifest's digest.
  pub head_is : head_of (image_id a signer manifest) text ≡ ((varint (1 + 2 * n + text) ++ byte_of a ∷ []) ++ signer) ++ manifest
  unfolding head_of id_bytes
  head_is =
      ap (λ (k : ℕ). varint k ++ byte_of a ∷ (signer ++ manifest)) (omega (arith, length-append signer manifest))
      ∙ sym (append_assoc (varint (1 + 2 * n + text) ++ byte_of a ∷ []) signer manifest
      ∙ append_assoc (varint (1 + 2 * n + text)) (byte_of a ∷ []) (signer ++ manifest))

  -- The length of the head is that of the number, one byte and two digests.
  pub head_length : length (head_of (image_id a signer manifest) text) ≡ length (varint (1 + 2 * n + text)) + 1 + n + n
  head_length =
      ap length head_is
      ∙ omega (
        arith,
        length-append ((varint (1 + 2 * n + text) ++ byte_of a ∷ []) ++ signer) manifest,
        length-append (varint (1 + 2 * n + text) ++ byte_of a ∷ []) signer,
        length-append (varint (1 + 2 * n + text)) (byte_of a ∷ []),
      )
