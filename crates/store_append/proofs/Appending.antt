-- Writing a record after the first bytes of a buffer. Assumes nothing.
use Prim.Native.Nat.{ℕ, ◌+◌, ◌≤◌}
use mathlib.Core.Path.{◌≡◌, sym, ap, ◌∙◌}
use mathlib.Core.List.{List, ◌++◌, append_assoc}
use native.Mathlib.Omega.{arith}
use lib.ListN.{length, take, drop, length-append, take-append-drop}
use lib.Seq.{length-take-le}
use Rattle.reference_digests.specs.declared.algorithm.Algorithm.{Algorithm}
use Rattle.reference.specs.References.{image_id}
use Rattle.store_record.specs.Record.{record_of, head_of}
use Rattle.store_record.proofs.Records.{head_record}
use Rattle.laws.specs.Writes.{Writes}
use Rattle.store_append.specs.Append.{appended, image_with}

-- The record of an image is its head and then its text.
module _ (a : Algorithm) (signer digest text : List ℕ) where
  -- The bytes of the record are those of the head for a text of that length, and then those of the text.
  pub record_parts : record_of (image_with a signer digest text) ≡ head_of (image_id a signer digest) (length text) ++ text
  record_parts = head_record (image_id a signer digest) text

  -- The length of the record is that of the head and that of the text together.
  pub record_length : length (record_of (image_with a signer digest text)) ≡ length (head_of (image_id a signer digest) (length text)) + length text
  record_length = ap length record_parts ∙ length-append (head_of (image_id a signer digest) (length text)) text

module _ (buffer : List ℕ) (used : ℕ) (within : used ≤ length buffer) where
  -- Of a buffer that is long enough, the first `used` bytes are `used` in number.
  pub first_length : length (take used buffer) ≡ used
  first_length = length-take-le used buffer within

  -- Before anything is written, the first bytes stand there.
  pub begun : Writes buffer buffer (take used buffer)
  begun =
      record {
        fits = omega (arith, first_length);
        all = sym (take-append-drop used buffer) ∙ ap (λ (k : ℕ). take used buffer ++ drop k buffer) (sym first_length);
      }

  -- After a head and a manifest are written, the record stands after them.
  pub ended : (head text after : List ℕ) → Writes buffer after ((take used buffer ++ head) ++ text) → after ≡ appended buffer used (head ++ text)
  unfolding appended
  ended head text after w =
      let first = take used buffer in
      let l : length ((first ++ head) ++ text) ≡ used + length (head ++ text) =
      omega (arith, length-append (first ++ head) text, length-append first head, length-append head text, first_length)
      in
      w.all ∙ ap (λ (k : ℕ). ((first ++ head) ++ text) ++ drop k buffer) l ∙ simp append_assoc
