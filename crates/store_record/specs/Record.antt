-- The record of an image (document 01, "The room"): the length of the rest as a number, one byte for the algorithm, the signer's digest, the
-- manifest's digest, and the canonical manifest to the end.
use Rattle.std.specs.Prelude.{ℕ, ◌+◌, ◌*◌, ◌≡◌, List, [], ◌∷◌, ◌++◌, true, false, leb, length, take, drop, Option, None, Some}
use Rattle.reference_digests.specs.Algorithms.{digest_bytes, byte_of, numbered}
use Rattle.reference.specs.References.{Id, image_id, no_id}
use Rattle.reference_digests.specs.declared.algorithm.Algorithm.{Algorithm}
use Rattle.store_varint.specs.Varint.{varint, read_varint, Parsed, number, no_number}
use Rattle.store_record.specs.Image.{Image}

-- an ID as bytes: the algorithm's byte and the two digests
unfoldable pub id_bytes : Id → List ℕ
id_bytes (image_id a s m) = byte_of a ∷ (s ++ m)
id_bytes no_id = []

unfoldable pub ids_bytes : List Id → List ℕ
ids_bytes [] = []
ids_bytes (i ∷ is) = id_bytes i ++ ids_bytes is

-- what follows the length, and the whole record
unfoldable pub body_of : Image → List ℕ
body_of x = ids_bytes x.ids ++ x.text

unfoldable pub record_of : Image → List ℕ
record_of x = varint (length (body_of x)) ++ body_of x

-- the record of an image with one ID, up to its manifest, which has n bytes
unfoldable pub head_of : Id → ℕ → List ℕ
head_of i n = varint (length (id_bytes i) + n) ++ id_bytes i

unfoldable pub head_size : Algorithm → ℕ → ℕ
head_size a n = length (varint (1 + 2 * digest_bytes a + n)) + (1 + 2 * digest_bytes a)

-- an image as a record holds it: one ID, with digests of its algorithm
pub record Shaped (x : Image) : Type 0 where
  pub algorithm : Algorithm
  pub signer : List ℕ
  pub manifest : List ℕ
  pub ids : x.ids ≡ image_id algorithm signer manifest ∷ []
  pub signer_size : length signer ≡ digest_bytes algorithm
  pub manifest_size : length manifest ≡ digest_bytes algorithm

-- the image whose ID has that algorithm, by what follows its byte; none where a digest is cut
unfoldable pub body_under : Option Algorithm → List ℕ → Option Image
body_under None s = None
body_under (Some a) s =
    elim (leb (2 * digest_bytes a) (length s)) [
      | true ↦
          Some (record {
            ids = image_id a (take (digest_bytes a) s) (take (digest_bytes a) (drop (digest_bytes a) s)) ∷ [];
            text = drop (2 * digest_bytes a) s;
          })
      | false ↦ None
    ]

unfoldable pub read_body : List ℕ → Option Image
read_body [] = None
read_body (b ∷ s) = body_under (numbered b) s

-- what some bytes begin with: the record of an image, and what follows it; or none
pub data Begins : Type 0 where
  image : Image → List ℕ → Begins
  no_image : Begins

unfoldable pub before_rest : Option Image → List ℕ → Begins
before_rest None r = no_image
before_rest (Some x) r = image x r

-- a record of n bytes after its length, whose bytes are all there
unfoldable pub read_sized : Parsed → Begins
read_sized no_number = no_image
read_sized (number n r) = elim (leb n (length r)) [ true ↦ before_rest (read_body (take n r)) (drop n r) | false ↦ no_image ]

unfoldable pub read_record : List ℕ → Begins
read_record s = read_sized (read_varint s)
