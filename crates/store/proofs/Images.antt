-- The image that a load is given is one as a record holds it. Assumes nothing.
use Rattle.std.specs.Prelude.{Option, Some, None}
use Prim.Native.Nat.{ℕ}
use mathlib.Core.Path.{◌≡◌, sym, ap}
use mathlib.Core.List.{List, [], ◌∷◌}
use mathlib.Core.Bool.{false, ◌&&◌, and-eq-true_iff}
use lib.ListN.{length}
use Rattle.laws.proofs.Order.{by_test, false_true}
use Rattle.reference_digests.specs.Algorithms.{digest_bytes, named}
use Rattle.reference_digests.specs.Digests.{is_digest, digest_of}
use Rattle.reference_digests.specs.declared.algorithm.Algorithm.{Algorithm}
use Rattle.reference_digests.proofs.Digests.{digest_length}
use Rattle.reference.specs.References.{Id, image_id, id_under, id_of, image_id_of}
use Rattle.store_record.specs.Record.{Shaped}
use Rattle.store.specs.Load.{image_of, is_no_id}

-- an ID with digests of its algorithm
record Sized (i : Id) : Type 0 where
  algorithm : Algorithm
  signer : List ℕ
  manifest : List ℕ
  is : i ≡ image_id algorithm signer manifest
  signer_size : length signer ≡ digest_bytes algorithm
  manifest_size : length manifest ≡ digest_bytes algorithm

sized_under : (k : Option Algorithm) (s m : List ℕ) → is_no_id (id_under k s m) ≡ false → Sized (id_under k s m)
unfolding id_under is_no_id
sized_under None s m e = false_true (sym e)
sized_under (Some a) s m e =
    by_test (is_digest a s && is_digest a m)
    (λ t. let d = (and-eq-true_iff (is_digest a s) (is_digest a m)).0 t in
    record {
      algorithm = a;
      signer = digest_of s;
      manifest = digest_of m;
      is = rw (t, id_under);
      signer_size = digest_length a s d.0;
      manifest_size = digest_length a m d.1;
    })
    (λ f. false_true (sym (rw (f, id_under) at e)))

sized_of : (ps : List (List ℕ)) → is_no_id (id_of ps) ≡ false → Sized (id_of ps)
unfolding id_of is_no_id
sized_of [] e = false_true (sym e)
sized_of (h ∷ []) e = false_true (sym e)
sized_of (h ∷ s ∷ []) e = false_true (sym e)
sized_of (h ∷ s ∷ m ∷ []) e = sized_under (named h) s m e
sized_of (h ∷ s ∷ m ∷ p ∷ ps) e = false_true (sym e)

sized : (id : List ℕ) → is_no_id (image_id_of id) ≡ false → Sized (image_id_of id)
unfolding image_id_of
sized id e = sized_of _ e

-- An image under an ID of good form has one ID, with digests of its algorithm.
pub shaped_image : (id manifest : List ℕ) → is_no_id (image_id_of id) ≡ false → Shaped (image_of id manifest)
unfolding image_of
shaped_image id manifest e =
    let z = sized id e in
    record {
      algorithm = z.algorithm;
      signer = z.signer;
      manifest = z.manifest;
      ids = ap (λ (i : Id). i ∷ []) z.is;
      signer_size = z.signer_size;
      manifest_size = z.manifest_size;
    }
