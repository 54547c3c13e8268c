-- The ID of a record, compared part by part.
use Prim.Native.Nat.{ℕ}
use mathlib.Core.Path.{◌≡◌, sym, ap, ◌∙◌}
use mathlib.Core.List.{List}
use mathlib.Core.Bool.{Bool, true, false, ◌&&◌, and_assoc, or-false}
use lib.Dec.{eqb}
use Rattle.laws.specs.Any.{any_of}
use Rattle.laws.specs.Order.{same}
use Rattle.laws.proofs.Any.{any_pointwise}
use Rattle.reference_digests.specs.Algorithms.{byte_of}
use Rattle.reference_digests.specs.declared.algorithm.Algorithm.{Algorithm}
use Rattle.reference.specs.References.{image_id}
use Rattle.store_record.specs.Ids.{same_id, has_id, share_id}
use Rattle.store_record.specs.Image.{Image}
use Rattle.store_record.specs.Reading.{between, held_in}
use Rattle.store_record.specs.declared.Record.{Record}

module _ (s : List ℕ) (r : Record) where
  module _ (a : Algorithm) (signer manifest : List ℕ) where
    -- A record's image has an ID, if it is signed by that signer and the manifest's digests are equal.
    pub has_parts : has_id (image_id a signer manifest) (held_in s r)
        ≡ ((eqb (byte_of a) (byte_of r.algorithm) && same signer (between s r.signer r.manifest)) && same manifest (between s r.manifest r.text))
    unfolding has_id held_in same_id any_of
    has_parts = or-false _ ∙ sym (and_assoc (eqb (byte_of a) (byte_of r.algorithm)) (same signer (between s r.signer r.manifest))
        (same manifest (between s r.manifest r.text)))

    module _ (b : Bool) (e : b ≡ (eqb (byte_of a) (byte_of r.algorithm) && same signer (between s r.signer r.manifest))) where
      -- It has not, if it is not signed by that signer.
      pub not_signed : b ≡ false → false ≡ has_id (image_id a signer manifest) (held_in s r)
      not_signed n = sym (has_parts ∙ ap (λ (t : Bool). t && same manifest (between s r.manifest r.text)) (sym e ∙ n))

      -- If it is, the manifest's digest decides.
      pub signed : b ≡ true → same manifest (between s r.manifest r.text) ≡ has_id (image_id a signer manifest) (held_in s r)
      signed y = sym (has_parts ∙ ap (λ (t : Bool). t && same manifest (between s r.manifest r.text)) (sym e ∙ y))

  -- A record's image shares its one ID with another image, if that has it.
  pub shares_one : (y : Image) → share_id (held_in s r) y ≡ has_id
      (image_id r.algorithm (between s r.signer r.manifest) (between s r.manifest r.text)) y
  unfolding share_id held_in any_of
  shares_one y = or-false _

  -- So too with some image of a list.
  pub shares_some : (xs : List Image)
      → any_of (share_id (held_in s r)) xs ≡ any_of (has_id (image_id r.algorithm (between s r.signer r.manifest) (between s r.manifest r.text))) xs
  shares_some xs = any_pointwise _ _ shares_one xs
