-- How a layer comes out whose path met a digest: by the size of the digest's entry, which is 0 if it is not listed. Assumes nothing.
use Prim.Native.Nat.{ℕ, ◌<◌}
use mathlib.Core.Path.{◌≡◌, sym, ap, ◌∙◌}
use mathlib.Core.List.{List}
use mathlib.Core.Bool.{Bool, true, false}
use native.Mathlib.Omega.{arith}
use lib.ListN.{length, get_or}
use Rattle.reference.specs.References.{Layer}
use Rattle.manifest_objects.specs.Objects.{AllStand}
use Rattle.manifest_objects.proofs.Standing.{stand_length}
use Rattle.lookup_layers.specs.Layers.{LayerDigest, is_listed}
use Rattle.lookup_paths.specs.Follow.{End}
use Rattle.lookup_links.specs.Following.{MetAt}
use Rattle.lookup_outcome.specs.Outcome.{lost, if_listed, fate}
use Rattle.lookup_outcome.specs.Resolving.{DigestStands, SomeDigest, size_if, DigestAt, FoundAt}
use Rattle.lookup_outcome.specs.declared.Failure.TheVariants.{Absent}
use Rattle.lookup_outcome.proofs.Meeting.{digest_stands}
use Rattle.lookup_outcome.proofs.Outcomes.{fate_met}
use Rattle.lookup_outcome.proofs.Entries.{absent_size, present_size}

-- the path of a layer, with end e, met the reference with number o
module _ {b keys : List ℕ} {refs : List Layer} (s : AllStand b keys refs) {e : End} {o : ℕ} (m : MetAt refs e o) where
  -- the digest that it met
  abbrev layer_met : LayerDigest
  layer_met = record { algorithm = m.algorithm; bytes = m.digest }

  met_digest : DigestAt refs o layer_met
  met_digest = record { within = m.within; is = m.is }

  -- It has a position.
  pub met_within : o < length keys
  met_within = omega (arith, m.within, stand_length s)

  met_stands : DigestStands b (get_or keys o 0) layer_met
  met_stands = digest_stands s o layer_met met_digest

  -- It stands there.
  pub some_met : SomeDigest b (get_or keys o 0)
  some_met = record { digest = layer_met; stands = met_stands }

  module _ (present : List LayerDigest) (size : ℕ)
      (f : (d : LayerDigest) → DigestStands b (get_or keys o 0) d → size ≡ size_if (is_listed d present) d) where
    -- A digest of size 0 is absent.
    pub fate_absent : size ≡ 0 → fate present e ≡ lost Absent
    unfolding if_listed
    fate_absent z = fate_met present e layer_met m.end_is false (absent_size (is_listed layer_met present) layer_met (sym (f layer_met met_stands) ∙ z))

    -- Any other is found.
    pub fate_found : (size ≡ 0 → ⊥) → FoundAt refs (fate present e) o size
    unfolding if_listed size_if
    fate_found z =
        let t = present_size (is_listed layer_met present) layer_met (λ q. z (f layer_met met_stands ∙ q)) in
        record {
          digest = layer_met;
          at = met_digest;
          size = f layer_met met_stands ∙ ap (λ (y : Bool). size_if y layer_met) t;
          is = fate_met present e layer_met m.end_is true t;
        }
