-- How the layers of an image come out (document 01, "The room" and "What comes back"): the digest that each layer's path meets, in the order of `layers`; or
-- the first layer that fails, with the reason.
use Rattle.std.specs.Prelude.{ℕ, zero, suc, List, [], ◌∷◌, Bool, true, false}
use Rattle.lookup_layers.specs.Layers.{LayerDigest, is_listed}
use Rattle.lookup_paths.specs.Follow.{End, met, undefined, endless}
use Rattle.lookup_outcome.specs.declared.Failure.{Failure}
use Rattle.lookup_outcome.specs.declared.Failure.TheVariants.{Undefined, Endless, Absent}

-- the number of document 01's table: an alias that no image defines, a path that never meets a digest, a digest that is not in the layer list
unfoldable pub failure_number : Failure → ℕ
failure_number Undefined = 17
failure_number Endless = 18
failure_number Absent = 19

-- how one layer comes out: by its digest, or not
pub data Fate : Type 0 where
  found : LayerDigest → Fate
  lost : Failure → Fate

unfoldable pub if_listed : LayerDigest → Bool → Fate
if_listed d true = found d
if_listed d false = lost Absent

-- by the end of its path and the layers that are present
unfoldable pub fate : List LayerDigest → End → Fate
fate present (met a d) = if_listed (record { algorithm = a; bytes = d }) (is_listed (record { algorithm = a; bytes = d }) present)
fate present undefined = lost Undefined
fate present endless = lost Endless

-- how all come out: their digests, or the index of the first that fails and why it does
pub data Outcome : Type 0 where
  resolved : List LayerDigest → Outcome
  fails : ℕ → Failure → Outcome

unfoldable pub before : Fate → Outcome → Outcome
before (lost f) o = fails zero f
before (found d) (resolved ds) = resolved (d ∷ ds)
before (found d) (fails k f) = fails (suc k) f

-- by the ends of their paths
unfoldable pub outcome : List LayerDigest → List End → Outcome
outcome present [] = resolved []
outcome present (e ∷ es) = before (fate present e) (outcome present es)
