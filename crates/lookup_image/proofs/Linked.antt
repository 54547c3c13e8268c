-- The references of a store in place and linked: what resolving its layers works on. Assumes nothing.
use Rattle.std.specs.Prelude.{Option, Some}
use Prim.Native.Nat.{ℕ, ◌-◌, ◌≤◌, ◌<◌}
use mathlib.Core.Path.{◌≡◌, sym, ap, subst, ◌∙◌}
use mathlib.Core.Bool.{false}
use mathlib.Core.List.{List, ◌++◌, map}
use native.Mathlib.Omega.{arith}
use lib.ListN.{length, drop, get_or, length-append, get_or-append}
use lib.Seq.{drop_at}
use Rattle.reference.specs.References.{Layer, no_layer}
use Rattle.manifest.specs.Manifest.{layers}
use Rattle.manifest.specs.Opened.{Places}
use Rattle.manifest.proofs.Limits.{layers_few}
use Rattle.manifest_objects.specs.Objects.{AllStand}
use Rattle.store_record.specs.Image.{Image}
use Rattle.store_record.specs.Reading.{held_in, images_in, no_record}
use Rattle.store_record.specs.declared.Survey.{Survey}
use Rattle.store_keys.specs.Clash.{any_clash}
use Rattle.store_keys.specs.Keys.{LayerKey}
use Rattle.store_names.specs.Opened.{OpenedStore}
use Rattle.lookup_layers.specs.Layers.{LayerDigest}
use Rattle.lookup_layers.specs.Reading.{SomeList}
use Rattle.lookup_links.specs.Links.{Link, Links}
use Rattle.lookup_paths.specs.Follow.{keys_in, objects_of, object_count, end_of}
use Rattle.lookup_paths.proofs.Objects.{objects_counted}
use Rattle.lookup_outcome.specs.Outcome.{outcome}
use Rattle.lookup_outcome.specs.Resolving.{Resolving}
use Rattle.lookup_image.specs.Layers.{present_in, layers_at, outcome_in}

-- the first n places of an array were lent, and came back with others in them
module _ (next part : List ℕ) (n : ℕ) (size : length part ≡ n) where
  -- There is room for n still.
  pub lent_space : n ≤ length (part ++ drop n next)
  lent_space = omega (arith, length-append part (drop n next))

  -- What is linked there is linked in the array.
  pub links_lent : {ks : List LayerKey} {refs : List Layer} → length refs ≡ n → Links ks refs part → Links ks refs (part ++ drop n next)
  links_lent {ks} {refs} r l =
      record {
        space = omega (arith, lent_space);
        few = l.few;
        each = λ e k. subst (Link ks refs (get_or refs e no_layer)) (sym (get_or-append part (drop n next) 0 e (omega arith))) (l.each e k);
      }

module _ (room : List Image) (ls : List Layer) where
  -- After the objects stand the layers.
  pub layers_after : (n : ℕ) → n ≡ object_count room → drop n (objects_of room ++ ls) ≡ ls
  layers_after n e = drop_at (objects_of room) ls n (objects_counted room ∙ sym e)

  -- The outcome of the references after the objects is that of the image's layers.
  pub outcome_after :
      (place n : ℕ) (present : Option (List LayerDigest)) (ds : List LayerDigest) → n ≡ object_count room → layers_at room place ≡ ls → present ≡ Some ds
      → outcome ds (map (end_of room) (drop n (objects_of room ++ ls))) ≡ outcome_in room place (present_in present)
  unfolding outcome_in present_in
  outcome_after place n present ds e f g =
      ap (λ (xs : List Layer). outcome ds (map (end_of room) xs)) (layers_after n e ∙ sym f)
      ∙ sym (ap (λ o. outcome (present_in o) (map (end_of room) (layers_at room place))) g)

-- image i of an opened store, and its layers after the objects of all images
module _ (b : List ℕ) (v : Survey) (places : List Places) (o : OpenedStore b v places) (i : ℕ) (h : i < v.count) where
  abbrev layers_here : List Layer
  layers_here = layers (held_in b (get_or v.records i no_record)).text

  few_here : length layers_here ≤ 64
  unfolding held_in
  few_here = layers_few _ (o.opens i h).good

  -- References of a store without clash that are linked are what resolving works on.
  pub resolving :
      {keys next present : List ℕ} {objects : ℕ} → any_clash (images_in b v) ≡ false
      → AllStand b keys (objects_of (images_in b v) ++ layers (held_in b (get_or v.records i no_record)).text)
      → Links (keys_in (images_in b v)) (objects_of (images_in b v) ++ layers (held_in b (get_or v.records i no_record)).text) next
      → objects ≡ object_count (images_in b v) → (list : SomeList present)
      → Resolving b keys next present objects (images_in b v) (objects_of (images_in b v) ++ layers (held_in b (get_or v.records i no_record)).text) list.layers
  resolving {objects = objects} apart stand links count list =
      let l = length-append (objects_of (images_in b v)) layers_here in
      let n = objects_counted (images_in b v) in
      record {
        apart = apart;
        stand = stand;
        links = links;
        count = sym count;
        few = omega arith;
        layers_few = omega (arith, few_here);
        list = list.is;
      }
