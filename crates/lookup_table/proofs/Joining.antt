-- The keys of one image after the other are linked. Assumes nothing.
use Prim.Native.Nat.{ℕ, ◌+◌, ◌<◌, ◌≤◌}
use mathlib.Core.Path.{◌≡◌, refl, sym, ap, subst, ◌∙◌}
use mathlib.Core.List.{List, [], ◌++◌}
use native.Mathlib.Omega.{arith}
use lib.ListN.{length, take, get_or, length-append}
use Rattle.reference.specs.References.{Layer}
use Rattle.manifest.specs.Names.{objects}
use Rattle.manifest.specs.Opened.{Places}
use Rattle.store_record.specs.Image.{Image}
use Rattle.store_record.specs.Reading.{between, held_in, images_in, no_record}
use Rattle.store_record.specs.declared.Survey.{Survey}
use Rattle.store_keys.specs.Keys.{LayerKey, layer_keys}
use Rattle.store_names.proofs.Opened.{opened_at}
use Rattle.lookup_paths.specs.Follow.{keys_in, objects_of}
use Rattle.lookup_links.specs.Links.{Links}
use Rattle.lookup_index.specs.Table.{Table}
use Rattle.lookup_table.specs.Linking.{ObjectsFrom, LinkableImage, LinkableStore}
use Rattle.manifest_objects.proofs.Standing.{stand_length}
use Rattle.lookup_table.proofs.Walking.{objects_next, keys_after, image_objects, all_images}

-- the keys of the first j images are linked, and the next image's objects have the numbers from `first` on
pub record LinkedUpTo (b : List ℕ) (v : Survey) (keys at order before : List ℕ) (j first : ℕ) (next : List ℕ) : Type 0 where
  pub size : length next ≡ length before
  pub number : first ≡ length (objects_of (take j (images_in b v)))
  pub links : (ls : List Layer) → Table b keys at order (objects_of (images_in b v) ++ ls) → Links [] (objects_of (images_in b v) ++ ls) before
      → Links (keys_in (take j (images_in b v))) (objects_of (images_in b v) ++ ls) next

module _ (b : List ℕ) (v : Survey) (keys at order before : List ℕ) where
  -- At first none is linked.
  pub linked_none : LinkedUpTo b v keys at order before 0 0 before
  unfolding objects_of keys_in
  linked_none = record { size = refl; number = refl; links = λ ls t p. p }

  module _ (fits : v.count ≤ length v.records) (j first : ℕ) (next : List ℕ) (x : LinkedUpTo b v keys at order before j first next) where
    -- At last all are.
    pub linked_all : j ≡ v.count → (ls : List Layer) → Table b keys at order (objects_of (images_in b v) ++ ls)
        → Links [] (objects_of (images_in b v) ++ ls) before
        → Links (keys_in (images_in b v)) (objects_of (images_in b v) ++ ls) next
    linked_all e ls t p =
        subst (λ (xs : List Image). Links (keys_in xs) (objects_of (images_in b v) ++ ls) next) (all_images b v fits j e) (x.links ls t p)

    module _ (h : j < v.count) where
      abbrev text : List ℕ
      text = between b (get_or v.records j no_record).text (get_or v.records j no_record).end

      -- its objects among the references
      its_objects : (ls : List Layer) → ObjectsFrom (objects_of (images_in b v) ++ ls) first (objects text)
      its_objects ls = subst (λ (n : ℕ). ObjectsFrom (objects_of (images_in b v) ++ ls) n (objects text)) (sym x.number) (image_objects b v fits j h ls)

      -- The next image can be linked.
      pub linkable : (places : List Places) (counts : List ℕ) (d : Places) (names₀ owners₀ names owners : List ℕ)
          → LinkableStore b v places counts keys at order before names₀ owners₀ → length names ≡ length names₀ → length owners ≡ length owners₀
          → LinkableImage b (get_or v.records j no_record) (get_or places j d) first keys at order next names owners
      linkable places counts d names₀ owners₀ names owners s m o =
          record {
            table = record { refs = objects_of (images_in b v) ++ s.layers; table = s.table };
            is_in = s.opened.fills.each j h;
            opens = opened_at b v places s.opened j h d;
            within = omega (arith, (its_objects s.layers).within, stand_length s.table.stand);
            space = omega (arith, s.space, x.size);
            names_space = omega (arith, s.names_space);
            owners_space = omega (arith, s.owners_space);
          }

      -- It is linked.
      pub linked_next : (after : List ℕ) (count : ℕ) → count ≡ length
          (objects (between b (get_or v.records j no_record).text (get_or v.records j no_record).end))
          → length after ≡ length next
          → ((refs : List Layer) (ks : List LayerKey) → Table b keys at order refs
          → ObjectsFrom refs first (objects (between b (get_or v.records j no_record).text (get_or v.records j no_record).end)) → Links ks refs next
          → Links (ks ++ layer_keys (held_in b (get_or v.records j no_record))) refs after)
          → LinkedUpTo b v keys at order before (j + 1) (first + count) after
      linked_next after count c z f =
          record {
            size = z ∙ x.size;
            number = omega (arith, x.number, c, ap length (objects_next b v fits j h), length-append (objects_of (take j (images_in b v))) (objects text));
            links = λ ls t p.
                subst (λ (ks : List LayerKey). Links ks (objects_of (images_in b v) ++ ls) after) (sym (keys_after b v fits j h))
                (f _ _ t (its_objects ls) (x.links ls t p));
          }
