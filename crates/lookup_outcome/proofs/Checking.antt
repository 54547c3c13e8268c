-- The layers of an image, one after the other, as long as they are found. Assumes nothing.
use Prim.Native.Nat.{ℕ, suc, ◌+◌, ◌-◌, ◌<◌, ◌≤◌}
use mathlib.Core.Path.{◌≡◌, refl, sym, ap, subst, ◌∙◌}
use mathlib.Core.List.{List, [], ◌∷◌, ◌++◌, append-nil, map}
use native.Mathlib.Omega.{arith}
use native.Mathlib.Numerals.{add-one}
use lib.ListN.{length, take, drop, get_or, set, length-append, drop_of_length-le}
use lib.Seq.{drop-cons, take-suc-set}
use Rattle.reference.specs.References.{Layer, no_layer}
use Rattle.store_record.specs.Image.{Image}
use Rattle.lookup_layers.specs.Layers.{LayerDigest, entry_of, list_of, AllSized}
use Rattle.lookup_layers.proofs.Listing.{list_both}
use Rattle.lookup_paths.specs.Follow.{End, end_of}
use Rattle.lookup_outcome.specs.Outcome.{Fate, lost, fate, fails, before, outcome}
use Rattle.lookup_outcome.specs.Resolving.{AllMet, none_met, FoundAt, AllFound}
use Rattle.lookup_outcome.specs.declared.Failure.{Failure}
use Rattle.lookup_outcome.proofs.Outcomes.{after, after_more, after_fails, after_all, outcome_next, outcome_none, found_small}
use Rattle.lookup_outcome.proofs.Meeting.{met_more}

-- the references from number `objects` on that are below number e were found: their digests have the first numbers, and the list of them n bytes
pub record CheckedTo (present : List LayerDigest) (room : List Image) (refs : List Layer) (objects e n : ℕ) (numbers : List ℕ) : Type 0 where
  pub digests : List LayerDigest
  pub count : objects + length digests ≡ e
  pub met : AllMet refs (take (length digests) numbers) digests
  pub size : n ≡ length (list_of digests)
  pub is : outcome present (map (end_of room) (drop objects refs)) ≡ after digests (outcome present (map (end_of room) (drop e refs)))

module _ (present : List LayerDigest) (room : List Image) (refs : List Layer) (objects : ℕ) where
  -- At first none is found.
  pub checked_none : (numbers : List ℕ) → CheckedTo present room refs objects objects 0 numbers
  unfolding list_of after
  checked_none numbers = record { digests = []; count = omega arith; met = none_met; size = refl; is = refl }

  -- how the layer with number e comes out
  abbrev fate_here : ℕ → Fate
  fate_here e = fate present (end_of room (get_or refs e no_layer))

  here : (e : ℕ) → e < length refs
      → outcome present (map (end_of room) (drop e refs)) ≡ before (fate_here e) (outcome present (map (end_of room) (drop (e + 1) refs)))
  here e h =
      ap (λ (l : List Layer). outcome present (map (end_of room) l))
      (drop-cons refs e no_layer h ∙ ap (λ (k : ℕ). get_or refs e no_layer ∷ drop k refs) (sym (add-one e)))
      ∙ outcome_next present (end_of room (get_or refs e no_layer)) (map (end_of room) (drop (e + 1) refs))

  module _ (e n : ℕ) (numbers : List ℕ) (p : CheckedTo present room refs objects e n numbers) where
    -- A layer that fails is the first that does.
    pub checked_fails : e < length refs → (f : Failure) → fate present (end_of room (get_or refs e no_layer)) ≡ lost f
        → outcome present (map (end_of room) (drop objects refs)) ≡ fails (e - objects) f
    checked_fails h f q =
        let k : length p.digests ≡ e - objects = omega (arith, p.count) in
        p.is
        ∙ ap (after p.digests) (here e h ∙ ap (λ (x : Fate). before x (outcome present (map (end_of room) (drop (e + 1) refs)))) q)
        ∙ after_fails p.digests f (outcome present (map (end_of room) (drop (e + 1) refs)))
        ∙ ap (λ (i : ℕ). fails i f) k

    -- One more is found.
    pub checked_next : e < length refs → (o m : ℕ) → FoundAt refs (fate present (end_of room (get_or refs e no_layer))) o m
        → e - objects < length numbers → CheckedTo present room refs objects (e + 1) (n + m) (set numbers (e - objects) o)
    unfolding list_of
    checked_next h o m x l =
        record {
          digests = p.digests ++ x.digest ∷ [];
          count = omega (arith, p.count, longer);
          met = subst (λ (os : List ℕ). AllMet refs os (p.digests ++ x.digest ∷ [])) (sym first) (met_more p.met x.at);
          size = omega (arith, p.size, x.size, grown);
          is = p.is
              ∙ ap (after p.digests) (here e h ∙ ap (λ (y : Fate). before y (outcome present (map (end_of room) (drop (e + 1) refs)))) x.is)
              ∙ sym (after_more p.digests x.digest (outcome present (map (end_of room) (drop (e + 1) refs))));
        }
      where
        place : length p.digests ≡ e - objects
        place = omega (arith, p.count)

        longer : length (p.digests ++ x.digest ∷ []) ≡ suc (length p.digests)
        longer = omega (arith, length-append p.digests (x.digest ∷ []))

        first : take (length (p.digests ++ x.digest ∷ [])) (set numbers (e - objects) o) ≡ take (length p.digests) numbers ++ o ∷ []
        first =
            ap (λ (k : ℕ). take k (set numbers (e - objects) o)) (longer ∙ ap suc place)
            ∙ take-suc-set numbers (e - objects) o l
            ∙ ap (λ (k : ℕ). take k numbers ++ o ∷ []) (sym place)

        grown : length (list_of (p.digests ++ x.digest ∷ [])) ≡ length (list_of p.digests) + length (entry_of x.digest)
        grown =
            ap length (list_both p.digests (x.digest ∷ []))
            ∙ length-append (list_of p.digests) (entry_of x.digest ++ [])
            ∙ ap (λ (w : List ℕ). length (list_of p.digests) + length w) (append-nil (entry_of x.digest))

    -- Where no more are left, all are found.
    pub checked_all : length refs ≤ e → AllFound refs (outcome present (map (end_of room) (drop objects refs))) numbers n
    checked_all h =
        record {
          digests = p.digests;
          met = p.met;
          size = p.size;
          is = p.is
              ∙ ap (λ (l : List Layer). after p.digests (outcome present (map (end_of room) l))) (drop_of_length-le refs {i = e} h)
              ∙ ap (after p.digests) (outcome_none present)
              ∙ after_all p.digests;
        }

-- The entry of a layer that is found has 49 bytes at most.
pub entry_small : (present : List LayerDigest) (refs : List Layer) (e : End) (o m : ℕ) → AllSized present → FoundAt refs (fate present e) o m → m ≤ 49
entry_small present refs e o m s x = omega (arith, x.size, found_small present e x.digest s x.is)
