-- Opening a store: each of its manifests, and then the store as a whole. Assumes nothing.
use Rattle.std.specs.Prelude.{None, Some, Result, Ok, Err}
use Prim.Native.Nat.{ℕ, ◌+◌, ◌≤◌, ◌<◌}
use mathlib.Core.Path.{◌≡◌, refl, sym, ap, subst, ◌∙◌}
use mathlib.Core.List.{List}
use mathlib.Core.Bool.{Bool, true, false, not, ◌||◌, or-true, not-not}
use native.Mathlib.Omega.{arith}
use native.Mathlib.Decide.{dec_lt}
use borrow.Author.Tests.{eq-eqb, ne_eqb, le-ltb}
use lib.ListN.{length, drop, get_or, set, length-set}
use lib.Seq.{get_or-set_same, get_or-set_other}
use Rattle.laws.specs.Any.{any_of}
use Rattle.text.specs.Answer.{is_canonical}
use Rattle.text.proofs.Outcome.{refused_positive}
use Rattle.manifest.specs.Answer.{fault_number, Answers}
use Rattle.manifest.specs.Number.{manifest_text_number}
use Rattle.manifest.specs.Opened.{no_places, Opens}
use Rattle.manifest.specs.declared.Good.{Good}
use Rattle.manifest.specs.declared.Fault.{Fault}
use Rattle.manifest.specs.declared.Fault.TheVariants.{Text, BadField, BadForm, RepeatedAlias}
use Rattle.manifest.specs.Opened.{Places}
use Rattle.store_record.specs.Image.{Image}
use Rattle.store_record.specs.Ids.{id_twice}
use Rattle.store_record.specs.Store.{most_images, store_of, read_records}
use Rattle.store_record.specs.Reading.{between, held_in, images_in, no_record, Fills}
use Rattle.store_record.specs.declared.Record.{Record}
use Rattle.store_record.specs.declared.Survey.{Survey}
use Rattle.store_record.proofs.Stores.{store_read}
use Rattle.store_record.proofs.Walks.{any_here, any_next, any_image_end}
use Rattle.store_keys.specs.Clash.{any_clash}
use Rattle.store_names.specs.Opened.{OpenedStore}
use Rattle.store_open.specs.Held.{is_unfit, too_many, are_unsound, is_broken}

fault_positive : (f : Fault) → 0 < fault_number f
fault_positive (Text f) = refused_positive f _ refl
fault_positive BadField = omega arith
fault_positive BadForm = omega arith
fault_positive RepeatedAlias = omega arith

-- the manifest of a record
abbrev pub text_at : List ℕ → Record → List ℕ
text_at b r = between b r.text r.end

-- What checking its manifest answers tells whether an image is fit.
module _ (b : List ℕ) (r : Record) {x : Result Good Fault} (a : Answers (text_at b r) x) where
  -- An image whose manifest is refused is not fit.
  pub refused_unfit : {f : Fault} → x ≡ Err f → is_unfit (held_in b r) ≡ true
  unfolding is_unfit held_in
  refused_unfit {f} e =
      let n = (subst (Answers (text_at b r)) e a).number in
      rw (ne_eqb (manifest_text_number (text_at b r)) 0 (λ z. omega (arith, fault_positive f, n))) (or-true (not (is_canonical (text_at b r))))

  module _ {good : Good} (e : x ≡ Ok good) where
    -- An image whose manifest is good but not in canonical form is not fit.
    pub other_unfit : good.canonical ≡ false → is_unfit (held_in b r) ≡ true
    unfolding is_unfit held_in
    other_unfit f = rw (sym (subst (Answers (text_at b r)) e a).tells.1 ∙ f)

    -- An image whose manifest is good and in canonical form is fit.
    pub good_fit : good.canonical ≡ true → is_unfit (held_in b r) ≡ false
    unfolding is_unfit held_in
    good_fit t =
        let g = subst (Answers (text_at b r)) e a in
        rw (sym g.tells.1 ∙ t, eq-eqb (manifest_text_number (text_at b r)) 0 (sym g.number))

-- The manifests of the first i records are opened.
pub record OpenedTo (b : List ℕ) (v : Survey) (places : List Places) (i : ℕ) : Type 0 where
  pub fit : any_of is_unfit (images_in b v) ≡ any_of is_unfit (drop i (images_in b v))
  pub space : length places ≡ most_images
  pub each : (k : ℕ) → k < i → Opens (text_at b (get_or v.records k no_record)) (get_or places k no_places)

-- At the start no manifest is opened.
pub nothing_opened : (b : List ℕ) (v : Survey) (places : List Places) → length places ≡ most_images → OpenedTo b v places 0
nothing_opened b v places h = record { fit = refl; space = h; each = λ k l. absurd (omega arith) }

module _ (b : List ℕ) (v : Survey) (fits : v.count ≤ length v.records) (places : List Places) (i : ℕ) (p : OpenedTo b v places i) where
  module _ (h : i < v.count) where
    -- the next image is not fit
    pub found_unfit : is_unfit (held_in b (get_or v.records i no_record)) ≡ true → any_of is_unfit (images_in b v) ≡ true
    found_unfit t = p.fit ∙ any_here b v fits i h is_unfit t

    -- it is, and its manifest is opened
    pub one_opened :
        is_unfit (held_in b (get_or v.records i no_record)) ≡ false → v.count ≤ most_images
        → (q : Places) → Opens (text_at b (get_or v.records i no_record)) q → OpenedTo b v (set places i q) (i + 1)
    one_opened t few q o =
        record { fit = p.fit ∙ any_next b v fits i h is_unfit t; space = length-set places i q ∙ p.space; each = λ k l. at k l (dec_lt k i) }
      where
        at : (k : ℕ) → k < i + 1 → Dec (k < i) → Opens (text_at b (get_or v.records k no_record)) (get_or (set places i q) k no_places)
        at k l (yes m) = rw (get_or-set_other places i k q no_places (λ e. omega arith)) (p.each k m)
        at k l (no m) =
            let f : k ≡ i = omega arith in
            rw f (rw (get_or-set_same places i q no_places (omega (arith, p.space))) o)

  -- no record is left
  pub all_opened : Fills b v → v.count ≤ i → (any_of is_unfit (images_in b v) ≡ false) × OpenedStore b v places
  all_opened f h =
      (p.fit ∙ any_image_end b v fits i is_unfit h, record { fills = f; space = p.space; opens = λ k l. p.each k (omega arith) })

module _ (xs : List Image) {t : Bool} (e : t ≡ id_twice xs) where
  -- Images are not apart where an ID stands twice.
  pub twice_apart : t ≡ true → false ≡ not (id_twice xs || any_clash xs)
  twice_apart f = rw (sym e ∙ f)

  -- Where none does, they are unless two clash.
  pub clash_apart : t ≡ false → {u : Bool} → u ≡ any_clash xs → not u ≡ not (id_twice xs || any_clash xs)
  clash_apart f g = rw (sym e ∙ f, ← g)

module _ (b : List ℕ) (size : ℕ) where
  -- Bytes that no records fill are no store.
  pub unread_broken : read_records most_images b ≡ None → is_broken size (read_records most_images b) ≡ true
  unfolding is_broken
  unread_broken e = rw e

  -- Of the images that were read from a store, there are never too many.
  pub read_broken :
      ((j : ℕ) → get_or b j 0 < 256) → length b ≤ size → (xs : List Image) → read_records most_images b ≡ Some xs
      → is_broken size (read_records most_images b) ≡ (any_of is_unfit xs || (id_twice xs || any_clash xs))
  unfolding is_broken are_unsound too_many
  read_broken bytes h xs e =
      let s = store_read most_images b xs bytes e in
      ap (is_broken size) e
      ∙ rw (le-ltb most_images (length xs) s.1, le-ltb size (length (store_of xs)) (omega (arith, ap length s.0)))

module _ (b : List ℕ) (bytes : (j : ℕ) → get_or b j 0 < 256) (v : Survey) (f : Fills b v) where
  -- where a manifest is not fit, and where all are
  by_fit : {t : Bool} → any_of is_unfit (images_in b v) ≡ t → is_broken (length b) (read_records most_images b)
      ≡ (t || (id_twice (images_in b v) || any_clash (images_in b v)))
  by_fit e =
      read_broken b (length b) bytes (omega arith) (images_in b v) f.images
      ∙ ap (λ (t : Bool). t || (id_twice (images_in b v) || any_clash (images_in b v))) e

  -- A store with an image that is not fit is not well-formed.
  pub unfit_broken : any_of is_unfit (images_in b v) ≡ true → is_broken (length b) (read_records most_images b) ≡ true
  unfit_broken e = by_fit e

  -- One whose images are all fit is well-formed exactly if no ID stands twice and no two images clash.
  pub apart_broken : any_of is_unfit (images_in b v) ≡ false → {t : Bool} → t ≡ not (id_twice (images_in b v) || any_clash (images_in b v))
      → is_broken (length b) (read_records most_images b) ≡ not t
  apart_broken e h = by_fit e ∙ sym (ap not h ∙ not-not (id_twice (images_in b v) || any_clash (images_in b v)))
