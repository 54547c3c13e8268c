-- What a buffer that holds a store is, part by part: its images, its bytes in use, and that it is sound. Assumes nothing.
use Rattle.std.specs.Prelude.{Option, None, Some}
use Prim.Native.Nat.{ℕ, ◌≤◌, ◌<◌}
use mathlib.Core.Path.{◌≡◌, refl, sym, ap, ◌∙◌, subst}
use mathlib.Core.List.{List}
use mathlib.Core.Bool.{false}
use native.Mathlib.Omega.{arith}
use borrow.Author.Tests.{ltb-false, le-ltb, leb-true, le-leb}
use lib.ListN.{length, take, get_or, length-take, get_or-eq_default}
use Rattle.laws.specs.Any.{any_of}
use Rattle.laws.proofs.Any.{or_none}
use Rattle.laws.proofs.Order.{by_test}
use Rattle.store_record.specs.Image.{Image}
use Rattle.store_record.specs.Ids.{id_twice}
use Rattle.store_record.specs.Store.{most_images, store_of, AllShaped, read_records}
use Rattle.store_keys.specs.Clash.{any_clash}
use Rattle.store_conflict.proofs.Clashing.{Single, single}
use Rattle.store_open.specs.Held.{is_unfit, too_many, are_unsound, is_broken, held}
use Rattle.reference.specs.References.{Id}
use Rattle.store_record.specs.Record.{Shaped}
use native.Mathlib.Decide.{dec_lt}
use lib.Dec.{leb}
use lib.Seq.{get_or-take, length-take-le}
use Rattle.store_record.proofs.Stores.{read_store, store_read}
use Rattle.store_open.proofs.Opening.{unread_broken, read_broken}

-- An image as a record holds it has one ID.
pub shaped_single : {x : Image} → Shaped x → Single x
shaped_single {x} h = subst (λ (i : List Id). Single (record { ids = i; text = x.text })) (sym h.ids) single

-- what a sound store is, part by part
pub record Sound (size : ℕ) (xs : List Image) : Type 0 where
  pub few : length xs ≤ 64
  pub fits : length (store_of xs) ≤ size
  pub fit : any_of is_unfit xs ≡ false
  pub ids : id_twice xs ≡ false
  pub names : any_clash xs ≡ false

-- A store that is not unsound has all of these parts.
pub sound_parts : (size : ℕ) (xs : List Image) → are_unsound size xs ≡ false → Sound size xs
unfolding are_unsound too_many
sound_parts size xs e =
    let a = or_none _ _ e in
    let b = or_none _ _ a.0 in
    let c = or_none _ _ a.1 in
    let d = or_none _ _ c.1 in
    record {
      few = ltb-false most_images (length xs) b.0;
      fits = ltb-false size (length (store_of xs)) b.1;
      fit = c.0;
      ids = d.0;
      names = d.1;
    }

-- A store that has all of these parts is not unsound.
pub parts_sound : (size : ℕ) (xs : List Image) → Sound size xs → are_unsound size xs ≡ false
unfolding are_unsound too_many
parts_sound size xs p =
    rw (le-ltb most_images (length xs) p.few, le-ltb size (length (store_of xs)) p.fits, p.fit, p.ids) p.names

-- The first bytes of a buffer of bytes are bytes.
pub first_bytes : (buffer : List ℕ) (n : ℕ) → ((k : ℕ) → get_or buffer k 0 < 256) → (k : ℕ) → get_or (take n buffer) k 0 < 256
first_bytes buffer n h k = by_place (dec_lt k n)
  where
    by_place : Dec (k < n) → get_or (take n buffer) k 0 < 256
    by_place (yes l) = rw (get_or-take n buffer k 0 l) (h k)
    by_place (no l) = rw (get_or-eq_default (take n buffer) 0 {n = k} (omega (arith, length-take n buffer))) (omega arith)

-- the first `used` bytes of a buffer are the store of those images
pub record Holds (buffer : List ℕ) (used : ℕ) (xs : List Image) : Type 0 where
  pub within : used ≤ length buffer
  pub bytes : take used buffer ≡ store_of xs
  pub few : length xs ≤ 64
  pub each : AllShaped xs

module _ (buffer : List ℕ) (used : ℕ) (xs : List Image) where
  -- Images that a buffer of bytes holds are the store in its first bytes.
  pub held_holds : ((k : ℕ) → get_or buffer k 0 < 256) → held buffer used ≡ Some xs → Holds buffer used xs
  unfolding held
  held_holds h e =
      by_test (leb used (length buffer))
      (λ f. let r = store_read most_images (take used buffer) xs (first_bytes buffer used h) (rw (f, held) at e) in
      record { within = leb-true used (length buffer) f; bytes = r.0; few = r.1; each = r.2 })
      (λ f. let g : None ≡ Some xs = rw (f, held) at e in
      let z : ◌≡◌ {A = ℕ} 0 1 = cc in absurd (omega arith))

  -- A buffer whose first bytes are the store of some images holds them.
  pub holds_held : Holds buffer used xs → held buffer used ≡ Some xs
  unfolding held
  holds_held h = rw (le-leb used (length buffer) h.within, held) (rw h.bytes (read_store most_images xs h.each h.few))

  -- They fill exactly the bytes in use.
  pub used_is : Holds buffer used xs → used ≡ length (store_of xs)
  used_is h = sym (length-take-le used buffer h.within) ∙ ap length h.bytes

-- How large a buffer that holds the records is makes no difference to whether they are a store.
pub space_broken :
    (b : List ℕ) → ((j : ℕ) → get_or b j 0 < 256) → (size : ℕ) → length b ≤ size
    → is_broken size (read_records most_images b) ≡ is_broken (length b) (read_records most_images b)
space_broken b bytes size h = by_images (read_records most_images b) refl
  where
    by_images : (o : Option (List Image)) → read_records most_images b ≡ o
        → is_broken size (read_records most_images b) ≡ is_broken (length b) (read_records most_images b)
    by_images None e = unread_broken b size e ∙ sym (unread_broken b (length b) e)
    by_images (Some xs) e = read_broken b size bytes h xs e ∙ sym (read_broken b (length b) bytes (omega arith) xs e)

module _ (buffer : List ℕ) (used : ℕ) (h : used ≤ length buffer) where
  -- A buffer holds the images that are read in its bytes in use.
  pub held_in_use : held buffer used ≡ read_records most_images (take used buffer)
  unfolding held
  held_in_use = rw (le-leb used (length buffer) h, held)

  -- It is no store exactly if these bytes are none.
  pub broken_in_use : ((k : ℕ) → get_or buffer k 0 < 256)
      → is_broken (length buffer) (held buffer used) ≡ is_broken (length (take used buffer)) (read_records most_images (take used buffer))
  broken_in_use bytes =
      let l : length (take used buffer) ≤ length buffer = omega (arith, length-take-le used buffer h) in
      ap (is_broken (length buffer)) held_in_use ∙ space_broken (take used buffer) (first_bytes buffer used bytes) (length buffer) l
