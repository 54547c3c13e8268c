-- How far a survey has come: the records that were read, and the position where the rest begins.
use Rattle.std.specs.Prelude.{Option, None, Some}
use Prim.Native.Nat.{ℕ, suc, ◌+◌, ◌-◌, ◌≤◌, ◌<◌}
use mathlib.Core.Path.{◌≡◌, refl, sym, ap, ◌∙◌}
use mathlib.Core.List.{List, [], ◌∷◌, ◌++◌, map, map-append, append_assoc, append-nil}
use native.Mathlib.Omega.{arith}
use native.Mathlib.Numerals.{add-one}
use native.Mathlib.Decide.{dec_lt}
use lib.ListN.{length, take, drop, get_or, set, length-drop, length-set, drop_of_length-le}
use lib.Seq.{take-suc-set, get_or-set_same, get_or-set_other}
use Rattle.store_record.specs.Image.{Image}
use Rattle.store_record.specs.Record.{no_image, read_record}
use Rattle.store_record.specs.Store.{most_images, and_then, continued, read_records}
use Rattle.store_record.specs.Reading.{held_in, RecordIn, RecordAt, no_record, images_in, Fills}
use Rattle.store_record.specs.declared.Record.{Record}
use Rattle.store_record.proofs.Stores.{records_end, records_full, records_more}

-- these images in front
unfoldable pub resumed : List Image → Option (List Image) → Option (List Image)
resumed xs None = None
resumed xs (Some ys) = Some (xs ++ ys)

resumed_start : (o : Option (List Image)) → o ≡ resumed [] o
unfolding resumed
resumed_start None = refl
resumed_start (Some ys) = refl

resumed_more : (xs : List Image) (x : Image) (o : Option (List Image)) → resumed xs (and_then x o) ≡ resumed (xs ++ (x ∷ [])) o
unfolding resumed and_then
resumed_more xs x None = refl
resumed_more xs x (Some ys) = ap Some (sym (append_assoc xs (x ∷ []) ys))

-- Of the bytes s, the first `count` records were read, and the rest begins at position i.
pub record Surveyed (s : List ℕ) (records : List Record) (count i : ℕ) : Type 0 where
  pub front : read_records most_images s ≡ resumed (map (held_in s) (take count records)) (read_records (most_images - count) (drop i s))
  pub few : count ≤ most_images
  pub within : i ≤ length s
  pub space : length records ≡ most_images
  pub each : (k : ℕ) → k < count → RecordIn s (get_or records k no_record)

-- At the start no record was read, and the rest begins at position 0.
pub nothing_read : (s : List ℕ) (records : List Record) → length records ≡ most_images → Surveyed s records 0 0
nothing_read s records h =
    record { front = resumed_start (read_records most_images s); few = omega arith; within = omega arith; space = h; each = λ k l. absurd (omega arith) }

module _ (s : List ℕ) (records : List Record) (count i : ℕ) (p : Surveyed s records count i) where
  -- no bytes are left
  pub all_read : length s ≤ i → Fills s (record { count = count; records = records })
  unfolding images_in resumed
  all_read h = record { images = filled; few = p.few; each = p.each }
    where
      held : List Image
      held = map (held_in s) (take count records)

      filled : read_records most_images s ≡ Some (map (held_in s) (take count records))
      filled =
          p.front ∙ ap (λ (l : List ℕ). resumed held (read_records (most_images - count) l)) (drop_of_length-le s {i = i} h)
          ∙ ap (resumed held) (records_end (most_images - count)) ∙ ap Some (append-nil held)

  module _ (more : i < length s) where
    some_left : 0 < length (drop i s)
    some_left = omega (arith, length-drop i s)

    -- one record more than a store may have
    pub too_many : count ≡ most_images → read_records most_images s ≡ None
    unfolding resumed
    too_many e =
        let z : most_images - count ≡ 0 = omega arith in
        let held = map (held_in s) (take count records) in
        p.front ∙ ap (λ (k : ℕ). resumed held (read_records k (drop i s))) z ∙ ap (resumed held) (records_full (drop i s) some_left)

    module _ (free : count < most_images) where
      next : read_records (most_images - count) (drop i s)
          ≡ continued (λ r. read_records (most_images - (count + 1)) r) (read_record (drop i s))
      next =
          let e : most_images - count ≡ suc (most_images - (count + 1)) = omega arith in
          ap (λ (k : ℕ). read_records k (drop i s)) e ∙ records_more (most_images - (count + 1)) (drop i s) some_left

      -- no record stands there
      pub no_more : read_record (drop i s) ≡ no_image → read_records most_images s ≡ None
      unfolding resumed continued
      no_more e =
          p.front ∙ ap (resumed (map (held_in s) (take count records))) (next ∙ ap (continued (λ r. read_records (most_images - (count + 1)) r)) e)

      -- a record stands there
      pub one_more : (r : Record) → RecordAt s i r → Surveyed s (set records count r) (count + 1) r.end
      unfolding continued
      one_more r a =
          record {
            front =
                p.front ∙ ap (resumed held) (next ∙ ap (continued (λ t. read_records (most_images - (count + 1)) t)) a.reads)
                ∙ resumed_more held (held_in s r) (read_records (most_images - (count + 1)) (drop r.end s))
                ∙ ap (λ (xs : List Image). resumed xs (read_records (most_images - (count + 1)) (drop r.end s))) (sym now_held);
            few = omega arith;
            within = a.is_in.within;
            space = length-set records count r ∙ p.space;
            each = λ k l. at k l (dec_lt k count);
          }
        where
          held : List Image
          held = map (held_in s) (take count records)

          free_place : count < length records
          free_place = omega (arith, p.space)

          now_held : map (held_in s) (take (count + 1) (set records count r)) ≡ held ++ (held_in s r ∷ [])
          now_held =
              ap (λ (k : ℕ). map (held_in s) (take k (set records count r))) (add-one count)
              ∙ ap (map (held_in s)) (take-suc-set records count r free_place) ∙ map-append (held_in s) (take count records) (r ∷ [])

          at : (k : ℕ) → k < count + 1 → Dec (k < count) → RecordIn s (get_or (set records count r) k no_record)
          at k l (yes h) = rw (get_or-set_other records count k r no_record (λ e. omega arith)) (p.each k h)
          at k l (no h) =
              let e : k ≡ count = omega arith in rw e (rw (get_or-set_same records count r no_record free_place) a.is_in)
