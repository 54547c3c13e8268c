-- What a load leaves in the buffer. Assumes nothing.
use Rattle.std.specs.Prelude.{Option, None, Some}
use Prim.Native.Nat.{ℕ, ◌+◌, ◌≤◌, ◌<◌}
use mathlib.Core.Path.{◌≡◌, refl, sym, ap, ◌∙◌}
use mathlib.Core.List.{List, [], ◌∷◌, ◌++◌, append_assoc}
use mathlib.Core.Bool.{true}
use native.Mathlib.Omega.{arith}
use borrow.Author.Tests.{eq-eqb, ne_eqb}
use lib.ListN.{length, take, drop, get_or, length-append, length-drop}
use lib.Seq.{take_at, drop_at, length-take-le}
use Rattle.store_record.specs.Image.{Image}
use Rattle.store_record.specs.Record.{record_of}
use Rattle.store_record.specs.Store.{none_shaped, shaped}
use Rattle.store_record.proofs.Stores.{shaped_both}
use Rattle.store_open.specs.Held.{held, is_broken, well_formed}
use Rattle.store.specs.Load.{image_of, load_number, used_after, bytes_after, load_used, load_bytes}
use Rattle.store_append.specs.Append.{appended}
use Rattle.store.proofs.Images.{shaped_image}
use Rattle.store.proofs.Accepting.{Accepted, accepted, unread_refused, store_last, next_sound}
use Rattle.store_open.proofs.Holding.{Holds, held_holds, holds_held, used_is}

-- bytes put after the first ones
module _ (buffer : List ℕ) (used : ℕ) (bytes : List ℕ) (h : used + length bytes ≤ length buffer) where
  first : List ℕ
  first = take used buffer ++ bytes

  first_length : length first ≡ used + length bytes
  unfolding first
  first_length = omega (arith, length-append (take used buffer) bytes, length-take-le used buffer (omega arith))

  joined : appended buffer used bytes ≡ first ++ drop (used + length bytes) buffer
  unfolding appended first
  joined = sym (append_assoc (take used buffer) bytes (drop (used + length bytes) buffer))

  -- They stand after the first ones.
  pub appended_first : take (used + length bytes) (appended buffer used bytes) ≡ take used buffer ++ bytes
  unfolding first
  appended_first = ap (take (used + length bytes)) joined ∙ take_at first (drop (used + length bytes) buffer) (used + length bytes) first_length

  -- What follows them stays.
  pub appended_rest : drop (used + length bytes) (appended buffer used bytes) ≡ drop (used + length bytes) buffer
  appended_rest = ap (drop (used + length bytes)) joined ∙ drop_at first (drop (used + length bytes) buffer) (used + length bytes) first_length

  -- The buffer keeps its length.
  pub appended_length : length (appended buffer used bytes) ≡ length buffer
  appended_length =
      ap length joined
      ∙ omega (arith, length-append first (drop (used + length bytes) buffer), first_length, length-drop (used + length bytes) buffer)

module _ (id manifest buffer : List ℕ) (used : ℕ) where
  -- A load that is refused tells that no bytes are in use, and changes no byte.
  pub load_refused :
      (load_number id manifest buffer used ≡ 0 → ⊥) → (load_used id manifest buffer used ≡ 0) × (load_bytes id manifest buffer used ≡ buffer)
  unfolding load_used load_bytes used_after bytes_after
  load_refused e =
      let f = ne_eqb (load_number id manifest buffer used) 0 e in
      (rw (f, used_after), rw (f, bytes_after))

  module _ (e : load_number id manifest buffer used ≡ 0) where
    -- An accepted load tells where the new record ends.
    pub used_accepted : load_used id manifest buffer used ≡ used + length (record_of (image_of id manifest))
    unfolding load_used used_after
    used_accepted = rw (eq-eqb (load_number id manifest buffer used) 0 e, used_after)

    -- An accepted load puts the record after the bytes in use.
    pub bytes_accepted : load_bytes id manifest buffer used ≡ appended buffer used (record_of (image_of id manifest))
    unfolding load_bytes bytes_after
    bytes_accepted = rw (eq-eqb (load_number id manifest buffer used) 0 e, bytes_after)

    module _ (xs : List Image) (h : held buffer used ≡ Some xs) where
      -- Of a load that is accepted all is known that the number 0 tells.
      pub load_accepted : Accepted (length buffer) xs id manifest
      unfolding load_number
      load_accepted = accepted (length buffer) xs id manifest (rw h at e)

      module _ (b : (k : ℕ) → get_or buffer k 0 < 256) where
        holds : Holds buffer used xs
        holds = held_holds buffer used xs b h

        -- There is space for the record.
        pub load_fits : used + length (record_of (image_of id manifest)) ≤ length buffer
        load_fits =
            omega (arith, load_accepted.fits, used_is buffer used xs holds, holds.within)

-- The images that a buffer holds after an accepted load are those of before and then the new one.
pub load_holds : (id manifest buffer : List ℕ) (used : ℕ) (xs : List Image) → ((k : ℕ) → get_or buffer k 0 < 256) → held buffer used ≡ Some xs
    → load_number id manifest buffer used ≡ 0
    → held (load_bytes id manifest buffer used) (load_used id manifest buffer used) ≡ Some (xs ++ (image_of id manifest ∷ []))
load_holds id manifest buffer used xs b h e =
    let x = image_of id manifest in
    let r = record_of x in
    let k = load_accepted id manifest buffer used e xs h in
    let o = held_holds buffer used xs b h in
    let f = load_fits id manifest buffer used e xs h b in
    rw (used_accepted id manifest buffer used e, bytes_accepted id manifest buffer used e)
    (holds_held (appended buffer used r) (used + length r) (xs ++ (x ∷ [])) (record {
      within = omega (arith, appended_length buffer used r f);
      bytes = appended_first buffer used r f ∙ ap (λ (l : List ℕ). l ++ r) o.bytes ∙ sym (store_last xs x);
      few = omega (arith, length-append xs (x ∷ []), k.few);
      each = shaped_both o.each (shaped (shaped_image id manifest k.known) none_shaped);
    }))

-- what an accepted load leaves: the images of before and then the new one, a well-formed store, and all bytes after it
pub record LoadKeeps (id manifest buffer : List ℕ) (used : ℕ) : Type 0 where
  pub images : List Image
  pub before : held buffer used ≡ Some images
  pub after : held (load_bytes id manifest buffer used) (load_used id manifest buffer used) ≡ Some (images ++ (image_of id manifest ∷ []))
  pub well : well_formed (load_bytes id manifest buffer used) (load_used id manifest buffer used) ≡ true
  pub length : length (load_bytes id manifest buffer used) ≡ length buffer
  pub rest : drop (load_used id manifest buffer used) (load_bytes id manifest buffer used) ≡ drop (load_used id manifest buffer used) buffer

-- what a buffer holds of which a load is accepted
was_held : (id manifest buffer : List ℕ) (used : ℕ) → load_number id manifest buffer used ≡ 0 → (xs : List Image) × (held buffer used ≡ Some xs)
unfolding load_number
was_held id manifest buffer used e = by_held (held buffer used) refl
  where
    by_held : (o : Option (List Image)) → held buffer used ≡ o → (xs : List Image) × (held buffer used ≡ Some xs)
    by_held None q = absurd (unread_refused (length buffer) id manifest (rw q at e))
    by_held (Some xs) q = (xs, q)

-- After an accepted load the store is well-formed, and holds the images of before and then the new one.
pub load_keeps : (id manifest buffer : List ℕ) (used : ℕ) → ((k : ℕ) → get_or buffer k 0 < 256) → load_number id manifest buffer used ≡ 0
    → LoadKeeps id manifest buffer used
unfolding well_formed is_broken
load_keeps id manifest buffer used b e =
    let x = image_of id manifest in
    let r = record_of x in
    let w = was_held id manifest buffer used e in
    let xs = w.0 in
    let h = w.1 in
    let k = load_accepted id manifest buffer used e xs h in
    let o = held_holds buffer used xs b h in
    let f = load_fits id manifest buffer used e xs h b in
    let n : length (load_bytes id manifest buffer used) ≡ length buffer = ap length (bytes_accepted id manifest buffer used e)
    ∙ appended_length buffer used r f in
    let a = load_holds id manifest buffer used xs b h e in
    record {
      images = xs;
      before = h;
      after = a;
      well = rw (a, n) (rw (next_sound (length buffer) xs id manifest o.each k));
      length = n;
      rest = rw (used_accepted id manifest buffer used e, bytes_accepted id manifest buffer used e) (appended_rest buffer used r f);
    }
