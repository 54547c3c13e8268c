-- One load on a buffer that holds what the ledger has: its number is the ledger's, and so is what the buffer holds after it. Assumes nothing.
use Rattle.std.specs.Prelude.{Some}
use Prim.Native.Nat.{ℕ, ◌+◌, ◌≤◌}
use mathlib.Core.Path.{◌≡◌, sym, ap, ◌∙◌}
use mathlib.Core.List.{List, [], ◌∷◌, ◌++◌}
use mathlib.Core.Bool.{false}
use native.Mathlib.Omega.{arith}
use borrow.Author.Tests.{eqb-true, eqb-false, eq-eqb, ne_eqb}
use lib.Dec.{eqb}
use lib.ListN.{length, drop, length-append}
use lib.Seq.{drop-drop}
use Rattle.laws.proofs.Order.{by_test}
use Rattle.store_record.specs.Image.{Image}
use Rattle.store_record.specs.Record.{record_of}
use Rattle.store_record.specs.Store.{none_shaped, shaped}
use Rattle.store_record.proofs.Stores.{shaped_both}
use Rattle.store_open.specs.Held.{held, are_unsound}
use Rattle.store.specs.Load.{image_of, load_number}
use Rattle.store_append.specs.Append.{appended}
use Rattle.store.proofs.Images.{shaped_image}
use Rattle.store.proofs.Accepting.{Accepted, accepted, store_last, next_sound}
use Rattle.store_open.proofs.Holding.{Holds, holds_held, used_is}
use Rattle.store.proofs.Loading.{appended_first, appended_rest, appended_length, load_refused, used_accepted, bytes_accepted}
use Rattle.history.specs.Calls.{Call, State, call_number, after}
use Rattle.history.specs.Ledger.{ledger_number, ledger_after}

-- the image that a call brings
abbrev pub image : Call → Image
image c = image_of c.id c.manifest

-- the images with that of a call at their end
abbrev pub with_image : List Image → Call → List Image
with_image xs c = xs ++ (image c ∷ [])

module _ (size : ℕ) (xs : List Image) (c : Call) where
  -- A call with the number 0 puts its image at the end of the ledger.
  pub ledger_accepted : ledger_number size xs c ≡ 0 → ledger_after size xs c ≡ with_image xs c
  unfolding ledger_after
  ledger_accepted e = rw (eq-eqb (ledger_number size xs c) 0 e, ledger_after)

  -- Any other call leaves the ledger.
  pub ledger_refused : (ledger_number size xs c ≡ 0 → ⊥) → ledger_after size xs c ≡ xs
  unfolding ledger_after
  ledger_refused e = rw (ne_eqb (ledger_number size xs c) 0 e, ledger_after)

-- a state with the record of a call's image put after the bytes in use
abbrev with_record : State → Call → State
with_record s c = record { buffer = appended s.buffer s.used (record_of (image c)); used = s.used + length (record_of (image c)) }

module _ (s : State) (c : Call) where
  after_accepted : call_number s c ≡ 0 → after s c ≡ with_record s c
  unfolding after call_number
  after_accepted e =
      rw (e, bytes_accepted c.id c.manifest s.buffer s.used e, used_accepted c.id c.manifest s.buffer s.used e)

  after_refused : (call_number s c ≡ 0 → ⊥) → after s c ≡ s
  unfolding after call_number
  after_refused e =
      rw (ne_eqb (load_number c.id c.manifest s.buffer s.used) 0 e, (load_refused c.id c.manifest s.buffer s.used e).1)

-- a state of a buffer that was lent: it holds these images, they make a sound store, and the bytes after it are those that were lent
pub record Stands (lent : List ℕ) (s : State) (xs : List Image) : Type 0 where
  pub holds : Holds s.buffer s.used xs
  pub sound : are_unsound (length lent) xs ≡ false
  pub size : length s.buffer ≡ length lent
  pub rest : drop s.used s.buffer ≡ drop s.used lent

module _ (lent : List ℕ) (s : State) (xs : List Image) (h : Stands lent s xs) where
  -- Such a buffer is read as these images.
  pub stands_held : held s.buffer s.used ≡ Some xs
  stands_held = holds_held s.buffer s.used xs h.holds

  module _ (c : Call) where
    -- A call's number is the ledger's.
    pub number_is : call_number s c ≡ ledger_number (length lent) xs c
    unfolding call_number ledger_number load_number
    number_is = rw (stands_held, h.size)

    -- Of a call with the number 0 all is known that this tells.
    pub call_accepted : call_number s c ≡ 0 → Accepted (length lent) xs c.id c.manifest
    unfolding ledger_number
    call_accepted e = accepted (length lent) xs c.id c.manifest (sym number_is ∙ e)

    space : call_number s c ≡ 0 → s.used + length (record_of (image c)) ≤ length s.buffer
    space e = omega (arith, (call_accepted e).fits, h.size, used_is s.buffer s.used xs h.holds, h.holds.within)

    stands_added : call_number s c ≡ 0 → Stands lent (with_record s c) (with_image xs c)
    stands_added e =
        let b = s.buffer in
        let u = s.used in
        let r = record_of (image c) in
        let k = call_accepted e in
        let f = space e in
        record {
          holds =
              record {
                within = omega (arith, appended_length b u r f);
                bytes = appended_first b u r f ∙ ap (λ (l : List ℕ). l ++ r) h.holds.bytes ∙ sym (store_last xs (image c));
                few = omega (arith, length-append xs (image c ∷ []), k.few);
                each = shaped_both h.holds.each (shaped (shaped_image c.id c.manifest k.known) none_shaped);
              };
          sound = next_sound (length lent) xs c.id c.manifest h.holds.each k;
          size = appended_length b u r f ∙ h.size;
          rest = appended_rest b u r f ∙ sym (drop-drop (length r) u b) ∙ ap (drop (length r)) h.rest ∙ drop-drop (length r) u lent;
        }

    -- After an accepted call the buffer holds the new image too.
    pub stands_accepted : call_number s c ≡ 0 → Stands lent (after s c) (with_image xs c)
    stands_accepted e = rw (after_accepted s c e) (stands_added e)

    -- After a refused call the buffer holds what it held.
    pub stands_refused : (call_number s c ≡ 0 → ⊥) → Stands lent (after s c) xs
    stands_refused e = rw (after_refused s c e) h

    -- After a call the buffer holds what the ledger has.
    pub stands_after : Stands lent (after s c) (ledger_after (length lent) xs c)
    stands_after =
        let n = call_number s c in
        by_test (eqb n 0)
        (λ t. let e = eqb-true n 0 t in rw (ledger_accepted (length lent) xs c (sym number_is ∙ e)) (stands_accepted e))
        (λ t. let e = eqb-false n 0 t in rw (ledger_refused (length lent) xs c (λ z. e (number_is ∙ z))) (stands_refused e))
