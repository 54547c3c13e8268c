-- The steps of a load: which question answers, and what a refusal and an accepted load leave. Assumes nothing.
use Rattle.std.specs.Prelude.{Option, None, Some}
use Prim.Native.Nat.{ℕ, ◌+◌, ◌-◌, ◌≤◌, ◌<◌}
use mathlib.Core.Path.{◌≡◌, refl, sym, ap, subst, ◌∙◌}
use mathlib.Core.List.{List, ◌++◌}
use mathlib.Core.Bool.{true, false}
use native.Mathlib.Omega.{arith}
use borrow.Author.Tests.{lt-leb, ne_eqb, leb-false, ltb-false}
use lib.Dec.{eqb}
use lib.ListN.{length, take, get_or}
use lib.Seq.{take_at, length-take-le}
use Rattle.laws.specs.Any.{any_of}
use Rattle.laws.proofs.Any.{or_none}
use Rattle.laws.proofs.Order.{false_true}
use Rattle.text.specs.Answer.{form}
use Rattle.text.specs.Question.{lowest}
use Rattle.text.proofs.Outcome.{refused_positive}
use Rattle.reference_digests.specs.Algorithms.{digest_bytes}
use Rattle.reference_digests.specs.Digests.{is_digest, digest_of}
use Rattle.reference_digests.specs.declared.algorithm.Algorithm.{Algorithm}
use Rattle.reference_digests.proofs.Digests.{digest_length}
use Rattle.reference.specs.References.{image_id, no_id, image_id_of}
use Rattle.manifest.specs.Answer.{fault_number}
use Rattle.manifest.specs.Number.{manifest_text_number}
use Rattle.manifest.specs.declared.Fault.{Fault}
use Rattle.manifest.specs.declared.Fault.TheVariants.{Text, BadField, BadForm, RepeatedAlias}
use Rattle.manifest.proofs.Asking.{asked_first, asked_next, none_asked, asked_after, asked_of_manifest}
use Rattle.store_record.specs.Image.{Image}
use Rattle.store_record.specs.Ids.{share_id}
use Rattle.store_record.specs.Record.{record_of}
use Rattle.store_record.specs.Store.{most_images, store_of, read_records}
use Rattle.store_record.proofs.Stores.{store_read}
use Rattle.store_keys.specs.Clash.{clash}
use Rattle.store_conflict.specs.Lent.{ClashSpace}
use Rattle.store_open.proofs.Holding.{first_bytes, held_in_use}
use Rattle.store_open.specs.Held.{held, are_unsound, is_broken, among}
use Rattle.store.specs.Load.{image_of, is_no_id, no_space, store_questions, image_questions, load_questions, load_number, used_after, bytes_after, load_used}
use Rattle.store.specs.Load.{load_bytes}
use Rattle.store.specs.Loading.{NameArrays, Loads}
use Rattle.store_append.specs.Append.{image_with, Fits}
use Rattle.answer.specs.declared.Answer.{Answer}

module _ {x : Image} {buffer : List ℕ} {used : ℕ} {r : Answer} {after : List ℕ} {m n : ℕ} where
  -- A refusal tells its number and 0, and leaves the buffer.
  pub refused_loads : m ≡ n → (m ≡ 0 → ⊥) → (r.number ≡ m) × (r.value ≡ 0) → after ≡ buffer → Loads n x buffer used r after
  unfolding used_after bytes_after
  refused_loads e h k f =
      let q : eqb n 0 ≡ false = ne_eqb n 0 (λ z. h (e ∙ z)) in
      record { number = k.0 ∙ e; new_used = rw (q, used_after) k.1; bytes = rw (q, bytes_after) f }

  -- An answer's number may be told in another way.
  pub loads_as : m ≡ n → Loads m x buffer used r after → Loads n x buffer used r after
  loads_as e l = subst (λ (k : ℕ). Loads k x buffer used r after) e l

-- The arrays that a load lends serve for the names of a manifest of that size, with one for their heads and one for their keys.
pub clash_space : {size : ℕ} {names spare heads keys : List ℕ} → NameArrays names spare → length heads ≡ 4096 → size ≤ length keys
    → ClashSpace size names spare heads keys
clash_space a h k =
    record {
      names = record { space = omega (arith, a.names_size); sorting = omega (arith, a.names_size, a.spare_size) };
      heads_space = omega (arith, a.names_size, h);
      keys_space = k;
    }

module _ (size : ℕ) (x : Image) where
  -- Where nothing can be read, a question of the store applies.
  pub unread_asked : lowest (store_questions size None x) ≡ 0 → ⊥
  unfolding store_questions is_broken
  unread_asked e = false_true (sym (none_asked _ _ (omega arith) e).0)

  -- Where no question of the store applies, it is sound, the image is new and clashes with none, and there is space for it.
  pub none_of_store : (xs : List Image) → lowest (store_questions size (Some xs) x) ≡ 0
      → (are_unsound size xs ≡ false) × (any_of (share_id x) xs ≡ false) × (any_of (clash x) xs ≡ false) × (length xs < 64)
      × (length (record_of x) ≤ size - length (store_of xs))
  unfolding store_questions is_broken among no_space
  none_of_store xs e =
      let a = none_asked _ _ (omega arith) e in
      let b = none_asked _ _ (omega arith) a.1 in
      let c = none_asked _ _ (omega arith) b.1 in
      let s = or_none _ _ (none_asked _ _ (omega arith) c.1).0 in
      (a.0, b.0, c.0, leb-false most_images (length xs) s.0, ltb-false (size - length (store_of xs)) (length (record_of x)) s.1)

module _ (x : Image) (buffer : List ℕ) (used : ℕ) where
  -- Nothing is held where more bytes are in use than there are.
  pub past_number : length buffer < used → lowest (store_questions (length buffer) (held buffer used) x) ≡ 11
  unfolding store_questions held is_broken
  past_number h = asked_first _ _ (rw (lt-leb used (length buffer) h, held))

  module _ (h : used ≤ length buffer) where
    -- Questions of the bytes in use, with those that are left, are questions of the buffer.
    pub number_within : (left : ℕ) → left ≡ length buffer - used
        → lowest (store_questions (length (take used buffer) + left) (read_records most_images (take used buffer)) x)
        ≡ lowest (store_questions (length buffer) (held buffer used) x)
    number_within left l =
        let e : length (take used buffer) + left ≡ length buffer = omega (arith, length-take-le used buffer h) in
        rw (e, held_in_use buffer used h)

    module _ (b : (k : ℕ) → get_or buffer k 0 < 256) (e : lowest (store_questions (length buffer) (held buffer used) x) ≡ 0) where
      space : (o : Option (List Image)) → read_records most_images (take used buffer) ≡ o → lowest (store_questions (length buffer) o x) ≡ 0
          → length (record_of x) ≤ length buffer - used
      space None q z = absurd (unread_asked (length buffer) x z)
      space (Some xs) q z =
          let t = ap length (store_read most_images (take used buffer) xs (first_bytes buffer used b) q).0 in
          omega (arith, length-take-le used buffer h, (none_of_store (length buffer) x xs z).4)

      -- Where no question applies, there is space for the record.
      pub fits : Fits x buffer used
      fits = record { within = h; space = space (read_records most_images (take used buffer)) refl (rw (held_in_use buffer used h) at e) }

-- an ID, as its form was read
module _ (size : ℕ) (images : Option (List Image)) (id text : List ℕ) where
  -- Question 10 answers where it is of bad form,
  pub bad_id : image_id_of id ≡ no_id → lowest (image_questions size images id text) ≡ 10
  unfolding image_questions is_no_id
  bad_id e = asked_first _ _ (rw e)

  module _ (own : form text ≡ text) (a : Algorithm) (signer digest : List ℕ) (e : image_id_of id ≡ image_id a signer digest) where
    image_is : image_of id text ≡ image_with a signer digest text
    unfolding image_of
    image_is = rw (e, own)

    -- and is passed over where it is not.
    good_id : lowest (image_questions size images id text) ≡ lowest (store_questions size images (image_with a signer digest text))
    unfolding image_questions is_no_id
    good_id = asked_next _ _ (rw e) ∙ ap (λ (x : Image). lowest (store_questions size images x)) image_is

    -- Where the ID is of good form, what answers questions 11 to 14 of its image answers questions 10 to 14.
    pub image_loads : {buffer : List ℕ} {used : ℕ} {r : Answer} {after : List ℕ}
        → Loads (lowest (store_questions size images (image_with a signer digest text))) (image_with a signer digest text) buffer used r after
        → Loads (lowest (image_questions size images id text)) (image_of id text) buffer used r after
    image_loads l = rw (good_id, image_is) l

-- a digest at the start of an array is its first bytes
first_digest : (a : Algorithm) (s rest out : List ℕ) (n : ℕ) → n ≡ digest_bytes a → is_digest a s ≡ true → out ≡ digest_of s ++ rest → take n out ≡ digest_of s
first_digest a s rest out n e d w = rw w (take_at (digest_of s) rest n (digest_length a s d ∙ sym e))

-- An ID is known by the bytes of its digests, each at the start of an array.
pub written_id : (id : List ℕ) (a : Algorithm) (s m p q out last : List ℕ) (n : ℕ) → n ≡ digest_bytes a → is_digest a s ≡ true → is_digest a m ≡ true
    → image_id_of id ≡ image_id a (digest_of s) (digest_of m) → out ≡ digest_of s ++ p → last ≡ digest_of m ++ q
    → image_id_of id ≡ image_id a (take n out) (take n last)
written_id id a s m p q out last n e d f i v w = rw (first_digest a s p out n e d v, first_digest a m q last n e f w) i

fault_positive : (f : Fault) → 0 < fault_number f
fault_positive (Text f) = refused_positive f (fault_number (Text f)) refl
fault_positive BadField = omega arith
fault_positive BadForm = omega arith
fault_positive RepeatedAlias = omega arith

module _ (id manifest buffer : List ℕ) (used : ℕ) where
  -- The number of a manifest that is refused is the load's,
  pub refused_number : (manifest_text_number manifest ≡ 0 → ⊥) → manifest_text_number manifest ≡ load_number id manifest buffer used
  unfolding load_number load_questions
  refused_number e = sym (asked_of_manifest manifest _ e)

  -- and so is that of its fault.
  pub fault_number_is : (f : Fault) → fault_number f ≡ manifest_text_number manifest
      → (fault_number f ≡ load_number id manifest buffer used) × (fault_number f ≡ 0 → ⊥)
  fault_number_is f e =
      let h = fault_positive f in
      (e ∙ refused_number (λ z. omega arith), λ z. omega arith)

  -- Of a good manifest the questions after its own answer.
  pub good_number : manifest_text_number manifest ≡ 0
      → lowest (image_questions (length buffer) (held buffer used) id manifest) ≡ load_number id manifest buffer used
  unfolding load_number load_questions
  good_number e = sym (asked_after manifest _ e)

  -- What a load with that number answers.
  pub load_answers : {r : Answer} {after : List ℕ} {n : ℕ} → n ≡ load_number id manifest buffer used → Loads n (image_of id manifest) buffer used r after
      → (r.number ≡ load_number id manifest buffer used)
      × ((r.value ≡ load_used id manifest buffer used) × (after ≡ load_bytes id manifest buffer used))
  unfolding load_used load_bytes
  load_answers e l = let k = loads_as e l in (k.number, (k.new_used, k.bytes))
