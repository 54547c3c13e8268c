-- Images by their places, who accepts whom as the table of marks has it, and chains of acceptance as chains of marks. Assumes nothing.
use Prim.Native.Nat.{ℕ, zero, suc, ◌<◌}
use mathlib.Core.Path.{◌≡◌, refl, sym, ap, subst, ◌∙◌}
use mathlib.Core.Logic.{◌↔◌, ◌⊎◌, inl, inr, ⊎_elim}
use mathlib.Core.Bool.{Bool, true, false}
use mathlib.Core.List.{List, [], ◌∷◌, map, Memᴰ as In}
use native.Mathlib.Omega.{arith}
use borrow.Author.Tests.{eq-eqb}
use lib.ListN.{length, get_or, length-map}
use Rattle.laws.specs.Any.{any_of, any_pair}
use Rattle.laws.proofs.Any.{or_none, in_any, any_in}
use Rattle.laws.proofs.Order.{false_true, same_refl}
use Rattle.reference_digests.specs.Algorithms.{byte_of}
use Rattle.reference.specs.References.{Rule}
use Rattle.reference.specs.Matches.{matches}
use Rattle.manifest.specs.Manifest.{rules, self_names}
use Rattle.manifest.proofs.Accepting.{accepts_any}
use Rattle.store_record.specs.Image.{Image}
use Rattle.store_record.specs.Ids.{same_id, has_id, share_id, id_twice}
use Rattle.store_record.specs.Record.{Shaped}
use Rattle.store_record.specs.Store.{AllShaped, none_shaped, shaped}
use Rattle.policy_marks.specs.Marks.{mark}
use Rattle.policy_marks.proofs.Closing.{Leads, one, more}
use Rattle.policy.specs.Chain.{Accepts, by_rule, Chain, alone, onward, At, first, later}
use Rattle.policy_rows.specs.Accepting.{accepts_image, is_guard, guards, marks}

module _ {A : Type 0} where
  -- What stands at a place of a list stands in it.
  pub at_in : {xs : List A} {k : ℕ} {a : A} → At xs k a → In a xs
  at_in first = In.head refl
  at_in (later h) = In.tail (at_in h)

  -- What stands in a list stands at a place of it.
  pub in_at : {a : A} {xs : List A} → In a xs → (k : ℕ) × At xs k a
  in_at (In.head {x = x} {xs = xs} e) = (zero, subst (λ (y : A). At (x ∷ xs) zero y) (sym e) first)
  in_at (In.tail m) = let p = in_at m in (suc p.0, later p.1)

  -- A place at which something stands is below the length.
  pub at_below : {xs : List A} {k : ℕ} {a : A} → At xs k a → k < length xs
  at_below first = omega arith
  at_below (later h) = let l = at_below h in omega arith

  -- At each place below the length something stands.
  pub below_at : (xs : List A) (k : ℕ) → k < length xs → (a : A) × At xs k a
  below_at [] k h = absurd (omega arith)
  below_at (x ∷ xs) zero h = (x, first)
  below_at (x ∷ xs) (suc k) h = let p = below_at xs k (omega arith) in (p.0, later p.1)

  -- At one place one thing stands.
  pub at_one : {xs : List A} {k : ℕ} {a b : A} → At xs k a → At xs k b → a ≡ b
  at_one first first = refl
  at_one (later h) (later g) = at_one h g

  -- What stands at a place is the element of that index, whatever the default.
  pub at_get : {xs : List A} {k : ℕ} {a : A} → At xs k a → (d : A) → get_or xs k d ≡ a
  at_get first d = refl
  at_get (later h) d = at_get h d

-- What a list is mapped to stands at the same place.
pub at_map : {A B : Type 0} (f : A → B) {xs : List A} {k : ℕ} {a : A} → At xs k a → At (map f xs) k (f a)
at_map f first = first
at_map f (later h) = later (at_map f h)

module _ (a b : Image) where
  by_image : accepts_image a b ≡ true → Accepts a b
  unfolding accepts_image
  by_image e =
      let i = any_in _ b.ids e in
      let r = any_in _ (rules a.text) (sym (accepts_any a.text i.0 b.text) ∙ i.2) in
      by_rule r.0 i.0 r.1 i.1 r.2

  to_image : Accepts a b → accepts_image a b ≡ true
  unfolding accepts_image
  to_image (by_rule r i m n e) =
      in_any _ n (accepts_any a.text i b.text ∙ in_any (λ (s : Rule). matches s i (self_names b.text)) m e)

  -- One image is computed to accept the other exactly if it accepts it.
  pub accepts_image_iff : (accepts_image a b ≡ true) ↔ Accepts a b
  accepts_image_iff = (by_image, to_image)

module _ {xs : List Image} {i : ℕ} {a : Image} (h : At xs i a) where
  -- The table has a mark for two places exactly if the image at the first accepts the image at the second.
  pub mark_at : {j : ℕ} {b : Image} → At xs j b → mark (marks xs) i j ≡ accepts_image a b
  unfolding mark marks
  mark_at {j} g = ap (λ (row : List Bool). get_or row j false) (at_get (at_map _ h) []) ∙ at_get (at_map (accepts_image a) g) false

  -- The guards are marked at their places.
  pub guard_at : get_or (guards xs) i false ≡ is_guard a
  unfolding guards
  guard_at = at_get (at_map is_guard h) false

-- There is a mark for each image, whether it is a guard.
pub guards_length : (xs : List Image) → length (guards xs) ≡ length xs
unfolding guards
guards_length xs = length-map xs is_guard

-- There is a row for each image.
pub marks_length : (xs : List Image) → length (marks xs) ≡ length xs
unfolding marks
marks_length xs = length-map xs _

row_below : (t : List (List Bool)) (i j : ℕ) → mark t i j ≡ true → i < length t
unfolding mark
row_below [] i j e = false_true e
row_below (r ∷ t) zero j e = omega arith
row_below (r ∷ t) (suc i) j e = let l = row_below t i j e in omega arith

true_below : (bs : List Bool) (j : ℕ) → get_or bs j false ≡ true → j < length bs
true_below [] j e = false_true e
true_below (b ∷ bs) zero e = omega arith
true_below (b ∷ bs) (suc j) e = let l = true_below bs j e in omega arith

-- Marks stand at places of images only.
pub mark_below : (xs : List Image) (i j : ℕ) → mark (marks xs) i j ≡ true → (i < length xs) × (j < length xs)
unfolding mark marks
mark_below xs i j e =
    let l : i < length xs = omega (arith, row_below (marks xs) i j e, marks_length xs) in
    let p = below_at xs i l in
    let f = ap (λ (row : List Bool). get_or row j false) (at_get (at_map (λ (x : Image). map (accepts_image x) xs) p.1) []) in
    (l, omega (arith, true_below (map (accepts_image p.0) xs) j (sym f ∙ e), length-map xs (accepts_image p.0)))

-- an image as a record holds it has an ID, which it shares with itself
shares_itself : {x : Image} → Shaped x → share_id x x ≡ true
unfolding share_id has_id same_id any_of
shares_itself s =
    rw s.ids (rw (eq-eqb (byte_of s.algorithm) (byte_of s.algorithm) refl, same_refl s.signer, same_refl s.manifest))

once_first : (x : Image) (xs : List Image) → id_twice (x ∷ xs) ≡ false → (any_of (share_id x) xs ≡ false) × (id_twice xs ≡ false)
unfolding id_twice any_pair
once_first x xs e = or_none (any_of (share_id x) xs) (any_pair share_id xs) e

not_later : {x : Image} {xs : List Image} → Shaped x → id_twice (x ∷ xs) ≡ false → In x xs → ⊥
not_later {x} {xs} s e m = false_true (sym (once_first x xs e).0 ∙ in_any (share_id x) m (shares_itself s))

distinct_by :
    {xs : List Image} → AllShaped xs → id_twice xs ≡ false → {i j : ℕ} {a b : Image} → At xs i a → At xs j b → a ≡ b → i ≡ j
distinct_by (shaped s t) e first first q = refl
distinct_by none_shaped e h g q = elim h [ ]
distinct_by (shaped {xs = xs} s t) e first (later g) q = absurd (not_later s e (subst (λ (y : Image). In y xs) (sym q) (at_in g)))
distinct_by (shaped {xs = xs} s t) e (later h) first q = absurd (not_later s e (subst (λ (y : Image). In y xs) q (at_in h)))
distinct_by (shaped {x = x} {xs = xs} s t) e (later h) (later g) q = ap suc (distinct_by t (once_first x xs e).1 h g q)

-- Where no ID stands in two images, an image stands at one place.
pub distinct : {xs : List Image} → AllShaped xs → id_twice xs ≡ false → {i j : ℕ} {a : Image} → At xs i a → At xs j a → i ≡ j
distinct s e h g = distinct_by s e h g refl

-- What a chain leads from is loaded.
pub chain_start : {xs : List Image} {a b : Image} → Chain xs a b → In a xs
chain_start (alone a m) = m
chain_start (onward a b c m e l) = m

module _ (xs : List Image) where
  -- A chain of marks is a chain of images.
  pub leads_chain : {i j : ℕ} → Leads (marks xs) i j → {a b : Image} → At xs i a → At xs j b → Chain xs a b
  leads_chain (one e) {a} {b} h g =
      onward a b b (at_in h) ((accepts_image_iff a b).0 (sym (mark_at h g) ∙ e)) (alone b (at_in g))
  leads_chain (more {i = i} {k = k} e l) {a} {b} h g =
      let p = below_at xs k (mark_below xs i k e).1 in
      onward a p.0 b (at_in h) ((accepts_image_iff a p.0).0 (sym (mark_at h p.1) ∙ e)) (leads_chain l p.1 g)

  module _ (s : AllShaped xs) (d : id_twice xs ≡ false) where
    -- A chain of images is a chain of marks, or leads from an image to itself.
    pub chain_leads : {a b : Image} → Chain xs a b → {i j : ℕ} → At xs i a → At xs j b → (i ≡ j) ⊎ Leads (marks xs) i j
    chain_leads (alone a m) h g = inl (distinct s d h g)
    chain_leads (onward a b c m e l) {i} {j} h g =
        let p = in_at (chain_start l) in
        let f : mark (marks xs) i p.0 ≡ true = mark_at h p.1 ∙ (accepts_image_iff a b).1 e in
        inr
        (⊎_elim
        (λ (q : p.0 ≡ j). one (subst (λ (k : ℕ). mark (marks xs) i k ≡ true) q f))
        (λ (r : Leads (marks xs) p.0 j). more f r)
        (chain_leads l p.1 g))
