-- The accepted calls of a list, in any order: all are accepted, and the ledger has the same images. Assumes nothing.
use Prim.Native.Nat.{ℕ}
use mathlib.Core.Path.{◌≡◌, refl, sym, subst, ◌∙◌}
use mathlib.Core.Logic.{⊎_elim}
use mathlib.Core.List.Memᴰ
use mathlib.Core.List.Permᴰ
use mathlib.Core.List.{List, [], ◌∷◌, ◌++◌, map, append_assoc, append-nil, Permᴰ as Permutation, Memᴰ as In}
use mathlib.Core.Bool.{false}
use borrow.Author.Tests.{eqb-true, eqb-false}
use lib.Dec.{eqb}
use lib.ListN.{length}
use Rattle.laws.proofs.Order.{by_test}
use Rattle.laws.proofs.Permutations.{same_elements}
use Rattle.store_record.specs.Image.{Image}
use Rattle.store_record.specs.Store.{AllShaped, none_shaped, shaped}
use Rattle.store_record.proofs.Stores.{shaped_both}
use Rattle.store_open.specs.Held.{are_unsound}
use Rattle.store.proofs.Images.{shaped_image}
use Rattle.policy.proofs.Reordering.{unsound_permuted}
use Rattle.history.specs.Calls.{Call, State, call_number, after, start, accepted_from, accepted}
use Rattle.history.specs.Ledger.{ledger_number, ledger_after, ledger_from, ledger, ledger_numbers_from, ledger_numbers}
use Rattle.history.specs.Demand3.{AllAccepted}
use Rattle.history.proofs.Stepping.{image, with_image, ledger_accepted, ledger_refused, Stands, number_is, call_accepted, stands_accepted, stands_refused}
use Rattle.history.proofs.Keeping.{stands_start, stands_run, numbers_are}
use Rattle.history.proofs.Accepting.{sound_first, Good, number_good}

-- all calls are good
abbrev AllGood : List Call → Type 0
AllGood cs = (c : Call) → In c cs → Good c

-- the images with those of some calls at their end
abbrev with_images : List Image → List Call → List Image
with_images xs cs = xs ++ map image cs

with_more : (xs : List Image) (c : Call) (cs : List Call) → with_images xs (c ∷ cs) ≡ with_images (with_image xs c) cs
with_more xs c cs = sym (append_assoc xs (image c ∷ []) (map image cs))

-- what the ledger does with calls that are all accepted
record Accepts (size : ℕ) (xs : List Image) (cs : List Call) : Type 0 where
  numbers : ledger_numbers_from size xs cs ≡ map (λ (c : Call). 0) cs
  images : ledger_from size xs cs ≡ with_images xs cs

-- good calls whose images make a sound store with those before them are all accepted
all_good : (size : ℕ) (xs : List Image) (cs : List Call) → AllGood cs → AllShaped xs → are_unsound size (with_images xs cs) ≡ false
    → Accepts size xs cs
unfolding ledger_numbers_from ledger_from
all_good size xs [] g h e = record { numbers = refl; images = sym (append-nil xs) }
all_good size xs (c ∷ cs) g h e =
    let n = number_good size xs c (g c (In.head refl)) h (sound_first size (with_image xs c) (map image cs) (rw (with_more xs c cs) at e)) in
    let f = ledger_accepted size xs c n in
    let k = shaped_image c.id c.manifest (g c (In.head refl)).known in
    let r =
    all_good size (with_image xs c) cs (λ d i. g d (In.tail i)) (shaped_both h (shaped k none_shaped)) (rw (with_more xs c cs) at e)
    in
    let m : ledger_numbers_from size (ledger_after size xs c) cs ≡ map (λ (d : Call). 0) cs = rw f r.numbers in
    record {
      numbers = λ i. n i ∷ m i;
      images = rw f r.images ∙ sym (with_more xs c cs);
    }

-- what the ledger has of the calls that are accepted
record Keeps (size : ℕ) (xs : List Image) (cs taken : List Call) : Type 0 where
  images : ledger_from size xs cs ≡ with_images xs taken
  good : AllGood taken

keeps_more : (size : ℕ) (xs : List Image) (c : Call) (cs taken : List Call) → ledger_number size xs c ≡ 0 → Good c → Keeps size (with_image xs c) cs taken
    → Keeps size xs (c ∷ cs) (c ∷ taken)
unfolding ledger_from
keeps_more size xs c cs taken e g k =
    record {
      images = rw (ledger_accepted size xs c e) k.images ∙ sym (with_more xs c taken);
      good = λ d i. ⊎_elim (λ (f : d ≡ c). subst Good (sym f) g) (k.good d) (Memᴰ.cases_cons i);
    }

keeps_on : (size : ℕ) (xs : List Image) (c : Call) (cs taken : List Call) → (ledger_number size xs c ≡ 0 → ⊥) → Keeps size xs cs taken
    → Keeps size xs (c ∷ cs) taken
unfolding ledger_from
keeps_on size xs c cs taken e k = record { images = rw (ledger_refused size xs c e) k.images; good = k.good }

keeps_from : (lent : List ℕ) (s : State) (xs : List Image) → Stands lent s xs → (cs : List Call) → Keeps (length lent) xs cs (accepted_from s cs)
unfolding accepted_from ledger_from
keeps_from lent s xs h [] = record { images = sym (append-nil xs); good = λ c i. absurd (Memᴰ.not-nil i) }
keeps_from lent s xs h (c ∷ cs) =
    let n = call_number s c in
    by_test (eqb n 0)
    (λ t. let e = eqb-true n 0 t in
    let a = call_accepted lent s xs h c e in
    rw (t, accepted_from)
    (keeps_more (length lent) xs c cs (accepted_from (after s c) cs) (sym (number_is lent s xs h c) ∙ e) (record { manifest = a.good; known = a.known })
    (keeps_from lent (after s c) (with_image xs c) (stands_accepted lent s xs h c e) cs)))
    (λ t. let e = eqb-false n 0 t in
    rw (t, accepted_from)
    (keeps_on (length lent) xs c cs (accepted_from (after s c) cs) (λ z. e (number_is lent s xs h c ∙ z))
    (keeps_from lent (after s c) xs (stands_refused lent s xs h c e) cs)))

-- the accepted calls of a list in another order, in another buffer of the same length
module _ (lent : List ℕ) (calls : List Call) (other : List ℕ) (reordered : List Call) (e : length other ≡ length lent)
    (q : Permutation (accepted lent calls) reordered) where
  kept : Keeps (length lent) [] calls (accepted lent calls)
  unfolding accepted
  kept = keeps_from lent (start lent) [] (stands_start lent) calls

  ledger_is : ledger (length lent) calls ≡ map image (accepted lent calls)
  unfolding ledger
  ledger_is = kept.images

  permuted : Permutation (ledger (length lent) calls) (map image reordered)
  permuted = rw ledger_is (Permᴰ.map image q)

  takes : Accepts (length other) [] reordered
  takes =
      let h = stands_run lent calls in
      all_good (length other) [] reordered
      (λ c i. kept.good c ((same_elements c q).1 i))
      none_shaped
      (rw e (sym (unsound_permuted (length lent) h.holds.each permuted) ∙ h.sound))

  -- They are all accepted.
  pub reordered_accepted : AllAccepted other reordered
  unfolding ledger_numbers
  reordered_accepted = numbers_are other reordered ∙ takes.numbers

  -- The ledger has the same images.
  pub reordered_images : Permutation (ledger (length lent) calls) (ledger (length other) reordered)
  unfolding ledger
  reordered_images = rw takes.images permuted
