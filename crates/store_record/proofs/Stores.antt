-- Laws of stores: what is written is read back, and nothing else is read.
use Rattle.std.specs.Prelude.{Option, None, Some}
use Prim.Native.Nat.{ℕ, zero, suc, ◌+◌, ◌≤◌, ◌<◌}
use mathlib.Core.Path.{◌≡◌, refl, sym, ap, ◌∙◌}
use mathlib.Core.List.{List, [], ◌∷◌, ◌++◌, append_assoc}
use native.Mathlib.Omega.{arith}
use lib.ListN.{length, get_or, length-append}
use lib.Seq.{get_or-append-add}
use Rattle.store_record.specs.Image.{Image}
use Rattle.store_record.specs.Record.{record_of, Shaped, Begins, image, no_image, read_record}
use Rattle.store_record.specs.Store.{store_of, AllShaped, none_shaped, shaped, and_then, continued, read_records}
use Rattle.store_record.proofs.Records.{record_read_back, record_read, record_positive}

-- No bytes are no records.
pub records_end : (k : ℕ) → read_records k [] ≡ Some []
unfolding read_records
records_end zero = refl
records_end (suc k) = refl

-- Where no record is allowed any more, none fills some bytes.
pub records_full : (s : List ℕ) → 0 < length s → read_records 0 s ≡ None
unfolding read_records
records_full [] h = absurd (omega arith)
records_full (b ∷ s) h = refl

-- Some bytes are a record and those that follow it.
pub records_more : (k : ℕ) (s : List ℕ) → 0 < length s → read_records (suc k) s ≡ continued (λ r. read_records k r) (read_record s)
unfolding read_records
records_more k [] h = absurd (omega arith)
records_more k (b ∷ s) h = refl

-- What is written is read back.
pub read_store : (k : ℕ) (xs : List Image) → AllShaped xs → length xs ≤ k → read_records k (store_of xs) ≡ Some xs
unfolding store_of continued and_then
read_store k [] h l = records_end k
read_store zero (x ∷ xs) h l = absurd (omega arith)
read_store (suc k) (x ∷ xs) (shaped s h) l =
    records_more k (record_of x ++ store_of xs) (omega (arith, length-append (record_of x) (store_of xs), record_positive x))
    ∙ ap (continued (λ r. read_records k r)) (record_read_back x s (store_of xs)) ∙ ap (and_then x) (read_store k xs h (omega arith))

-- what the bytes are that some images are read from
abbrev Told : ℕ → List ℕ → List Image → Type 0
Told k s xs = (s ≡ store_of xs) × (length xs ≤ k) × AllShaped xs

told_none : (k : ℕ) (xs : List Image) → Some [] ≡ Some xs → Told k [] xs
unfolding store_of
told_none k [] e = (refl, omega arith, none_shaped)
told_none k (x ∷ xs) e = let f : [] ≡ x ∷ xs = cc in let z : ◌≡◌ {A = ℕ} 0 1 = cc in absurd (omega arith)

told_more : (k : ℕ) (s : List ℕ) (xs : List Image) (x : Image) (r : List ℕ) → ((j : ℕ) → get_or s j 0 < 256) → read_record s ≡ image x r
    → ((ys : List Image) → ((j : ℕ) → get_or r j 0 < 256) → read_records k r ≡ Some ys → Told k r ys) → and_then x (read_records k r) ≡ Some xs
    → Told (suc k) s xs
unfolding and_then store_of
told_more k s xs x r h e ih f = by_rest (read_records k r) refl f
  where
    first : (s ≡ record_of x ++ r) × Shaped x
    first = record_read s x r h e

    bytes : (j : ℕ) → get_or r j 0 < 256
    bytes j =
        let q : get_or s (length (record_of x) + j) 0 ≡ get_or r j 0 =
        ap (λ (l : List ℕ). get_or l (length (record_of x) + j) 0) first.0 ∙ get_or-append-add (record_of x) r j 0
        in
        omega (arith, h (length (record_of x) + j))

    by_rest : (o : Option (List Image)) → read_records k r ≡ o → and_then x o ≡ Some xs → Told (suc k) s xs
    by_rest None q g = let z : ◌≡◌ {A = ℕ} 0 1 = cc in absurd (omega arith)
    by_rest (Some ys) q g =
        let t = ih ys bytes q in
        let d : x ∷ ys ≡ xs = cc in
        rw (← d) (first.0 ∙ ap (λ (l : List ℕ). record_of x ++ l) t.0, omega (arith, t.1), shaped first.1 t.2)

told_full : (s : List ℕ) (xs : List Image) → read_records 0 s ≡ Some xs → Told 0 s xs
told_full [] xs e = told_none 0 xs (sym (records_end 0) ∙ e)
told_full (b ∷ s) xs e =
    let f : None ≡ Some xs = sym (records_full (b ∷ s) (omega arith)) ∙ e in
    let z : ◌≡◌ {A = ℕ} 0 1 = cc in absurd (omega arith)

told_step : (k : ℕ) (s : List ℕ) (xs : List Image) → ((j : ℕ) → get_or s j 0 < 256) → read_records (suc k) s ≡ Some xs
    → ((r : List ℕ) (ys : List Image) → ((j : ℕ) → get_or r j 0 < 256) → read_records k r ≡ Some ys → Told k r ys) → Told (suc k) s xs
unfolding continued
told_step k [] xs h e ih = told_none (suc k) xs (sym (records_end (suc k)) ∙ e)
told_step k (b ∷ s) xs h e ih = by_first (read_record (b ∷ s)) refl
  where
    by_first : (p : Begins) → read_record (b ∷ s) ≡ p → Told (suc k) (b ∷ s) xs
    by_first no_image q =
        let f : None ≡ Some xs = sym (ap (continued (λ r. read_records k r)) q) ∙ sym (records_more k (b ∷ s) (omega arith)) ∙ e in
        let z : ◌≡◌ {A = ℕ} 0 1 = cc in absurd (omega arith)
    by_first (image x r) q =
        told_more k (b ∷ s) xs x r h q (ih r)
        (sym (ap (continued (λ r. read_records k r)) q) ∙ sym (records_more k (b ∷ s) (omega arith)) ∙ e)

-- Nothing else is read: the bytes are the store of the images.
pub store_read : (k : ℕ) (s : List ℕ) (xs : List Image) → ((j : ℕ) → get_or s j 0 < 256) → read_records k s ≡ Some xs
    → (s ≡ store_of xs) × (length xs ≤ k) × AllShaped xs
store_read zero s xs h e = told_full s xs e
store_read (suc k) s xs h e = told_step k s xs h e (store_read k)

-- The store of two runs of images is one store after the other.
pub store_both : (xs ys : List Image) → store_of (xs ++ ys) ≡ store_of xs ++ store_of ys
unfolding store_of
store_both [] ys = refl
store_both (x ∷ xs) ys = rw (store_both xs ys) (sym (append_assoc (record_of x) (store_of xs) (store_of ys)))

-- Two runs of images that are as records hold them are one such run.
pub shaped_both : {xs ys : List Image} → AllShaped xs → AllShaped ys → AllShaped (xs ++ ys)
shaped_both none_shaped k = k
shaped_both (shaped s h) k = shaped s (shaped_both h k)
