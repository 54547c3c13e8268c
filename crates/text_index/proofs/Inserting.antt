-- A string is put into an index at the place that was found for it. Assumes nothing.
use Prim.Native.Nat.{ℕ, suc, ◌+◌, ◌-◌, ◌<◌, ◌≤◌}
use mathlib.Core.Path.{◌≡◌, refl, sym, ap, ap₂, subst, ◌∙◌}
use mathlib.Core.List.{List, ◌∷◌, ◌++◌, append_assoc}
use mathlib.Core.Bool.{false}
use native.Mathlib.Omega.{arith}
use native.Mathlib.Numerals.{add-one}
use lib.ListN.{length, get_or, take, drop, set, length-append, length-set, length-drop}
use lib.Seq.{length-take-le, take_at, take-take, take-add, take-set-le, drop_at, drop-cons, drop-set-lt, set_split, get_or-take, get_or-set_same}
use Rattle.laws.specs.Sort.{insert, sort}
use Rattle.laws.proofs.Inserting.{insert_at, insert_each}
use Rattle.text_index.specs.Index.{entry_text, entry_le, Entry, Index, Before, Moved}
use Rattle.text_index.proofs.Searching.{before_false, after_false}

-- At first nothing is moved.
pub moved_none : (xs : List ℕ) (n : ℕ) → n < length xs → Moved xs n n xs
moved_none xs n h = record { length_kept = refl; first = refl; moved = ap (λ (k : ℕ). take k (drop n xs) ++ drop (n + 1) xs) nothing }
  where
    nothing : 0 ≡ n - n
    nothing = omega arith

-- the element at place j is moved
moved_step : (xs : List ℕ) (j n : ℕ) (ys : List ℕ) → j < n → n < length xs → Moved xs (j + 1) n ys → Moved xs j n (set ys (j + 1) (get_or ys j 0))
moved_step xs j n ys l h m =
    record {
      length_kept = length-set ys (j + 1) (get_or ys j 0) ∙ m.length_kept;
      first = take-set-le (j + 1) ys (j + 1) (get_or ys j 0) (omega arith) ∙ front;
      moved = written ∙ ap₂ (λ (x : ℕ) (q : List ℕ). x ∷ q) same_there m.moved ∙ sym whole;
    }
  where
    front : take (j + 1) ys ≡ take (j + 1) xs
    front = sym (take-take (j + 1) (j + 1 + 1) ys (omega arith)) ∙ ap (take (j + 1)) m.first ∙ take-take (j + 1) (j + 1 + 1) xs (omega arith)

    same_there : get_or ys j 0 ≡ get_or xs j 0
    same_there = sym (get_or-take (j + 1) ys j 0 (omega arith)) ∙ ap (λ (q : List ℕ). get_or q j 0) front ∙ get_or-take (j + 1) xs j 0 (omega arith)

    short : j + 1 < length ys
    short = omega (arith, m.length_kept)

    written : drop (j + 1) (set ys (j + 1) (get_or ys j 0)) ≡ get_or ys j 0 ∷ drop (j + 1 + 1) ys
    written =
        drop-cons (set ys (j + 1) (get_or ys j 0)) (j + 1) 0 (omega (arith, short, length-set ys (j + 1) (get_or ys j 0)))
        ∙ ap₂ (λ (x : ℕ) (q : List ℕ). x ∷ q) (get_or-set_same ys (j + 1) (get_or ys j 0) 0 short)
        (drop-set-lt (suc (j + 1)) ys (j + 1) (get_or ys j 0) (omega arith) ∙ ap (λ (i : ℕ). drop i ys) (sym (add-one (j + 1))))

    whole : take (n - j) (drop j xs) ++ drop (n + 1) xs ≡ get_or xs j 0 ∷ (take (n - (j + 1)) (drop (j + 1) xs) ++ drop (n + 1) xs)
    whole =
        let e : n - j ≡ suc (n - (j + 1)) = omega arith in
        ap (λ (q : List ℕ). q ++ drop (n + 1) xs)
        (ap₂ (λ (i : ℕ) (q : List ℕ). take i q) e (drop-cons xs j 0 (omega arith) ∙ ap (λ (i : ℕ). get_or xs j 0 ∷ drop i xs) (sym (add-one j))))

-- One more element is moved.
pub moved_more : (xs : List ℕ) (i n : ℕ) (ys : List ℕ) → 0 < i → i ≤ n → n < length xs → Moved xs i n ys → Moved xs (i - 1) n (set ys i (get_or ys (i - 1) 0))
moved_more xs i n ys a l h =
    let e : i - 1 + 1 ≡ i = omega arith in
    subst (λ (k : ℕ). Moved xs k n ys → Moved xs (i - 1) n (set ys k (get_or ys (i - 1) 0))) e (moved_step xs (i - 1) n ys (omega arith) h)

-- Moving ends at place k.
pub moved_to : (xs : List ℕ) (i k n : ℕ) (ys : List ℕ) → i ≡ k → Moved xs i n ys → Moved xs k n ys
moved_to xs i k n ys e m = subst (λ (j : ℕ). Moved xs j n ys) e m

-- what is left of the first n elements behind the first k
drop_front : (xs : List ℕ) (k n : ℕ) → k ≤ n → n ≤ length xs → drop k (take n xs) ≡ take (n - k) (drop k xs)
drop_front xs k n l h =
    let e : n ≡ k + (n - k) = omega arith in
    ap (λ (i : ℕ). drop k (take i xs)) e ∙ ap (drop k) (take-add k (n - k) xs)
    ∙ drop_at (take k xs) (take (n - k) (drop k xs)) k (length-take-le k xs (omega arith))

-- Where the elements from place k on were moved, and another is put there, it stands between the first k and the others.
pub put_between : (xs : List ℕ) (k n : ℕ) (ys : List ℕ) (e : ℕ) → k ≤ n → n < length xs → Moved xs k n ys
    → take (n + 1) (set ys k e) ≡ take k (take n xs) ++ e ∷ drop k (take n xs)
put_between xs k n ys e l h m =
    ap (take (n + 1)) (set_split ys k e (omega (arith, m.length_kept)) ∙ ap₂ (λ (p q : List ℕ). p ++ e ∷ q) front back
    ∙ sym (append_assoc (take k (take n xs)) (e ∷ drop k (take n xs)) (drop (n + 1) xs)))
    ∙ take_at (take k (take n xs) ++ e ∷ drop k (take n xs)) (drop (n + 1) xs) (n + 1) size
  where
    front : take k ys ≡ take k (take n xs)
    front =
        sym (take-take k (k + 1) ys (omega arith)) ∙ ap (take k) m.first ∙ take-take k (k + 1) xs (omega arith) ∙ sym (take-take k n xs l)

    back : drop (suc k) ys ≡ drop k (take n xs) ++ drop (n + 1) xs
    back =
        ap (λ (i : ℕ). drop i ys) (sym (add-one k)) ∙ m.moved ∙ ap (λ (q : List ℕ). q ++ drop (n + 1) xs) (sym (drop_front xs k n l (omega arith)))

    size : length (take k (take n xs) ++ e ∷ drop k (take n xs)) ≡ n + 1
    size =
        length-append (take k (take n xs)) (e ∷ drop k (take n xs))
        ∙ omega (
          arith,
          length-take-le n xs (omega arith),
          length-take-le k (take n xs) (omega (arith, length-take-le n xs (omega arith))),
          length-drop k (take n xs),
        )

-- A string that is put where the strings which come before it end gives the index of one string more.
pub index_more : (b at xs : List ℕ) (k n : ℕ) (ys : List ℕ) (e : ℕ) → n < length xs → Entry b at e
    → Before b at (take n xs) false (entry_text b at e) k → Moved xs k n ys
    → (es : List ℕ) → Index b at es (take n xs) → Index b at (e ∷ es) (take (n + 1) (set ys k e))
unfolding sort entry_le
index_more b at xs k n ys e h x c m es i =
    record { sorted = is ∙ ap (insert (entry_le b at) e) i.sorted; entries = rw is (insert_each (entry_le b at) 0 e (Entry b at) x (take n xs) i.entries) }
  where
    inserted : insert (entry_le b at) e (take n xs) ≡ take k (take n xs) ++ e ∷ drop k (take n xs)
    inserted =
        insert_at (entry_le b at) 0 e (take n xs) k c.within
        (λ j l. before_false (entry_text b at (get_or (take n xs) j 0)) (entry_text b at e) (c.before j l))
        (λ j l g. after_false (entry_text b at (get_or (take n xs) j 0)) (entry_text b at e) (c.after j l g))

    is : take (n + 1) (set ys k e) ≡ insert (entry_le b at) e (take n xs)
    is = put_between xs k n ys e (omega (arith, c.within, length-take-le n xs (omega arith))) h m ∙ sym inserted
