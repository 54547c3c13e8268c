-- Keys that are equal to an earlier one: among sorted keys they are those that are equal to the one right before them, and in the text
-- they are those that the members' tree marks.
use Prim.Native.Nat.{ℕ, ◌+◌, ◌-◌, ◌<◌, ◌≤◌, max}
use mathlib.Core.Path.{◌≡◌, refl, sym, ap, subst, ◌∙◌}
use mathlib.Core.List.{List, [], ◌∷◌}
use mathlib.Core.Bool.{Bool, true, false}
use native.Mathlib.Omega.{arith}
use lib.ListN.{length, drop, get_or, length-drop}
use Rattle.laws.specs.Order.{leq, same}
use Rattle.laws.specs.Sort.{insert, sort}
use Rattle.laws.proofs.Order.{by_test, false_true, leq_refl, leq_antisym, same_refl, same_eq}
use Rattle.laws.proofs.Sort.{insert_before, insert_after}
use Rattle.laws.proofs.Rising.{Rising, rising_none, rising_one, rising_more, sort_rising}
use Rattle.text_json.specs.Syntax.{Member, members}
use Rattle.text_json.specs.Content.{unescape}
use Rattle.text_content.specs.Fault.{mark, among, repeated}
use Rattle.text_strings.specs.InString.{content_from, key_le}
use Rattle.text_keys.specs.Keys.{rising_keys}
use Rattle.text_keys.specs.Repeats.{left_if, same_left, equal_left, repeat_left, Places, no_places, place_at}
use Rattle.text_keys.proofs.Keys.{keys_order}
use Rattle.text_keys.proofs.Merges.{opened}
use Rattle.text_keys.proofs.Orders.{rising_sorted}

-- the most that is left from a key that is equal to the one right before it; k stands before the list
unfoldable pub next_from : List ℕ → ℕ → List ℕ → ℕ
next_from s k [] = 0
next_from s k (l ∷ ls) = max (same_left s k l) (next_from s l ls)

unfoldable pub next_left : List ℕ → List ℕ → ℕ
next_left s [] = 0
next_left s (k ∷ ks) = next_from s k ks

max_one : {a x : ℕ} (b y z : ℕ) → a ≡ 0 → x ≡ max y z → max b x ≡ max (max a y) (max b z)
max_one b y z e f = omega arith

max_three : {a b c x : ℕ} (y z : ℕ) → a ≡ 0 → b ≡ 0 → c ≡ 0 → x ≡ max y z → max b x ≡ max (max a y) (max c z)
max_three y z e f g h = omega arith

module _ (s : List ℕ) where
  left_equal : (k l : ℕ) → content_from s (l + 1) ≡ content_from s (k + 1) → same_left s k l ≡ length s - l
  unfolding same_left left_if
  left_equal k l e = rw (same_left, e, same_refl (content_from s (k + 1)))

  left_differs : (k l : ℕ) → (content_from s (l + 1) ≡ content_from s (k + 1) → ⊥) → same_left s k l ≡ 0
  unfolding same_left left_if
  left_differs k l n =
      by_test (same (content_from s (l + 1)) (content_from s (k + 1)))
      (λ e. absurd (n (same_eq (content_from s (l + 1)) (content_from s (k + 1)) e)))
      (λ e. rw (same_left, e))

  -- keys of which one comes after the other differ
  after_differs : (k l : ℕ) → key_le s k l ≡ false → content_from s (k + 1) ≡ content_from s (l + 1) → ⊥
  unfolding key_le
  after_differs k l e q = false_true (sym e ∙ ap (λ (x : List ℕ). leq x (content_from s (l + 1))) q ∙ leq_refl (content_from s (l + 1)))

  -- keys with one between them that comes after the first differ
  parted : (k l m : ℕ) → key_le s k l ≡ false → key_le s k m ≡ true → content_from s (m + 1) ≡ content_from s (l + 1) → ⊥
  unfolding key_le
  parted k l m e f q = false_true (sym e ∙ ap (leq (content_from s (k + 1))) (sym q) ∙ f)

  -- a key between two equal ones is equal to them
  left_between : (k l m : ℕ) → key_le s k l ≡ true → key_le s l m ≡ true → same_left s k m ≤ same_left s l m
  unfolding key_le same_left left_if
  left_between k l m e f = by_test (same (content_from s (m + 1)) (content_from s (k + 1))) equal (λ q. let z : same_left s k m ≡ 0 = rw (same_left, q) in
      omega arith)
    where
      equal : same (content_from s (m + 1)) (content_from s (k + 1)) ≡ true → same_left s k m ≤ same_left s l m
      equal q =
          let p : content_from s (m + 1) ≡ content_from s (k + 1) = same_eq (content_from s (m + 1)) (content_from s (k + 1)) q in
          let r : content_from s (k + 1) ≡ content_from s (l + 1) = leq_antisym (content_from s (k + 1)) (content_from s (l + 1)) e
          (subst (λ (x : List ℕ). leq (content_from s (l + 1)) x ≡ true) p f) in
          omega (arith, left_equal k m p, left_equal l m (p ∙ r))

  -- keys that are equal to one at the start or before it, among keys in rising order
  equal_below : (k l : ℕ) {ls : List ℕ} → key_le s k l ≡ true → Rising (key_le s) (l ∷ ls) → equal_left s k ls ≤ next_from s l ls
  unfolding equal_left next_from
  equal_below k l e rising_one = omega arith
  equal_below k l e (rising_more {y = m} f r) =
      omega (arith, left_between k l m e f, equal_below k m ((keys_order s).trans k l m e f) r)

  next_insert : (k : ℕ) {ls : List ℕ} → Rising (key_le s) ls → next_left s (insert (key_le s) k ls) ≡ max (equal_left s k ls) (next_left s ls)
  unfolding insert equal_left next_from next_left
  next_insert k rising_none = refl
  next_insert k (rising_one {x = l}) =
      by_test (key_le s k l)
      (λ e. rw (insert_before (key_le s) k l [] e) (omega arith))
      (λ e. rw (insert_after (key_le s) k l [] e)
      (omega (arith, left_differs l k (after_differs k l e), left_differs k l (λ q. after_differs k l e (sym q)))))
  next_insert k (rising_more {x = l} {y = m} {ys = ms} f r) = go (next_insert k r)
    where
      Rest : Type 0
      Rest = next_left s (insert (key_le s) k (m ∷ ms)) ≡ max (equal_left s k (m ∷ ms)) (next_from s m ms)

      after : key_le s k l ≡ false → Rest → next_from s l (insert (key_le s) k (m ∷ ms)) ≡ max (equal_left s k (l ∷ m ∷ ms)) (next_from s l (m ∷ ms))
      after e ih =
          let a = left_differs k l (λ q. after_differs k l e (sym q)) in
          by_test (key_le s k m)
          (λ g. rw (insert_before (key_le s) k m ms g)
          (max_three (equal_left s k (m ∷ ms)) (next_from s m ms) a (left_differs l k (after_differs k l e)) (left_differs l m (parted k l m e g))
          (rw (insert_before (key_le s) k m ms g) at ih)))
          (λ g. rw (insert_after (key_le s) k m ms g) (max_one (same_left s l m) (equal_left s k (m ∷ ms)) (next_from s m ms) a
          (rw (insert_after (key_le s) k m ms g) at ih)))

      go : Rest → next_left s (insert (key_le s) k (l ∷ m ∷ ms)) ≡ max (equal_left s k (l ∷ m ∷ ms)) (next_from s l (m ∷ ms))
      go ih =
          by_test (key_le s k l)
          (λ e. rw (insert_before (key_le s) k l (m ∷ ms) e) (omega (arith, equal_below k l e (rising_more f r))))
          (λ e. rw (insert_after (key_le s) k l (m ∷ ms) e) (after e ih))

  -- the order of the keys does not matter to the most that is left
  equal_insert : (k l : ℕ) (ls : List ℕ) → equal_left s k (insert (key_le s) l ls) ≡ max (same_left s k l) (equal_left s k ls)
  unfolding insert equal_left
  equal_insert k l [] = refl
  equal_insert k l (m ∷ ms) =
      by_test (key_le s l m)
      (λ e. rw (insert_before (key_le s) l m ms e))
      (λ e. rw (insert_after (key_le s) l m ms e) (omega (arith, equal_insert k l ms)))

  equal_sort : (k : ℕ) (ks : List ℕ) → equal_left s k (sort (key_le s) ks) ≡ equal_left s k ks
  unfolding sort equal_left
  equal_sort k [] = refl
  equal_sort k (l ∷ ls) = omega (arith, equal_insert k l (sort (key_le s) ls), equal_sort k ls)

  -- The most bytes left from a key equal to an earlier one are those from a sorted key equal to the one right before it.
  pub next_sort : (ks : List ℕ) → next_left s (sort (key_le s) ks) ≡ repeat_left s ks
  unfolding sort next_left repeat_left
  next_sort [] = refl
  next_sort (k ∷ ks) =
      next_insert k (sort_rising (key_le s) (keys_order s) ks)
      ∙ (λ i. max (equal_sort k ks i) (next_sort ks i))

  -- Of keys in rising order, the most bytes left from one that is equal to an earlier one are those from one that is equal to the one right before it.
  pub next_rising : (keys : List ℕ) → rising_keys s keys ≡ true → next_left s keys ≡ repeat_left s keys
  next_rising keys e = ap (next_left s) (sym (rising_sorted s keys e)) ∙ next_sort keys

  -- One key more is compared with the next one: the larger of `most` and what this one tells stands for all keys that are passed.
  pub next_step : (keys : List ℕ) (i most n r : ℕ) → i + 1 < length keys → r ≡ max most n → n ≡ same_left s (get_or keys i 0) (get_or keys (i + 1) 0)
      → max most (next_left s (drop i keys)) ≡ next_left s keys → max r (next_left s (drop (i + 1) keys)) ≡ next_left s keys
  unfolding next_from next_left
  next_step keys i most n r h e f k =
      let o : next_left s (drop i keys) ≡ max (same_left s (get_or keys i 0) (get_or keys (i + 1) 0)) (next_left s (drop (i + 1) keys)) =
      rw (opened keys i (omega arith), opened keys (i + 1) h) in
      omega arith

  -- a list of one key at most
  pub next_short : (keys : List ℕ) → length keys ≤ 1 → next_left s keys ≡ 0
  unfolding next_from next_left
  next_short [] h = refl
  next_short (k ∷ []) h = refl
  next_short (k ∷ l ∷ ls) h = absurd (omega arith)

-- the most that is left from a key whose content is among these
unfoldable again_left : List ℕ → List (List ℕ) → List ℕ → ℕ
again_left s earlier [] = 0
again_left s earlier (l ∷ ls) = max (left_if (among (content_from s (l + 1)) earlier) (length s - l)) (again_left s earlier ls)

-- a key that is equal to one more is among the earlier ones or equal to that one
either : (a b : Bool) (n e g : ℕ) {x : ℕ} → x ≡ max e g
    → max (left_if (elim a as (λ (x : Bool). Bool) [ true ↦ true | false ↦ b ]) n) x ≡ max (max (left_if a n) e) (max (left_if b n) g)
unfolding left_if
either true true n e g h = omega arith
either true false n e g h = omega arith
either false true n e g h = omega arith
either false false n e g h = omega arith

mark_left : (b : Bool) (p : List ℕ) → mark b p ≡ left_if b (length p)
unfolding mark left_if
mark_left true p = refl
mark_left false p = refl

max_swap : (a e g t : ℕ) → max a (max (max e g) t) ≡ max (max a g) (max e t)
max_swap a e g t = omega arith

module _ (s : List ℕ) where
  again_none : (ls : List ℕ) → again_left s [] ls ≡ 0
  unfolding again_left among left_if
  again_none [] = refl
  again_none (l ∷ ls) = omega (arith, again_none ls)

  again_more : (k : ℕ) (earlier : List (List ℕ)) (ls : List ℕ)
      → again_left s (content_from s (k + 1) ∷ earlier) ls ≡ max (equal_left s k ls) (again_left s earlier ls)
  unfolding again_left among equal_left same_left
  again_more k earlier [] = refl
  again_more k earlier (l ∷ ls) =
      either (same (content_from s (l + 1)) (content_from s (k + 1))) (among (content_from s (l + 1)) earlier) (length s - l) (equal_left s k ls)
      (again_left s earlier ls)
      (again_more k earlier ls)

  repeated_from : {ms : List Member} {ks : List ℕ} (earlier : List (List ℕ)) → Places s ms ks
      → repeated earlier (members ms) ≡ max (again_left s earlier ks) (repeat_left s ks)
  unfolding members repeated repeat_left again_left
  repeated_from earlier no_places = refl
  repeated_from earlier (place_at {m = m} {k = k} {ms = ms} {ks = ks} p q r) =
      (λ i. max (marked i) (rest (repeated_from (unescape m.key ∷ earlier) r) i))
      ∙ max_swap (left_if (among (content_from s (k + 1)) earlier) (length s - k)) (equal_left s k ks) (again_left s earlier ks) (repeat_left s ks)
    where
      marked : mark (among (unescape m.key) earlier) m.place ≡ left_if (among (content_from s (k + 1)) earlier) (length s - k)
      marked = mark_left (among (unescape m.key) earlier) m.place ∙ (λ i. left_if (among (q i) earlier) ((ap length p ∙ length-drop k s) i))

      rest : repeated (unescape m.key ∷ earlier) (members ms) ≡ max (again_left s (unescape m.key ∷ earlier) ks) (repeat_left s ks)
          → repeated (unescape m.key ∷ earlier) (members ms) ≡ max (max (equal_left s k ks) (again_left s earlier ks)) (repeat_left s ks)
      rest ih =
          ih ∙ ap (λ (c : List ℕ). max (again_left s (c ∷ earlier) ks) (repeat_left s ks)) q
          ∙ ap (λ (n : ℕ). max n (repeat_left s ks)) (again_more k earlier ks)

  -- what the tree of an object's members marks is what their places tell
  pub repeated_places : {ms : List Member} {ks : List ℕ} → Places s ms ks → repeated [] (members ms) ≡ repeat_left s ks
  repeated_places {ks = ks} p = repeated_from [] p ∙ zero_max (repeat_left s ks) (again_none ks)
    where
      zero_max : {a : ℕ} (b : ℕ) → a ≡ 0 → max a b ≡ b
      zero_max b e = omega arith
