-- Reading looks no further than the byte at which it ends or is stuck: two texts that are alike up to there and one byte more are read
-- alike, but for the places in the trees.
use Prim.Native.Nat.{ℕ, zero, suc, ◌*◌, ◌+◌, ◌≤◌, ◌<◌}
use native.Mathlib.Omega.{arith}
use mathlib.Core.Path.{◌≡◌, refl}
use mathlib.Core.List.{List, [], ◌∷◌}
use mathlib.Core.Bool.{Bool, true, false}
use lib.ListN.{length}
use lib.Dec.{eqb}
use Rattle.text_json.specs.Bytes.{is_space, is_digit, is_exp, is_sign, is_hex, hex_value, is_unescaped, is_short}
use Rattle.text_json.specs.Syntax.{Syntax, Member}
use Rattle.text_json.specs.Read.{Read, found, stuck, and_then, spaces, read_word, after_digits, read_some_digits, read_int, read_frac, read_signed, read_exp}
use Rattle.text_json.specs.Read.{read_unsigned, read_number, Pending, prepend, read_chars, read_string, read_scalar, after_item, read_items, read_first}
use Rattle.text_json.specs.Read.{read_listed, read_pair, read_nested, read, at_end, read_text}
use Rattle.text_json.proofs.Grammar.Ends.{Ends, all, after, ends_nil, ends_trans, ends_length}
use Rattle.text_json.proofs.Grammar.Answer.{by_test}
use Rattle.text_json.proofs.Grammar.Sound.{read_shorter}
use Rattle.text_json.proofs.Grammar.ReadEnds.{rest_of, spaces_ends, after_digits_ends, read_word_ends, read_some_digits_ends, read_int_ends, read_frac_ends}
use Rattle.text_json.proofs.Grammar.ReadEnds.{read_signed_ends, read_exp_ends, read_number_ends, read_chars_ends, read_string_ends, read_scalar_ends}
use Rattle.text_json.proofs.Grammar.ReadEnds.{read_items_ends, read_first_ends, read_pair_ends, read_pair_shorter, read_nested_ends, read_ends}

-- the second text is as the first one is, as far as the first one's end q
pub data Along (q : List ℕ) : List ℕ → List ℕ → Type 0 where
  beyond : {s s' : List ℕ} → Ends s q → Along q s s'
  along : {b : ℕ} {s s' : List ℕ} → Along q s s' → Along q (b ∷ s) (b ∷ s')

-- the second answer is as the first one is, if the first one's rest begins before q
pub data Local {A : Type 0} (q : List ℕ) : Read A → Read A → Type 0 where
  past : {x y : Read A} → Ends (rest_of x) q → Local q x y
  founds : {a a' : A} {r r' : List ℕ} → Along q r r' → Local q (found a r) (found a' r')
  stucks : {r r' : List ℕ} → Along q r r' → Local q (stuck r) (stuck r')

then_ends : {A B : Type 0} (f : A → List ℕ → Read B) (x : Read A) → ((a : A) (r : List ℕ) → Ends (rest_of (f a r)) r)
    → Ends (rest_of (and_then x f)) (rest_of x)
unfolding and_then
then_ends f (found a r) k = k a r
then_ends f (stuck r) k = all

prepend_ends : {A : Type 0} (a : A) (x : Read (List A)) → Ends (rest_of (prepend a x)) (rest_of x)
unfolding prepend
prepend_ends a (found xs r) = all
prepend_ends a (stuck r) = all

module _ {q : List ℕ} where
  local_then : {A B : Type 0} {x y : Read A} {f g : A → List ℕ → Read B} → Local q x y → ((a : A) (r : List ℕ) → Ends (rest_of (f a r)) r)
      → ((a a' : A) (r r' : List ℕ) → x ≡ found a r → y ≡ found a' r' → Along q r r' → Local q (f a r) (g a' r'))
      → Local q (and_then x f) (and_then y g)
  unfolding and_then
  local_then (past {x} e) ends k = past (ends_trans (then_ends _ x ends) e)
  local_then (founds h) ends k = k _ _ _ _ refl refl h
  local_then (stucks h) ends k = stucks h

  local_as : {A B : Type 0} {x y : Read A} (f g : A → B) → Local q x y
      → Local q (and_then x (λ a r. found (f a) r)) (and_then y (λ a r. found (g a) r))
  local_as f g h = local_then h (λ _ _. all) (λ _ _ _ _ _ _ i. founds i)

  local_prepend : {A : Type 0} {x y : Read (List A)} (a a' : A) → Local q x y → Local q (prepend a x) (prepend a' y)
  unfolding prepend
  local_prepend a a' (past {x} e) = past (ends_trans (prepend_ends a x) e)
  local_prepend a a' (founds h) = founds h
  local_prepend a a' (stucks h) = stucks h

  -- spaces, words and digits

  spaces_along : {s s' : List ℕ} → Along q s s' → Along q (spaces s) (spaces s')
  unfolding spaces
  spaces_along (beyond {s} e) = beyond (ends_trans (spaces_ends s) e)
  spaces_along (along {b} h) = by_test (is_space b) (λ e. rw (e, spaces) (spaces_along h)) (λ e. rw (e, spaces) (along h))

  digits_along : {s s' : List ℕ} → Along q s s' → Along q (after_digits s) (after_digits s')
  unfolding after_digits
  digits_along (beyond {s} e) = beyond (ends_trans (after_digits_ends s) e)
  digits_along (along {b} h) = by_test (is_digit b) (λ e. rw (e, after_digits) (digits_along h)) (λ e. rw (e, after_digits) (along h))

  word_local : (w : List ℕ) {s s' : List ℕ} → Along q s s' → Local q (read_word w s) (read_word w s')
  unfolding read_word
  word_local [] h = founds h
  word_local (w ∷ ws) (beyond {s} e) = past (ends_trans (read_word_ends (w ∷ ws) s) e)
  word_local (w ∷ ws) (along {b} h) = by_test (eqb b w) (λ e. rw (e, read_word) (word_local ws h)) (λ e. rw (e, read_word) (stucks (along h)))

  some_digits_local : {s s' : List ℕ} → Along q s s' → Local q (read_some_digits s) (read_some_digits s')
  unfolding read_some_digits
  some_digits_local (beyond {s} e) = past (ends_trans (read_some_digits_ends s) e)
  some_digits_local (along {b} h) =
      by_test (is_digit b) (λ e. rw (e, read_some_digits) (founds (digits_along h))) (λ e. rw (e, read_some_digits) (stucks (along h)))

  -- numbers

  int_local : {s s' : List ℕ} → Along q s s' → Local q (read_int s) (read_int s')
  unfolding read_int
  int_local (beyond {s} e) = past (ends_trans (read_int_ends s) e)
  int_local (along {b} h) =
      by_test (eqb b 0x30) (λ e. rw (e, read_int) (founds h)) (λ e. rw (e, read_int)
      (by_test (is_digit b) (λ f. rw f (founds (digits_along h))) (λ f. rw f (stucks (along h)))))

  frac_local : {s s' : List ℕ} → Along q s s' → Local q (read_frac s) (read_frac s')
  unfolding read_frac
  frac_local (beyond {s} e) = past (ends_trans (read_frac_ends s) e)
  frac_local (along {b} h) =
      by_test (eqb b 0x2E) (λ e. rw (e, read_frac) (local_as _ _ (some_digits_local h))) (λ e. rw (e, read_frac) (founds (along h)))

  signed_local : {s s' : List ℕ} → Along q s s' → Local q (read_signed s) (read_signed s')
  unfolding read_signed
  signed_local (beyond {s} e) = past (ends_trans (read_signed_ends s) e)
  signed_local (along {b} h) =
      by_test (is_sign b) (λ e. rw (e, read_signed) (some_digits_local h)) (λ e. rw (e, read_signed) (some_digits_local (along h)))

  exp_local : {s s' : List ℕ} → Along q s s' → Local q (read_exp s) (read_exp s')
  unfolding read_exp
  exp_local (beyond {s} e) = past (ends_trans (read_exp_ends s) e)
  exp_local (along {b} h) =
      by_test (is_exp b) (λ e. rw (e, read_exp) (local_as _ _ (signed_local h))) (λ e. rw (e, read_exp) (founds (along h)))

  unsigned_local : (negative : Bool) {s s' : List ℕ} → Along q s s' → Local q (read_unsigned negative s) (read_unsigned negative s')
  unfolding read_unsigned
  unsigned_local negative h =
      local_then (int_local h)
      (λ ds s₁. ends_trans (then_ends _ (read_frac s₁)
      (λ f s₂. ends_trans (then_ends _ (read_exp s₂) (λ _ _. all)) (read_exp_ends s₂))) (read_frac_ends s₁))
      (λ _ _ _ _ _ _ h₁. local_then (frac_local h₁) (λ f s₂. ends_trans (then_ends _ (read_exp s₂) (λ _ _. all)) (read_exp_ends s₂))
      (λ _ _ _ _ _ _ h₂. local_as _ _ (exp_local h₂)))

  number_local : {s s' : List ℕ} → Along q s s' → Local q (read_number s) (read_number s')
  unfolding read_number
  number_local (beyond {s} e) = past (ends_trans (read_number_ends s) e)
  number_local (along {b} h) =
      by_test (eqb b 0x2D) (λ e. rw (e, read_number) (unsigned_local true h)) (λ e. rw (e, read_number) (unsigned_local false (along h)))

  -- strings

  chars_local : (p : Pending) {s s' : List ℕ} → Along q s s' → Local q (read_chars p s) (read_chars p s')
  unfolding read_chars
  chars_local p (beyond {s} e) = past (ends_trans (read_chars_ends p s) e)
  chars_local Pending.char (along {b} h) =
      by_test (eqb b 0x22) (λ e. rw (e, read_chars) (founds h)) (λ e. rw (e, read_chars)
      (by_test (eqb b 0x5C) (λ f. rw f (chars_local Pending.escape h)) (λ f. rw f
      (by_test (is_unescaped b) (λ g. rw g (local_prepend _ _ (chars_local Pending.char h))) (λ g. rw g (stucks (along h)))))))
  chars_local Pending.escape (along {b} h) =
      by_test (is_short b) (λ e. rw (e, read_chars) (local_prepend _ _ (chars_local Pending.char h))) (λ e. rw (e, read_chars)
      (by_test (eqb b 0x75) (λ f. rw f (chars_local (Pending.hex 3 0) h)) (λ f. rw f (stucks (along h)))))
  chars_local (Pending.hex zero n) (along {b} h) =
      by_test (is_hex b) (λ e. rw (e, read_chars) (local_prepend _ _ (chars_local Pending.char h))) (λ e. rw (e, read_chars) (stucks (along h)))
  chars_local (Pending.hex (suc k) n) (along {b} h) =
      by_test (is_hex b) (λ e. rw (e, read_chars) (chars_local (Pending.hex k (n * 16 + hex_value b)) h)) (λ e. rw (e, read_chars) (stucks (along h)))

  string_local : {s s' : List ℕ} → Along q s s' → Local q (read_string s) (read_string s')
  unfolding read_string
  string_local (beyond {s} e) = past (ends_trans (read_string_ends s) e)
  string_local (along {b} h) =
      by_test (eqb b 0x22) (λ e. rw (e, read_string) (chars_local Pending.char h)) (λ e. rw (e, read_string) (stucks (along h)))

  -- values

  scalar_local : {s s' : List ℕ} → Along q s s' → Local q (read_scalar s) (read_scalar s')
  unfolding read_scalar
  scalar_local (beyond {s} e) = past (ends_trans (read_scalar_ends s) e)
  scalar_local (along {b} h) =
      by_test (eqb b 0x22) (λ e. rw (e, read_scalar) (local_as _ _ (chars_local Pending.char h))) (λ e. rw (e, read_scalar)
      (by_test (eqb b 0x6E) (λ f. rw f (local_as _ _ (word_local _ h))) (λ f. rw f
      (by_test (eqb b 0x74) (λ g. rw g (local_as _ _ (word_local _ h))) (λ g. rw g
      (by_test (eqb b 0x66) (λ i. rw i (local_as _ _ (word_local _ h))) (λ i. rw i
      (local_as _ _ (number_local (along h))))))))))

-- arrays and objects

after_item_ends : {A : Type 0} (more : List ℕ → Read (List A)) (mark : ℕ) (t : A) → ((s : List ℕ) → Ends (rest_of (more s)) s)
    → (s : List ℕ) → Ends (rest_of (after_item more mark t s)) s
unfolding after_item
after_item_ends more mark t ends [] = all
after_item_ends more mark t ends (b ∷ s) =
    by_test (eqb b mark) (λ e. rw (e, after_item) (after all)) (λ e. rw (e, after_item)
    (by_test (eqb b 0x2C)
    (λ f. rw f (after (ends_trans (prepend_ends t (more (spaces s))) (ends_trans (ends (spaces s)) (spaces_ends s)))))
    (λ f. rw f all)))

along_nil : {q s : List ℕ} → Along q s [] → Ends s q
along_nil (beyond e) = e

module _ {q : List ℕ} {A : Type 0} (item : List ℕ → Read A) (mark : ℕ) (item_ends : (s : List ℕ) → Ends (rest_of (item s)) s)
    (item_shorter : (s : List ℕ) (x : A) (r : List ℕ) → item s ≡ found x r → length r < length s)
    (item_local : (s s' : List ℕ) → Along q s s' → Local q (item s) (item s')) where
  after_item_local : (n n' : ℕ) (t t' : A)
      → ((s s' : List ℕ) → length s ≤ n → length s' ≤ n' → Along q s s' → Local q (read_items item mark n s) (read_items item mark n' s'))
      → {s s' : List ℕ} → Along q s s' → length s ≤ n → length s' ≤ n'
      → Local q (after_item (read_items item mark n) mark t s) (after_item (read_items item mark n') mark t' s')
  unfolding after_item
  after_item_local n n' t t' more (beyond {s} e) l l' =
      past (ends_trans (after_item_ends (read_items item mark n) mark t (read_items_ends item mark item_ends n) s) e)
  after_item_local n n' t t' more (along {b} {s} {s'} h) l l' =
      let i = ends_length (spaces_ends s) in
      let i' = ends_length (spaces_ends s') in
      by_test (eqb b mark) (λ e. rw (e, after_item) (founds h)) (λ e. rw (e, after_item)
      (by_test (eqb b 0x2C)
      (λ f. rw f (local_prepend t t' (more (spaces s) (spaces s') (omega arith) (omega arith) (spaces_along h))))
      (λ f. rw f (stucks (along h)))))

  items_local : (n n' : ℕ) (s s' : List ℕ) → length s ≤ n → length s' ≤ n' → Along q s s'
      → Local q (read_items item mark n s) (read_items item mark n' s')
  unfolding read_items
  items_local zero n' [] s' l l' h = past (ends_nil q)
  items_local zero n' (b ∷ s) s' l l' h = absurd (omega arith)
  items_local (suc n) zero s [] l l' h = past (ends_trans (read_items_ends item mark item_ends (suc n) s) (along_nil h))
  items_local (suc n) zero s (b' ∷ s') l l' h = absurd (omega arith)
  items_local (suc n) (suc n') s s' l l' h =
      local_then (item_local s s' h)
      (λ t r. ends_trans (after_item_ends (read_items item mark n) mark t (read_items_ends item mark item_ends n) (spaces r)) (spaces_ends r))
      (λ t t' r r' e e' i.
      let k = item_shorter s t r e in
      let k' = item_shorter s' t' r' e' in
      let m = ends_length (spaces_ends r) in
      let m' = ends_length (spaces_ends r') in
      after_item_local n n' t t' (items_local n n') (spaces_along i) (omega arith) (omega arith))

  first_local : {s s' : List ℕ} → Along q s s' → Local q (read_first item mark s) (read_first item mark s')
  unfolding read_first
  first_local (beyond {s} e) = past (ends_trans (read_first_ends item mark item_ends s) e)
  first_local (along {b} {s} {s'} h) =
      by_test (eqb b mark) (λ e. rw (e, read_first) (founds h)) (λ e. rw (e, read_first)
      (items_local (length (b ∷ s)) (length (b ∷ s')) (b ∷ s) (b ∷ s') (omega arith) (omega arith) (along h)))

  listed_local : {s s' : List ℕ} → Along q s s' → Local q (read_listed item mark s) (read_listed item mark s')
  unfolding read_listed
  listed_local h = first_local (spaces_along h)

module _ {q : List ℕ} (inner : List ℕ → Read Syntax) (inner_ends : (s : List ℕ) → Ends (rest_of (inner s)) s)
    (inner_shorter : (s : List ℕ) (t : Syntax) (r : List ℕ) → inner s ≡ found t r → length r < length s)
    (inner_local : (s s' : List ℕ) → Along q s s' → Local q (inner s) (inner s')) where
  member_ends : (f : Syntax → Member) (s : List ℕ) → Ends (rest_of (and_then (inner (spaces s)) (λ t r. found (f t) r))) s
  member_ends f s = ends_trans (then_ends _ (inner (spaces s)) (λ _ _. all)) (ends_trans (inner_ends (spaces s)) (spaces_ends s))

  pair_local : (s s' : List ℕ) → Along q s s' → Local q (read_pair inner s) (read_pair inner s')
  unfolding read_pair
  pair_local s s' h =
      local_then (string_local h)
      (λ cs s₁. ends_trans (then_ends _ (read_word (0x3A ∷ []) (spaces s₁)) (λ _ s₂. member_ends _ s₂))
      (ends_trans (read_word_ends _ (spaces s₁)) (spaces_ends s₁)))
      (λ _ _ _ _ _ _ h₁. local_then (word_local (0x3A ∷ []) (spaces_along h₁)) (λ _ s₂. member_ends _ s₂)
      (λ _ _ s₂ s₂' _ _ h₂. local_as _ _ (inner_local (spaces s₂) (spaces s₂') (spaces_along h₂))))

  nested_local : {s s' : List ℕ} → Along q s s' → Local q (read_nested inner s) (read_nested inner s')
  unfolding read_nested
  nested_local (beyond {s} e) = past (ends_trans (read_nested_ends inner inner_ends s) e)
  nested_local (along {b} h) =
      by_test (eqb b 0x5B) (λ e. rw (e, read_nested) (local_as _ _ (listed_local inner 0x5D inner_ends inner_shorter inner_local h)))
      (λ e. rw (e, read_nested)
      (by_test (eqb b 0x7B)
      (λ f. rw f (local_as _ _
      (listed_local (read_pair inner) 0x7D (read_pair_ends inner inner_ends) (read_pair_shorter inner inner_ends) pair_local h)))
      (λ f. rw f (scalar_local (along h)))))

-- In texts that are alike as far as `q`, reading a value ends or is stuck alike, if the first one's rest begins before `q`.
pub read_local : (d : ℕ) {q : List ℕ} (s s' : List ℕ) → Along q s s' → Local q (read d s) (read d s')
unfolding read
read_local zero s s' h = scalar_local h
read_local (suc d) s s' h = nested_local (read d) (read_ends d) (read_shorter d) (read_local d) h

at_end_ends : (t : Syntax) (s : List ℕ) → Ends (rest_of (at_end t s)) s
unfolding at_end
at_end_ends t [] = all
at_end_ends t (b ∷ s) = all

end_local : {q s s' : List ℕ} (t t' : Syntax) → Along q s s' → Local q (at_end t s) (at_end t' s')
unfolding at_end
end_local t t' (beyond {s} e) = past (ends_trans (at_end_ends t s) e)
end_local t t' (along h) = stucks (along h)

-- The same for reading a whole text.
pub text_local : (d : ℕ) {q s s' : List ℕ} → Along q s s' → Local q (read_text d s) (read_text d s')
unfolding read_text
text_local d {s} {s'} h =
    local_then (read_local d (spaces s) (spaces s') (spaces_along h)) (λ t r. ends_trans (at_end_ends t (spaces r)) (spaces_ends r))
    (λ t t' _ _ _ _ i. end_local t t' (spaces_along i))
