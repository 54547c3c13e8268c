-- What is kept of a line, in a buffer that may be shorter than the line.
use Prim.Native.Nat.{ℕ, zero, suc, ◌+◌, ◌-◌, ◌≤◌, ◌<◌, min}
use mathlib.Core.Path.{◌≡◌, refl, sym, ap, ◌∙◌}
use mathlib.Core.List.{List, [], ◌∷◌, ◌++◌}
use native.Mathlib.Omega.{arith}
use lib.Dec.{leb}
use lib.ListN.{length, take, drop, length-append, length-take}
use lib.Seq.{paste, take-nil, take_all, take-length, take-take, take-append-add, take-append_seam, length-take-le, length-paste}
use borrow.Author.Tests.{leb-true, leb-false}
use Rattle.laws.proofs.Order.{by_test}
use Rattle.report_text.specs.Parts.{line_kept, kept_bytes}

-- The first n bytes of `kept` are those of the line l, as many as `kept` has space for.
pub record Keeps (kept : List ℕ) (n : ℕ) (l : List ℕ) : Type 0 where
  pub size : n ≡ length (take (length kept) l)
  pub same : take n kept ≡ take (length kept) l

-- Nothing is kept of a line of which nothing has come.
pub keeps_none : (kept : List ℕ) → Keeps kept 0 []
keeps_none kept = let e : take (length kept) [] ≡ [] = take-nil (length kept) in record { size = sym (ap length e); same = sym e }

-- To cut a list before it goes on does not change its first bytes.
take_cut : (n : ℕ) (l m : List ℕ) → take n (take n l ++ m) ≡ take n (l ++ m)
take_cut zero l m = refl
take_cut (suc n) [] m = refl
take_cut (suc n) (a ∷ l) m = ap (λ (k : List ℕ). a ∷ k) (take_cut n l m)

-- To take more than a list has is to take all of it.
take_least : (n k : ℕ) (l : List ℕ) → k ≡ min (length l) n → take n l ≡ take k l
take_least n k l e =
    by_test (leb (length l) n)
    (λ t. let h : length l ≤ n = leb-true _ _ t in let g : length l ≤ k = omega arith in take_all n l h ∙ sym (take_all k l g))
    (λ t. let h : n < length l = leb-false _ _ t in let g : n ≡ k = omega arith in ap (λ (j : ℕ). take j l) g)

module _ (kept : List ℕ) (n : ℕ) (h : n ≤ length kept) (more : List ℕ) (k : ℕ) (e : k ≡ min (length more) (length kept - n)) where
  first_size : length (take n kept) ≡ n
  first_size = length-take-le n kept h

  -- As much is kept of what comes as there is space for.
  pub kept_part : line_kept kept n more ≡ take n kept ++ take k more
  unfolding line_kept
  kept_part =
      let s : length kept ≡ length (take n kept) + (length kept - n) = omega (arith, first_size) in
      ap (λ (j : ℕ). take j (take n kept ++ more)) s ∙ take-append-add (take n kept) more (length kept - n)
      ∙ ap (λ (l : List ℕ). take n kept ++ l) (take_least (length kept - n) k more e)

  -- The number of bytes that are kept is the number before and the number of new ones that there is space for.
  pub kept_size : length (line_kept kept n more) ≡ n + k
  kept_size =
      let g : k ≤ length more = omega arith in
      ap length kept_part ∙ omega (arith, length-append (take n kept) (take k more), first_size, length-take-le k more g)

  -- What is kept is a copy of the first k bytes of a list that begins with what comes.
  pub kept_paste : (s : List ℕ) → more ≡ take (length more) s → kept_bytes kept n more ≡ paste kept n s k
  unfolding kept_bytes
  kept_paste s f =
      let g : k ≤ length more = omega arith in
      let t : take k more ≡ take k s = ap (take k) f ∙ take-take k (length more) s g in
      ap (λ (j : ℕ). line_kept kept n more ++ drop j kept) kept_size
      ∙ ap (λ (l : List ℕ). l ++ drop (n + k) kept) (kept_part ∙ ap (λ (l : List ℕ). take n kept ++ l) t)

-- The buffer keeps its length.
pub kept_length : (kept : List ℕ) (n : ℕ) → n ≤ length kept → (more : List ℕ) → length (kept_bytes kept n more) ≡ length kept
kept_length kept n h more =
    let k : ℕ = min (length more) (length kept - n) in
    let r : n + k ≤ length kept = omega arith in
    let g : k ≤ length more = omega arith in
    ap length (kept_paste kept n h more k refl more (sym (take-length more))) ∙ length-paste kept n more k r g

-- What is kept after more has come of a line is what is kept of the longer line.
pub keeps_more : (kept : List ℕ) (n : ℕ) (l more : List ℕ) → Keeps kept n l → Keeps (kept_bytes kept n more) (length (line_kept kept n more)) (l ++ more)
unfolding kept_bytes line_kept
keeps_more kept n l more k = record { size = ap length longer; same = begun ∙ longer }
  where
    within : n ≤ length kept
    within = omega (arith, k.size, length-take (length kept) l)

    cut : line_kept kept n more ≡ take (length kept) (l ++ more)
    cut = ap (λ (j : List ℕ). take (length kept) (j ++ more)) k.same ∙ take_cut (length kept) l more

    longer : line_kept kept n more ≡ take (length (kept_bytes kept n more)) (l ++ more)
    longer = cut ∙ ap (λ (j : ℕ). take j (l ++ more)) (sym (kept_length kept n within more))

    begun : take (length (line_kept kept n more)) (kept_bytes kept n more) ≡ line_kept kept n more
    begun = take-append_seam (line_kept kept n more) (drop (length (line_kept kept n more)) kept)
