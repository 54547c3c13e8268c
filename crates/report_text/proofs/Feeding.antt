-- An input cut anywhere into parts has the same lines.
use Prim.Native.Nat.{ℕ}
use mathlib.Core.Path.{◌≡◌, refl, sym, ap, ◌∙◌}
use mathlib.Core.Bool.{true, false}
use mathlib.Core.List.{List, [], ◌∷◌, ◌++◌, append_assoc, append-nil}
use lib.Dec.{eqb}
use Rattle.laws.proofs.Order.{by_test, false_true}
use Rattle.report_text.specs.Lines.{before, after, has, prepend, lines_of}
use Rattle.report_text.specs.Parts.{ended_in, open_after, closing}
use Rattle.report_text.proofs.Marks.{before_here, before_next, after_here, after_next, has_here, has_next}

-- One byte more.
module _ (l : List ℕ) (b : ℕ) (s : List ℕ) where
  ended_here : eqb b 0x0A ≡ true → ended_in l (b ∷ s) ≡ l ∷ ended_in [] s
  unfolding ended_in
  ended_here e = rw (e, ended_in)

  ended_next : eqb b 0x0A ≡ false → ended_in l (b ∷ s) ≡ ended_in (l ++ (b ∷ [])) s
  unfolding ended_in
  ended_next e = rw (e, ended_in)

  open_here : eqb b 0x0A ≡ true → open_after l (b ∷ s) ≡ open_after [] s
  unfolding open_after
  open_here e = rw (e, open_after)

  open_next : eqb b 0x0A ≡ false → open_after l (b ∷ s) ≡ open_after (l ++ (b ∷ [])) s
  unfolding open_after
  open_next e = rw (e, open_after)

lines_here : (b : ℕ) (s : List ℕ) → eqb b 0x0A ≡ true → lines_of (b ∷ s) ≡ [] ∷ lines_of s
unfolding lines_of
lines_here b s e = rw (e, lines_of)

lines_next : (b : ℕ) (s : List ℕ) → eqb b 0x0A ≡ false → lines_of (b ∷ s) ≡ prepend b (lines_of s)
unfolding lines_of
lines_next b s e = rw (e, lines_of)

-- The lines that end in two parts are those of the first and then those of the second, where the open line goes on.
pub ended_join : (l p q : List ℕ) → ended_in l (p ++ q) ≡ ended_in l p ++ ended_in (open_after l p) q
unfolding ended_in open_after
ended_join l [] q = refl
ended_join l (b ∷ p) q =
    let here : ended_in [] (p ++ q) ≡ ended_in [] p ++ ended_in (open_after [] p) q = ended_join [] p q in
    let next : ended_in (l ++ (b ∷ [])) (p ++ q) ≡ ended_in (l ++ (b ∷ [])) p ++ ended_in (open_after (l ++ (b ∷ [])) p) q = ended_join (l ++ (b ∷ [])) p q in
    by_test (eqb b 0x0A)
    (λ e. rw (ended_here l b (p ++ q) e, ended_here l b p e, open_here l b p e) (ap (λ (ls : List (List ℕ)). l ∷ ls) here))
    (λ e. rw (ended_next l b (p ++ q) e, ended_next l b p e, open_next l b p e) next)

-- The line that is open after two parts is the one that is open after their join.
pub open_join : (l p q : List ℕ) → open_after l (p ++ q) ≡ open_after (open_after l p) q
unfolding open_after
open_join l [] q = refl
open_join l (b ∷ p) q =
    let here : open_after [] (p ++ q) ≡ open_after (open_after [] p) q = open_join [] p q in
    let next : open_after (l ++ (b ∷ [])) (p ++ q) ≡ open_after (open_after (l ++ (b ∷ [])) p) q = open_join (l ++ (b ∷ [])) p q in
    by_test (eqb b 0x0A)
    (λ e. rw (open_here l b (p ++ q) e, open_here l b p e) here)
    (λ e. rw (open_next l b (p ++ q) e, open_next l b p e) next)

-- the lines of an input of which l has come before
unfoldable continued : List ℕ → List (List ℕ) → List (List ℕ)
continued l [] = closing l
continued l (x ∷ xs) = (l ++ x) ∷ xs

continued_none : (ls : List (List ℕ)) → continued [] ls ≡ ls
unfolding continued closing
continued_none [] = refl
continued_none (x ∷ xs) = refl

continued_byte : (l : List ℕ) (b : ℕ) (ls : List (List ℕ)) → continued (l ++ (b ∷ [])) ls ≡ continued l (prepend b ls)
unfolding continued closing prepend
continued_byte [] b [] = refl
continued_byte (a ∷ l) b [] = refl
continued_byte l b (x ∷ xs) = ap (λ (y : List ℕ). y ∷ xs) (append_assoc l (b ∷ []) x)

lines_continued : (l s : List ℕ) → ended_in l s ++ closing (open_after l s) ≡ continued l (lines_of s)
unfolding ended_in open_after lines_of continued
lines_continued l [] = refl
lines_continued l (b ∷ s) =
    let here : ended_in [] s ++ closing (open_after [] s) ≡ continued [] (lines_of s) = lines_continued [] s in
    let next : ended_in (l ++ (b ∷ [])) s ++ closing (open_after (l ++ (b ∷ [])) s) ≡ continued (l ++ (b ∷ [])) (lines_of s) = lines_continued (l ++ (b ∷ [])) s in
    by_test (eqb b 0x0A)
    (λ e.
    rw (ended_here l b s e, open_here l b s e, lines_here b s e)
    (ap (λ (ls : List (List ℕ)). l ∷ ls) (here ∙ continued_none (lines_of s)) ∙ ap (λ (y : List ℕ). y ∷ lines_of s) (sym (append-nil l))))
    (λ e. rw (ended_next l b s e, open_next l b s e, lines_next b s e) (next ∙ continued_byte l b (lines_of s)))

-- The lines of an input are those that end in it, and then what is open at its end.
pub lines_fed : (s : List ℕ) → ended_in [] s ++ closing (open_after [] s) ≡ lines_of s
lines_fed s = lines_continued [] s ∙ continued_none (lines_of s)

-- What is taken at once, up to a line's end: a line more has ended, and nothing has come of the next.
pub taken_line : (l s : List ℕ) → has 0x0A s ≡ true
    → (ended_in l s ≡ (l ++ before 0x0A s) ∷ ended_in [] (after 0x0A s)) × (open_after l s ≡ open_after [] (after 0x0A s))
unfolding has
taken_line l [] h = false_true h
taken_line l (b ∷ s) h =
    let go = taken_line (l ++ (b ∷ [])) s in
    by_test (eqb b 0x0A)
    (λ e.
    rw (before_here 0x0A b s e, after_here 0x0A b s e)
    (ended_here l b s e ∙ ap (λ (x : List ℕ). x ∷ ended_in [] s) (sym (append-nil l)), open_here l b s e))
    (λ e.
    let r = go (sym (has_next 0x0A b s e) ∙ h) in
    rw (before_next 0x0A b s e, after_next 0x0A b s e)
    (ended_next l b s e ∙ r.0 ∙ ap (λ (x : List ℕ). x ∷ ended_in [] (after 0x0A s)) (append_assoc l (b ∷ []) (before 0x0A s)), open_next l b s e ∙ r.1))

-- Or up to the part's end: no line has ended, and more has come of the open one.
pub taken_rest : (l s : List ℕ) → has 0x0A s ≡ false → (ended_in l s ≡ []) × (open_after l s ≡ l ++ before 0x0A s)
unfolding ended_in open_after before
taken_rest l [] h = (refl, sym (append-nil l))
taken_rest l (b ∷ s) h =
    let go = taken_rest (l ++ (b ∷ [])) s in
    by_test (eqb b 0x0A)
    (λ e. false_true (sym h ∙ has_here 0x0A b s e))
    (λ e.
    let r = go (sym (has_next 0x0A b s e) ∙ h) in
    rw (before_next 0x0A b s e)
    (ended_next l b s e ∙ r.0, open_next l b s e ∙ r.1 ∙ append_assoc l (b ∷ []) (before 0x0A s)))
