-- Reading a whole text and RFC 8259's grammar agree.
use Prim.Native.Nat.{ℕ}
use native.Mathlib.Omega.{arith}
use mathlib.Core.Path.{◌≡◌, refl}
use mathlib.Core.List.{List, [], ◌∷◌}
use Rattle.text_json.specs.Syntax.{Syntax}
use Rattle.text_json.specs.Grammar.{Space, Value, Text}
use Rattle.text_json.specs.Read.{found, stuck, and_then, spaces, at_end, read_text}
use Rattle.text_json.proofs.Grammar.Ends.{Ends, all}
use Rattle.text_json.proofs.Grammar.Answer.{Answer, is_found, is_stuck, answer_found, answer_stuck, reads_within, reads_then}
use Rattle.text_json.proofs.Grammar.Rests.{space_ends, value_ends}
use Rattle.text_json.proofs.Grammar.Sound.{spaces_sound, value_reads}
use Rattle.text_json.proofs.Grammar.Complete.{end_stops, space_stops, spaces_complete, first_no_space, value_first, read_complete}

-- the whole text was read
pub data Whole (d : ℕ) (s : List ℕ) (t : Syntax) : List ℕ → Type 0 where
  whole : Text d s t → Whole d s t []

end_reads : (d : ℕ) (s s₁ s₂ : List ℕ) (t : Syntax) → Space s s₁ → Value d s₁ t s₂ → (s₃ : List ℕ) → Space s₂ s₃
    → Answer (Whole d s) (λ r. Ends r s₃) (at_end t s₃)
unfolding at_end
end_reads d s s₁ s₂ t p q [] h = is_found (whole (Text.text p q h))
end_reads d s s₁ s₂ t p q (b ∷ s₃) h = is_stuck all

-- Reading a text finds a tree that the grammar gives to the whole text, or is stuck at an end of the text.
pub text_reads : (d : ℕ) (s : List ℕ) → Answer (Whole d s) (λ r. Ends r s) (read_text d s)
unfolding read_text
text_reads d s =
    reads_within (space_ends (spaces_sound s)) (reads_then (value_reads d (spaces s)) (value_ends d (spaces s)) (λ t r p.
    reads_within (space_ends (spaces_sound r)) (end_reads d s _ r t (spaces_sound s) p (spaces r) (spaces_sound r))))

-- nothing is left of a text that was found
pub text_rest : (d : ℕ) (s : List ℕ) (t : Syntax) (r : List ℕ) → read_text d s ≡ found t r → r ≡ []
text_rest d s t r e = rest (answer_found (text_reads d s) e)
  where
    rest : {r : List ℕ} → Whole d s t r → r ≡ []
    rest (whole p) = refl

-- A text that is read as a tree has this tree by the grammar.
pub text_sound : (d : ℕ) (s : List ℕ) (t : Syntax) (r : List ℕ) → read_text d s ≡ found t r → Text d s t
text_sound d s t r e = text (answer_found (text_reads d s) e)
  where
    text : {r : List ℕ} → Whole d s t r → Text d s t
    text (whole p) = p

-- Where reading a text is stuck, the rest is an end of the text.
pub text_stuck_ends : (d : ℕ) (s r : List ℕ) → read_text d s ≡ stuck r → Ends r s
text_stuck_ends d s r e = answer_stuck (text_reads d s) e

-- A text that has a tree by the grammar is read as this tree, and nothing is left.
pub text_complete : (d : ℕ) {s : List ℕ} {t : Syntax} → Text d s t → read_text d s ≡ found t []
unfolding read_text and_then at_end
text_complete d {t} (Text.text {s} {s₁} {s₂} p q h) =
    rw (spaces_complete p (first_no_space s₁ (value_first d s₁ t s₂ q))) (rw (read_complete d s₁ t s₂ q (space_stops h end_stops))
    (rw (spaces_complete h refl)))

-- A text is read as a tree, with nothing left, exactly where the grammar gives it this tree.
pub text_agrees : (d : ℕ) (s : List ℕ) (t : Syntax) → (Text d s t → read_text d s ≡ found t []) × (read_text d s ≡ found t [] → Text d s t)
text_agrees d s t = (λ p. text_complete d p, text_sound d s t [])

-- a text has one tree
pub one_tree : {d : ℕ} {s : List ℕ} {t u : Syntax} → Text d s t → Text d s u → t ≡ u
one_tree {d} p q = let e = text_complete d p in let f = text_complete d q in cc

-- where reading is stuck there is no text
pub no_text : {d : ℕ} {s r : List ℕ} {t : Syntax} → read_text d s ≡ stuck r → Text d s t → ⊥
no_text {d} e p = let f = text_complete d p in let z : ◌≡◌ {A = ℕ} 0 1 = cc in omega arith
