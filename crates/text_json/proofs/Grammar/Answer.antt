-- What holds of the answer of a reading: P of what was found and the rest, or Q of the rest from which it is stuck.
use Prim.Native.Nat.{ℕ}
use mathlib.Core.Path.{◌≡◌, refl}
use mathlib.Core.List.{List, ◌∷◌}
use mathlib.Core.Bool.{Bool, true, false}
use native.Mathlib.Omega.{arith}
use Rattle.text_json.specs.Read.{Read, found, stuck, and_then, prepend}
use Rattle.text_json.proofs.Grammar.Ends.{Ends, after, ends_trans}

pub data Answer {A : Type 0} (P : A → List ℕ → Type 0) (Q : List ℕ → Type 0) : Read A → Type 0 where
  is_found : {x : A} {r : List ℕ} → P x r → Answer P Q (found x r)
  is_stuck : {r : List ℕ} → Q r → Answer P Q (stuck r)

-- of a text s: R relates s to what was found and the rest, and where reading is stuck is an end of s
abbrev pub Reads : {A : Type 0} → (List ℕ → A → List ℕ → Type 0) → List ℕ → Read A → Type 0
Reads R s x = Answer (R s) (λ r. Ends r s) x

-- a test's two cases, with the equation
pub by_test : {C : Type 0} (b : Bool) → (b ≡ true → C) → (b ≡ false → C) → C
by_test true f g = f refl
by_test false f g = g refl

module _ {A : Type 0} {P : A → List ℕ → Type 0} {Q : List ℕ → Type 0} where
  -- If an answer is something found, `P` holds of it and its rest.
  pub answer_found : {x : A} {r : List ℕ} {y : Read A} → Answer P Q y → y ≡ found x r → P x r
  answer_found {x} {r} (is_found {x = x₁} {r = r₁} p) e =
      let i : x₁ ≡ x = cc in let j : r₁ ≡ r = cc in rw (← i, ← j) p
  answer_found (is_stuck q) e = let z : ◌≡◌ {A = ℕ} 0 1 = cc in absurd (omega arith)

  -- If an answer is stuck, `Q` holds of the rest from which it is stuck.
  pub answer_stuck : {r : List ℕ} {y : Read A} → Answer P Q y → y ≡ stuck r → Q r
  answer_stuck (is_found p) e = let z : ◌≡◌ {A = ℕ} 0 1 = cc in absurd (omega arith)
  answer_stuck {r} (is_stuck {r = r₁} q) e = let j : r₁ ≡ r = cc in rw (← j) q

  -- What holds of an answer may be replaced by what follows from it, both for what was found and for where it is stuck.
  pub answer_map : {P' : A → List ℕ → Type 0} {Q' : List ℕ → Type 0} {y : Read A} → ((x : A) (r : List ℕ) → P x r → P' x r)
      → ((r : List ℕ) → Q r → Q' r) → Answer P Q y → Answer P' Q' y
  answer_map f g (is_found p) = is_found (f _ _ p)
  answer_map f g (is_stuck q) = is_stuck (g _ q)

  -- What holds of a second reading after all that a first one may find, and where the first is stuck, holds of both in a row.
  pub answer_then : {B : Type 0} {P' : B → List ℕ → Type 0} {y : Read A} {f : A → List ℕ → Read B} → Answer P Q y
      → ((x : A) (r : List ℕ) → P x r → Answer P' Q (f x r)) → Answer P' Q (and_then y f)
  unfolding and_then
  answer_then (is_found p) k = k _ _ p
  answer_then (is_stuck q) k = is_stuck q

-- an end of an end is one of the text
pub reads_within : {A : Type 0} {P : A → List ℕ → Type 0} {q s : List ℕ} {y : Read A} → Ends q s → Answer P (λ r. Ends r q) y
    → Answer P (λ r. Ends r s) y
reads_within e a = answer_map (λ _ _ h. h) (λ _ f. ends_trans f e) a

-- what follows a found part is read from the part's rest, itself an end of the text
pub reads_then : {A B : Type 0} {P : A → List ℕ → Type 0} {P' : B → List ℕ → Type 0} {s : List ℕ} {y : Read A} {f : A → List ℕ → Read B}
    → Answer P (λ r. Ends r s) y → ((x : A) (r : List ℕ) → P x r → Ends r s)
    → ((x : A) (r : List ℕ) → P x r → Answer P' (λ q. Ends q r) (f x r)) → Answer P' (λ q. Ends q s) (and_then y f)
reads_then a ends k = answer_then a (λ x r p. reads_within (ends x r p) (k x r p))

-- the first byte of the text is gone already
pub reads_after : {A : Type 0} {P P' : A → List ℕ → Type 0} {b : ℕ} {s : List ℕ} {y : Read A}
    → ((x : A) (r : List ℕ) → P x r → P' x r) → Answer P (λ r. Ends r s) y → Answer P' (λ r. Ends r (b ∷ s)) y
reads_after f a = answer_map f (λ _ e. after e) a

-- a reading put into a form of its own
pub reads_as : {A B : Type 0} {P : A → List ℕ → Type 0} {P' : B → List ℕ → Type 0} {s : List ℕ} {y : Read A} (g : A → B)
    → Answer P (λ r. Ends r s) y → ((x : A) (r : List ℕ) → P x r → P' (g x) r) → Answer P' (λ r. Ends r s) (and_then y (λ x r. found (g x) r))
unfolding and_then
reads_as g (is_found p) k = is_found (k _ _ p)
reads_as g (is_stuck q) k = is_stuck q

-- With an item put before the list that was found, an answer has the condition that follows for the longer list.
pub reads_prepend : {A : Type 0} {P P' : List A → List ℕ → Type 0} {s : List ℕ} {y : Read (List A)} (x : A)
    → Answer P (λ r. Ends r s) y → ((xs : List A) (r : List ℕ) → P xs r → P' (x ∷ xs) r) → Answer P' (λ r. Ends r s) (prepend x y)
unfolding prepend
reads_prepend x (is_found p) k = is_found (k _ _ p)
reads_prepend x (is_stuck q) k = is_stuck q
