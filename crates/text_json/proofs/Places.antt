-- A position of a text and the rest of the text from there.
-- Assumes nothing.
use Rattle.std.specs.Prelude.{Ok, Err}
use Prim.Native.Nat.{ℕ, ◌+◌, ◌≤◌, ◌<◌}
use mathlib.Core.Path.{◌≡◌, refl}
use mathlib.Core.List.{List, ◌∷◌}
use mathlib.Core.Bool.{Bool}
use native.Mathlib.Numerals.{add-one}
use lib.ListN.{length, drop, get_or}
use lib.Seq.{drop-cons}
use Rattle.text_json.specs.Read.{Read, found, stuck}
use Rattle.text_json.specs.Scan.{Steps, ScansToken}
use Rattle.text_json.specs.declared.Token.{Token}

-- what is found is found once
pub found_same : {A : Type 0} (a b : A) (r q : List ℕ) → found a r ≡ found b q → a ≡ b
found_same a b r q e = cc

-- before the end: the byte there, and the rest from the next position
pub drop_next : (s : List ℕ) (i : ℕ) → i < length s → drop i s ≡ get_or s i 0 ∷ drop (i + 1) s
drop_next s i h = rw (add-one, drop-cons s i 0)

-- a step or a scan from what the definition gives
module _ {A : Type 0} (s : List ℕ) (i : ℕ) (inside : i ≤ length s) (x : Read A) where
  -- A reading that found something, with the rest from a position of the text on, is a step that ends at this position.
  pub steps_end : (a : A) → x ≡ found a (drop i s) → Steps s x (Ok i)
  steps_end a e = rw e (inside, refl)

  -- A reading that is stuck at a position of the text is a step that is stuck at this position.
  pub steps_stuck : x ≡ stuck (drop i s) → Steps s x (Err i)
  steps_stuck e = rw e (inside, refl)

  -- A reading that is stuck at a position of the text is a scan that found no token and is stuck at this position.
  pub scans_stuck : (refused : A → Bool) (size : A → ℕ) → x ≡ stuck (drop i s) → ScansToken refused size s x (Err i)
  scans_stuck refused size e = rw e (inside, refl)

  -- A reading that found something is a scan of a token that has its end, its refusal and its length.
  pub scans_found : (refused : A → Bool) (size : A → ℕ) (a : A) (f : Bool) (n : ℕ) → x ≡ found a (drop i s) → f ≡ refused a → n ≡ size a
      → ScansToken refused size s x (Ok (record { end = i; refused = f; size = n }))
  scans_found refused size a f n e p q = rw e ((inside, refl), p, q)

-- a token ends within the text
pub token_inside : {A : Type 0} (refused : A → Bool) (size : A → ℕ) (s : List ℕ) (x : Read A) (t : Token) → ScansToken refused size s x (Ok t) → t.end ≤ length s
token_inside refused size s (found a r) t h = h.0.0
token_inside refused size s (stuck r) t h = absurd h
