-- The value of a text that is taken stands at its root. Assumes nothing.
use Rattle.std.specs.Prelude.{Result}
use Prim.Native.Nat.{ℕ, ◌≤◌}
use mathlib.Core.Path.{◌≡◌, sym, ap, ◌∙◌}
use mathlib.Core.List.{List}
use mathlib.Core.Bool.{Bool}
use native.Mathlib.Omega.{arith}
use lib.ListN.{length}
use Rattle.text_content.specs.Value.{content}
use Rattle.text_json.specs.Syntax.{Syntax}
use Rattle.text_json.specs.Grammar.{Text}
use Rattle.text.specs.Answer.{checked, number_of}
use Rattle.text.specs.Question.{text_number}
use Rattle.text.proofs.Numbers.{number_checked}
use Rattle.text.proofs.Taken.{Taken, taken, taken_text}
use Rattle.text_view.specs.Place.{ValueAt, Readable}
use Rattle.text.specs.Accepted.{accepted_text}
use Rattle.text.specs.declared.Accepted.{Accepted}
use Rattle.text.specs.declared.Fault.{Fault}

module _ (s : List ℕ) (r : Result Accepted Fault) (e : r ≡ checked s) (n : ℕ) (own : Bool) (f : r ≡ accepted_text n own) where
  -- A text that checking accepts gets the number 0.
  pub zero_number : text_number s ≡ 0
  zero_number = sym (number_checked s) ∙ ap number_of (sym e ∙ f)

  -- A text that checking accepts is short, and is read as a tree whose strings, numbers and keys have no fault.
  pub known : Taken s
  known = taken s zero_number

  -- A text that checking accepts has at most 65,536 bytes.
  pub root_short : length s ≤ 65536
  root_short = omega (arith, known.short)

  -- the value stands at the root
  module _ (at : ℕ) (root : (depth : ℕ) (t : Syntax) → Text depth s t → ValueAt s at depth (content t)) where
    -- The content of the text stands at the position of its root, nested at most 8 deep.
    pub root_here : ValueAt s at 8 (content known.tree)
    root_here = root 8 known.tree (taken_text s known)

    -- Some value stands at the position of its root, nested at most 8 deep.
    pub root_readable : Readable s at 8
    root_readable = record { value = content known.tree; here = root_here }
