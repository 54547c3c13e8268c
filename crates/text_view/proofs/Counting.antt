-- What `skip_nested` keeps: how many brackets are open at a position, and that closing them ends the list.
use Prim.Native.Nat.{ℕ, ◌+◌, ◌-◌, ◌<◌, ◌≤◌}
use mathlib.Core.Path.{◌≡◌}
use mathlib.Core.List.{List}
use mathlib.Core.Bool.{Bool}
use native.Mathlib.Omega.{arith}
use lib.ListN.{length, drop, get_or, length-drop}
use Rattle.text_strings.specs.InString.{Inside}
use Rattle.text_view.specs.Place.{StringEndsAt}
use Rattle.text_view.specs.Listed.{AnyList, ListEndsAt}
use Rattle.text_view.proofs.Passing.{chars_inside}
use Rattle.text_view.proofs.Nesting.{Closes, Opens, Ends, list_closes, closes_length, closed, left_within, left_string, left_open, left_end, left_other}

-- At position i o brackets are open, and the text goes on after them as it does after the list from position `from` on.
pub record Counted (s : List ℕ) (from i o : ℕ) : Type 0 where
  pub within : i ≤ length s
  pub later : from < i + o
  pub rest : List ℕ
  pub here : Closes o (drop i s) rest
  pub same : (r : List ℕ) → Closes 1 (drop from s) r → Closes o (drop i s) r

-- At a position from which items and their end mark stand, one bracket is open.
pub counted_start : (s : List ℕ) (from : ℕ) → AnyList s from → Counted s from from 1
counted_start s from p =
    let l = p.list in
    let k = list_closes s from p.depth p.object l.trees l.rest l.here in
    record {
      within = omega (arith, left_within s from 1 l.rest (omega arith) k);
      later = omega arith;
      rest = l.rest;
      here = k;
      same = λ r k. k;
    }

module _ (s : List ℕ) (from i o : ℕ) (some : 0 < o) (c : Counted s from i o) where
  goes_on : (e p : ℕ) → e ≤ length s → from < e + p → ((r : List ℕ) → Closes o (drop i s) r → Closes p (drop e s) r) → Counted s from e p
  goes_on e p w l on = record { within = w; later = l; rest = c.rest; here = on c.rest c.here; same = λ r k. on r (c.same r k) }

  -- Where a bracket is open, the position is below the text's length.
  pub counted_within : i < length s
  counted_within = left_within s i o c.rest some c.here

  -- a string is passed whole
  module _ (quote : get_or s i 0 ≡ 0x22) where
    -- The position after a quotation mark that stands there is inside a string.
    pub counted_inside : Inside s (i + 1)
    counted_inside = let k = left_string s i o c.rest some c.here quote in chars_inside s (i + 1) k.0 k.1 k.2

    -- Where that string ends, as many brackets are open as before it.
    pub counted_string : (e : ℕ) → StringEndsAt s (i + 1) e → Counted s from e o
    counted_string e h =
        let l = c.later in
        let m = h.later in
        goes_on e o h.within (omega arith) (λ r k. let j = left_string s i o r some k quote in rw (h.rest j.0 j.1 j.2) at j.3)

  module _ (mark : Opens (get_or s i 0)) where
    -- After an opening bracket one bracket more is open.
    pub counted_open : Counted s from (i + 1) (o + 1)
    counted_open =
        let l = c.later in
        goes_on (i + 1) (o + 1) (omega (arith, counted_within)) (omega arith) (λ r k. left_open s i o r some k mark)

    -- each open bracket has an end mark that is still to come, so the count is at most the length
    pub open_fits : o + 1 ≤ length s
    open_fits = omega (arith, closes_length (left_open s i o c.rest some c.here mark), length-drop (i + 1) s)

  -- After a closing bracket one bracket fewer is open.
  pub counted_end : Ends (get_or s i 0) → Counted s from (i + 1) (o - 1)
  counted_end mark =
      let l = c.later in
      goes_on (i + 1) (o - 1) (omega (arith, counted_within)) (omega arith) (λ r k. left_end s i o r some k mark)

  -- After a byte that is no quotation mark and no bracket, as many brackets are open as before it.
  pub counted_other : (get_or s i 0 ≡ 0x22 → ⊥) → (Opens (get_or s i 0) → ⊥) → (Ends (get_or s i 0) → ⊥) → Counted s from (i + 1) o
  counted_other q a b =
      let l = c.later in
      goes_on (i + 1) o (omega (arith, counted_within)) (omega arith) (λ r k. left_other s i o r some k q a b)

-- with no bracket open the list has ended
pub counted_done : (s : List ℕ) (from i o : ℕ) → o ≡ 0 → Counted s from i o → (d : ℕ) (object : Bool) → ListEndsAt s from d object i
counted_done s from i o z c d object =
    let l = c.later in
    record { later = omega arith; within = c.within; rest = λ ts r h. closed z (c.same r (list_closes s from d object ts r h)) }
