-- The items of an array or an object in place: elements, or members where `object` is true.
use Rattle.std.specs.Prelude.{ℕ, ◌<◌, ◌≤◌, ◌≡◌, List, [], ◌∷◌, Bool, true, false, length, drop, get_or, Option, Some, None}
use Rattle.text_json.specs.Syntax.{Syntax, Member}
use Rattle.text_json.specs.Grammar.{Listed, Pair, Value as Derives, Stops}
use Rattle.text_json.specs.Read.{spaces}
use Rattle.text_view.specs.Place.{EndsAt}
use Rattle.text_view.specs.declared.value.Item.{Item}
use Rattle.text_view.specs.declared.value.Item.TheVariants.{At, End}
use Rattle.text_view.specs.declared.value.Peek.{Peek}

abbrev pub Tree : Bool → Type 0
Tree false = Syntax
Tree true = Member

abbrev pub value_tree : (object : Bool) → Tree object → Syntax
value_tree false t = t
value_tree true m = m.value

abbrev pub DerivesItem : (object : Bool) → ℕ → List ℕ → Tree object → List ℕ → Type 0
DerivesItem false depth = Derives depth
DerivesItem true depth = Pair (Derives depth)

abbrev pub open_mark : Bool → ℕ
open_mark false = 0x5B
open_mark true = 0x7B

abbrev pub end_mark : Bool → ℕ
end_mark false = 0x5D
end_mark true = 0x7D

-- From position `at` on stand the items ts and the end mark, and then the text goes on as r.
abbrev pub ListAt : List ℕ → ℕ → ℕ → (object : Bool) → List (Tree object) → List ℕ → Type 0
ListAt s at depth object ts r = Listed (DerivesItem object depth) (end_mark object) (drop at s) ts r

pub record SomeList (s : List ℕ) (at depth : ℕ) (object : Bool) : Type 0 where
  pub trees : List (Tree object)
  pub rest : List ℕ
  pub here : ListAt s at depth object trees rest

-- the items of an array or an object of some depth, and their end mark
pub record AnyList (s : List ℕ) (at : ℕ) : Type 0 where
  pub depth : ℕ
  pub object : Bool
  pub list : SomeList s at depth object

-- Position e is the one after the end mark.
pub record ListEndsAt (s : List ℕ) (at depth : ℕ) (object : Bool) (e : ℕ) : Type 0 where
  pub later : at < e
  pub within : e ≤ length s
  pub rest : (ts : List (Tree object)) (r : List ℕ) → ListAt s at depth object ts r → r ≡ drop e s

-- an item stands at position p
pub record SomeItem (s : List ℕ) (p : ℕ) (object : Bool) : Type 0 where
  pub depth : ℕ
  pub tree : Tree object
  pub rest : List ℕ
  pub derives : DerivesItem object depth (drop p s) tree rest
  pub stops : Stops rest

-- The value of the item at position p stands at position v.
pub record ItemValue (s : List ℕ) (p : ℕ) (object : Bool) (v : ℕ) : Type 0 where
  pub later : p ≤ v
  pub value : (depth : ℕ) (t : Tree object) (r : List ℕ) → DerivesItem object depth (drop p s) t r → Derives depth (drop v s) (value_tree object t) r

-- Of the items from position `at` on there is one: it stands at position p, after spaces, and its value at position v.
pub record ItemAt (s : List ℕ) (at : ℕ) (object : Bool) (p v : ℕ) : Type 0 where
  pub reached : at ≤ p
  pub start : spaces (drop at s) ≡ drop p s
  pub more : get_or s p 0 ≡ end_mark object → ⊥
  pub value : ItemValue s p object v

-- Position e is the one after the value of the first of some items.
pub record SomeItemEnd (s : List ℕ) (e : ℕ) : Type 0 where
  pub at : ℕ
  pub depth : ℕ
  pub object : Bool
  pub list : SomeList s at depth object
  pub first : ℕ
  pub value : ℕ
  pub place : ItemAt s at object first value
  pub ends : EndsAt s value depth e

-- From position `at` on stands an end mark, and no item.
pub record NoItems (s : List ℕ) (at : ℕ) : Type 0 where
  pub depth : ℕ
  pub object : Bool
  pub rest : List ℕ
  pub here : ListAt s at depth object [] rest

-- The first of the items from position `at` on is t, at position p with its value at position v, and the others stand from
-- position n on.
pub record FirstAt (s : List ℕ) (at depth : ℕ) (object : Bool) (t : Tree object) (ts : List (Tree object)) (r : List ℕ) (p v n : ℕ) : Type 0 where
  pub after : List ℕ
  pub derives : DerivesItem object depth (drop p s) t after
  pub value : Derives depth (drop v s) (value_tree object t) after
  pub stops : Stops after
  pub others : ListAt s n depth object ts r
  pub later : at < n
  pub within : n ≤ length s

-- what is read of the items ts: the first, or the end where there is none
abbrev pub GivesItem : List ℕ → ℕ → ℕ → (object : Bool) → List (Tree object) → List ℕ → Item → Type 0
GivesItem s at depth object [] r (End e) = (at < e) × (e ≤ length s) × (r ≡ drop e s)
GivesItem s at depth object [] r (At p v n) = ⊥
GivesItem s at depth object (t ∷ ts) r (End e) = ⊥
GivesItem s at depth object (t ∷ ts) r (At p v n) = FirstAt s at depth object t ts r p v n

-- the first of the items from position `at` on is t, at position p with its value at position v
pub record HeadOf (s : List ℕ) (at depth : ℕ) (object : Bool) (t : Tree object) (p v : ℕ) : Type 0 where
  pub place : ItemAt s at object p v
  pub after : List ℕ
  pub derives : DerivesItem object depth (drop p s) t after
  pub value : Derives depth (drop v s) (value_tree object t) after
  pub stops : Stops after

-- the same of the first of the items ts, and nothing of the others
abbrev pub Peeks : List ℕ → ℕ → ℕ → (object : Bool) → List (Tree object) → Option Peek → Type 0
Peeks s at depth object [] None = Unit {0}
Peeks s at depth object [] (Some h) = ⊥
Peeks s at depth object (t ∷ ts) None = ⊥
Peeks s at depth object (t ∷ ts) (Some h) = HeadOf s at depth object t h.first h.value
