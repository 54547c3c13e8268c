-- What a cursor has before it: the elements of an array, or the members of an object.
use Rattle.std.specs.Prelude.{ℕ, ◌+◌, ◌<◌, ◌≤◌, ◌≡◌, List, true, false, length, drop, Option, Some, None}
use Rattle.text_json.specs.Syntax.{Syntax, elements, members, Member as MemberTree}
use Rattle.text_json.specs.Grammar.{Listed, Pair, Value as Derives}
use Rattle.text_content.specs.Value.{Value, Values, no_values, value, Fields, no_fields, field, array, object, contents, fields}
use Rattle.text_strings.specs.InString.{InString}
use Rattle.text_view.specs.Place.{ValueAt, EndsAt}
use Rattle.text_view.specs.Listed.{ItemAt, ListEndsAt}
use Rattle.text_view.specs.declared.Elements.{Elements}
use Rattle.text_view.specs.declared.Members.{Members}
use Rattle.text_view.specs.declared.Member.{Member}
use Rattle.text_view.specs.declared.Head.{Head}

pub record SomeArray (s : List ℕ) (at depth : ℕ) : Type 0 where
  pub values : Values
  pub here : ValueAt s at depth (array values)

-- The elements vs stand before the cursor.
pub record ElementsLeft (s : List ℕ) (c : Elements) (vs : Values) : Type 0 where
  pub trees : List Syntax
  pub rest : List ℕ
  pub derives : Listed (Derives c.depth) 0x5D (drop c.at s) trees rest
  pub means : contents (elements trees) ≡ vs

pub record SomeElements (s : List ℕ) (c : Elements) : Type 0 where
  pub values : Values
  pub left : ElementsLeft s c values

-- The first of the elements vs stands at position p, and the others before the cursor d, which is further on than the cursor c and before
-- the same end mark.
pub record NextElement (s : List ℕ) (c : Elements) (vs : Values) (p : ℕ) (d : Elements) : Type 0 where
  pub first : Value
  pub others : Values
  pub split : vs ≡ value first others
  pub here : ValueAt s p c.depth first
  pub left : ElementsLeft s d others
  pub depth : d.depth ≡ c.depth
  pub later : c.at < d.at
  pub within : d.at ≤ length s
  pub ends : (e : ℕ) → ListEndsAt s d.at d.depth false e → ListEndsAt s c.at c.depth false e

-- what is given of the elements vs: the first with a cursor, or nothing where there is none
abbrev pub GivesElement : List ℕ → Elements → Values → Option (ℕ × Elements) → Type 0
GivesElement s c vs (Some (p, d)) = NextElement s c vs p d
GivesElement s c vs None = vs ≡ no_values

pub record SomeObject (s : List ℕ) (at depth : ℕ) : Type 0 where
  pub fields : Fields
  pub here : ValueAt s at depth (object fields)

-- The members fs stand before the cursor.
pub record MembersLeft (s : List ℕ) (c : Members) (fs : Fields) : Type 0 where
  pub trees : List MemberTree
  pub rest : List ℕ
  pub derives : Listed (Pair (Derives c.depth)) 0x7D (drop c.at s) trees rest
  pub means : fields (members trees) ≡ fs

pub record SomeMembers (s : List ℕ) (c : Members) : Type 0 where
  pub fields : Fields
  pub left : MembersLeft s c fields

-- The first of the members fs has its key's quotation mark at position p and its value at position q, and the others stand before
-- the cursor d, which is further on than the cursor c and before the same end mark.
pub record NextMember (s : List ℕ) (c : Members) (fs : Fields) (p q : ℕ) (d : Members) : Type 0 where
  pub key : List ℕ
  pub first : Value
  pub others : Fields
  pub split : fs ≡ field key first others
  pub name : InString s (p + 1) key
  pub here : ValueAt s q c.depth first
  pub left : MembersLeft s d others
  pub depth : d.depth ≡ c.depth
  pub later : c.at < d.at
  pub within : d.at ≤ length s
  pub ends : (e : ℕ) → ListEndsAt s d.at d.depth true e → ListEndsAt s c.at c.depth true e

-- what is given of the members fs, likewise
abbrev pub GivesMember : List ℕ → Members → Fields → Option Member → Type 0
GivesMember s c fs (Some m) = NextMember s c fs m.key m.value m.rest
GivesMember s c fs None = fs ≡ no_fields

-- the first of the members fs, by the positions of its key's quotation mark and of its value
pub record FirstMember (s : List ℕ) (c : Members) (fs : Fields) (p q : ℕ) : Type 0 where
  pub key : List ℕ
  pub first : Value
  pub others : Fields
  pub split : fs ≡ field key first others
  pub name : InString s (p + 1) key
  pub here : ValueAt s q c.depth first
  pub place : ItemAt s c.at true p q

-- Position e is the one after the value of the first member before the cursor.
pub record SomeMemberEnd (s : List ℕ) (c : Members) (e : ℕ) : Type 0 where
  pub fields : Fields
  pub left : MembersLeft s c fields
  pub key : ℕ
  pub value : ℕ
  pub first : FirstMember s c fields key value
  pub ends : EndsAt s value c.depth e

abbrev pub GivesHead : List ℕ → Members → Fields → Option Head → Type 0
GivesHead s c fs (Some h) = FirstMember s c fs h.key h.value
GivesHead s c fs None = fs ≡ no_fields
