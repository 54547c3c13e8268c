-- What the writing of a value is given, and what it leaves.
use Rattle.std.specs.Prelude.{ℕ, ◌-◌, ◌*◌, ◌≤◌, ◌≡◌, List, Bool, length, take, drop}
use Rattle.text_json.specs.Content.{signed}
use Rattle.text_content.specs.Value.{Value, Values, Fields, number, array, object}
use Rattle.text_content.specs.Canonical.{canonical}
use Rattle.laws.specs.Writes.{Writes}
use Rattle.text_view.specs.Place.{ValueAt, kind_of}
use Rattle.text_view.specs.declared.Kind.{Kind}
use Rattle.text_view.specs.declared.Kind.TheVariants.{Array, Object}
use Rattle.text_canonical.specs.Members.{MemberAt, Sorted, member_form}

-- The value v stands at position `at`, and there is space for its canonical form and for the keys of its objects: in the canonical
-- form each key has four bytes of its own, its two marks, its colon, and a comma or the closing brace.
pub record WriteSpace (s : List ℕ) (at depth : ℕ) (v : Value) (out keys spare : List ℕ) : Type 0 where
  pub here : ValueAt s at depth v
  pub short : length s ≤ 65536
  pub form : length (canonical v) ≤ length out
  pub enough : length (canonical v) ≤ 4 * length keys
  pub sorting : length keys ≤ length spare

pub record Writable (s : List ℕ) (at depth : ℕ) (out keys spare : List ℕ) : Type 0 where
  pub value : Value
  pub space : WriteSpace s at depth value out keys spare

pub record WritableArray (s : List ℕ) (at depth : ℕ) (out keys spare : List ℕ) : Type 0 where
  pub values : Values
  pub space : WriteSpace s at depth (array values) out keys spare

pub record WritableObject (s : List ℕ) (at depth : ℕ) (out keys spare : List ℕ) : Type 0 where
  pub fields : Fields
  pub space : WriteSpace s at depth (object fields) out keys spare

-- an object whose keys are given: the first n, in canonical order
pub record WritableMembers (s : List ℕ) (at depth n : ℕ) (out keys spare : List ℕ) : Type 0 where
  pub fields : Fields
  pub space : WriteSpace s at depth (object fields) out keys spare
  pub sorted : Sorted s at depth n keys

-- the value of a whole text; if it is an object, its keys are given
pub record WritableRoot (s : List ℕ) (at n : ℕ) (out keys spare : List ℕ) : Type 0 where
  pub value : Value
  pub space : WriteSpace s at 8 value out keys spare
  pub sorted : (fs : Fields) → value ≡ object fs → Sorted s at 8 n keys

-- an object whose keys fit
pub record KeysFit (s : List ℕ) (at depth : ℕ) (keys : List ℕ) : Type 0 where
  pub fields : Fields
  pub here : ValueAt s at depth (object fields)
  pub short : length s ≤ 65536
  pub enough : length (canonical (object fields)) ≤ 4 * length keys

-- a value that is neither an array nor an object, and its kind
pub record WritableScalar (s : List ℕ) (at : ℕ) (kind : Kind) (out : List ℕ) : Type 0 where
  pub depth : ℕ
  pub value : Value
  pub here : ValueAt s at depth value
  pub tells : kind ≡ kind_of value
  pub no_array : kind ≡ Array → ⊥
  pub no_object : kind ≡ Object → ⊥
  pub form : length (canonical value) ≤ length out

pub record WritableMember (s : List ℕ) (p depth : ℕ) (out keys spare : List ℕ) : Type 0 where
  pub key : List ℕ
  pub value : Value
  pub here : MemberAt s p depth key value
  pub short : length s ≤ 65536
  pub form : length (member_form key value) ≤ length out
  pub enough : length (canonical value) ≤ 4 * length keys
  pub sorting : length keys ≤ length spare

-- r bytes are written, and they are these
abbrev pub Written : List ℕ → List ℕ → ℕ → List ℕ → Type 0
Written before after r bytes = (r ≡ length bytes) × Writes before after bytes

-- the canonical form of the value at position `at` is written
abbrev pub WritesValue : List ℕ → ℕ → ℕ → List ℕ → List ℕ → ℕ → Type 0
WritesValue s at depth before after r = (v : Value) → ValueAt s at depth v → Written before after r (canonical v)

-- the same of a member
abbrev pub WritesMember : List ℕ → ℕ → ℕ → List ℕ → List ℕ → ℕ → Type 0
WritesMember s p depth before after r = (k : List ℕ) (v : Value) → MemberAt s p depth k v → Written before after r (member_form k v)

-- some number
pub record NumberAt (s : List ℕ) (at : ℕ) : Type 0 where
  pub depth : ℕ
  pub negative : Bool
  pub digits : List ℕ
  pub here : ValueAt s at depth (number negative digits)

-- Position e is the one after a number's sign and digits.
pub record DigitsEnd (s : List ℕ) (at e : ℕ) : Type 0 where
  pub later : at ≤ e
  pub within : e ≤ length s
  pub bytes : (depth : ℕ) (n : Bool) (ds : List ℕ) → ValueAt s at depth (number n ds) → take (e - at) (drop at s) ≡ signed n ds
