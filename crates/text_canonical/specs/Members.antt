-- The members of an object, given by the positions of their keys' quotation marks.
use Rattle.std.specs.Prelude.{ℕ, ◌-◌, ◌≤◌, ◌≡◌, List, [], ◌∷◌, ◌++◌, length, take, drop}
use Rattle.laws.specs.Sort.{sort}
use Rattle.text_json.specs.Syntax.{Member}
use Rattle.text_json.specs.Grammar.{Pair, Value as Derives, Stops}
use Rattle.text_json.specs.Content.{unescape, quoted}
use Rattle.text_content.specs.Value.{Value, Fields, no_fields, field, object, content}
use Rattle.text_content.specs.Canonical.{sorted, sorted_fields, canonical}
use Rattle.text_strings.specs.InString.{key_le}
use Rattle.text_keys.specs.Keys.{KeysAt}
use Rattle.text_view.specs.Place.{ValueAt}

-- A member stands at position p; its key has the content k, and its value, nested at most `depth` deep, the content v.
pub record MemberAt (s : List ℕ) (p depth : ℕ) (k : List ℕ) (v : Value) : Type 0 where
  pub tree : Member
  pub rest : List ℕ
  pub derives : Pair (Derives depth) (drop p s) tree rest
  pub stops : Stops rest
  pub key : unescape tree.key ≡ k
  pub means : content tree.value ≡ v

-- At the positions ks stand members with these keys, and sorted these values.
pub data MembersAt (s : List ℕ) (depth : ℕ) : List ℕ → Fields → Type 0 where
  no_members : MembersAt s depth [] no_fields
  member_at : {p : ℕ} {ks k : List ℕ} {v : Value} {fs : Fields} → MemberAt s p depth k v → MembersAt s depth ks fs
      → MembersAt s depth (p ∷ ks) (field k (sorted v) fs)

-- The keys ks are those of the object at position `at`, in the order of the text.
pub record Collected (s : List ℕ) (at depth : ℕ) (ks : List ℕ) : Type 0 where
  pub keys : KeysAt s ks
  pub members : (fs : Fields) → ValueAt s at depth (object fs) → MembersAt s (depth - 1) (sort (key_le s) ks) (sorted_fields fs)

-- The first n keys are those of the object at position `at`, in canonical order.
pub record Sorted (s : List ℕ) (at depth n : ℕ) (keys : List ℕ) : Type 0 where
  pub within : n ≤ length keys
  pub members : (fs : Fields) → ValueAt s at depth (object fs) → MembersAt s (depth - 1) (take n keys) (sorted_fields fs)

-- a member in canonical form
abbrev pub member_form : List ℕ → Value → List ℕ
member_form k v = quoted k ++ (0x3A ∷ canonical v)
