-- A string of the text, as a value or as a key, is one that the crate `strings` reads.
use Prim.Native.Nat.{ℕ, zero, suc, ◌+◌}
use mathlib.Core.Path.{◌≡◌, refl, ◌∙◌}
use mathlib.Core.List.{List}
use native.Mathlib.Omega.{arith}
use lib.ListN.{drop, get_or}
use Rattle.text_json.specs.Syntax.{Syntax, Char, Member}
use Rattle.text_json.specs.Grammar.{String, Scalar, Pair, Nested, Value as Derives}
use Rattle.text_json.specs.Content.{unescape}
use Rattle.text_content.specs.Value.{string, content}
use Rattle.text_strings.specs.InString.{InString}
use Rattle.text_view.specs.Place.{ValueAt}
use Rattle.text_view.proofs.Values.{begins}

-- the content starts after the quotation mark
pub string_at : (s : List ℕ) (p : ℕ) (l : List ℕ) (cs : List Char) (r : List ℕ) → drop p s ≡ l → String l cs r
    → (get_or s p 0 ≡ 0x22) × InString s (p + 1) (unescape cs)
string_at s p l cs r e (String.quoted {q = b} {s = m} f k) =
    let h = begins s p b m e in
    (h.byte ∙ f, record { chars = cs; rest = r; reads = rw h.next k; content = refl })

module _ (s : List ℕ) (p : ℕ) (c : List ℕ) where
  scalar_string : (l : List ℕ) (t : Syntax) (r : List ℕ) → drop p s ≡ l → content t ≡ string c → Scalar l t r
      → (get_or s p 0 ≡ 0x22) × InString s (p + 1) c
  unfolding content
  scalar_string l t r e m (Scalar.is_a_string {cs = cs} k) = let f : unescape cs ≡ c = cc in rw f at (string_at s p l cs r e k)
  scalar_string l t r e m (Scalar.is_null k) = let z : ◌≡◌ {A = ℕ} 0 1 = cc in absurd (omega arith)
  scalar_string l t r e m (Scalar.is_true k) = let z : ◌≡◌ {A = ℕ} 0 1 = cc in absurd (omega arith)
  scalar_string l t r e m (Scalar.is_false k) = let z : ◌≡◌ {A = ℕ} 0 1 = cc in absurd (omega arith)
  scalar_string l t r e m (Scalar.is_a_number k) = let z : ◌≡◌ {A = ℕ} 0 1 = cc in absurd (omega arith)

  value_string : (d : ℕ) (l : List ℕ) (t : Syntax) (r : List ℕ) → drop p s ≡ l → content t ≡ string c → Derives d l t r
      → (get_or s p 0 ≡ 0x22) × InString s (p + 1) c
  unfolding content
  value_string zero l t r e m k = scalar_string l t r e m k
  value_string (suc d) l t r e m (Nested.is_scalar k) = scalar_string l t r e m k
  value_string (suc d) l t r e m (Nested.is_an_array f k) = let z : ◌≡◌ {A = ℕ} 0 1 = cc in absurd (omega arith)
  value_string (suc d) l t r e m (Nested.is_an_object f k) = let z : ◌≡◌ {A = ℕ} 0 1 = cc in absurd (omega arith)

  -- a value that is a string: its quotation mark, and its content after it
  pub string_value : (d : ℕ) → ValueAt s p d (string c) → (get_or s p 0 ≡ 0x22) × InString s (p + 1) c
  string_value d v = value_string d (drop p s) v.tree v.rest refl v.means v.derives

pair_key : (s : List ℕ) (p d : ℕ) (l : List ℕ) (m : Member) (r : List ℕ) → drop p s ≡ l → Pair (Derives d) l m r
    → (get_or s p 0 ≡ 0x22) × InString s (p + 1) (unescape m.key)
pair_key s p d l m r e (Pair.pair {s₁ = q} {cs = cs} k a b c v) = string_at s p l cs q e k

-- the key of a member
pub member_key : (s : List ℕ) (p d : ℕ) (m : Member) (r : List ℕ) → Pair (Derives d) (drop p s) m r
    → (get_or s p 0 ≡ 0x22) × InString s (p + 1) (unescape m.key)
member_key s p d m r k = pair_key s p d (drop p s) m r refl k
