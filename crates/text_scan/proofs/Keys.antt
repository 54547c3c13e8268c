-- The keys that the reading of an object leaves: when they are those of a value, and of a text.
use Rattle.std.specs.Prelude.{Result, Ok, Err}
use Prim.Native.Nat.{ℕ, zero, suc, ◌+◌, ◌-◌, ◌<◌, ◌≤◌}
use mathlib.Core.Path.{◌≡◌, refl, sym, ap, subst, ◌∙◌}
use mathlib.Core.List.{List, [], ◌∷◌, ◌++◌}
use native.Mathlib.Omega.{arith}
use native.Mathlib.Nat.{add-zero}
use lib.ListN.{length, take, drop, get_or, length-append}
use lib.Seq.{take_at}
use Rattle.laws.specs.Sort.{sort}
use Rattle.text_json.specs.Syntax.{Syntax, Member, Members, object, members}
use Rattle.text_json.specs.Grammar.{Scalar, Nested, Value as Derives}
use Rattle.text_json.specs.Read.{Read, found, stuck, and_then, spaces, read, at_end, read_text}
use Rattle.text_json.specs.Scan.{At}
use Rattle.text_json.proofs.Grammar.Sound.{read_sound}
use Rattle.text_strings.specs.InString.{key_le}
use Rattle.text_strings.proofs.Views.{byte_at, below_at}
use Rattle.text_keys.specs.Repeats.{no_places}
use Rattle.text_keys.proofs.Members.{members_same}
use Rattle.text_tokens.specs.Scanned.{closed_value}
use Rattle.text_scan.specs.Scanned.{KeysOf, LeavesKeys, SortedKeys, read_object}
use Rattle.text_tokens.specs.declared.Summary.{Summary}
use Rattle.text_scan.proofs.Values.{reads_object}
use Rattle.text_tokens.specs.declared.ScannedValue.{ScannedValue}

-- from the members that were read
pub keys_of : (s : List ℕ) (x : Read Syntax) (ms : List Member) (r : List ℕ) (n : ℕ) (keys : List ℕ) → x ≡ found (object (members ms)) r
    → SortedKeys s ms n keys → KeysOf s x n keys
keys_of s x ms r n keys e h ns q f =
    let z : found (object (members ms)) r ≡ found (object (members ns)) q = sym e ∙ f in
    let g : members ms ≡ members ns = cc in
    subst (λ (l : List Member). SortedKeys s l n keys) (members_same ms ns g) h

-- an object without members
pub no_keys_left : (s keys : List ℕ) → SortedKeys s [] 0 keys
unfolding sort
no_keys_left s keys = record { places = []; here = no_places; within = omega arith; sorted = refl }

-- the keys of an object whose end was read, sorted in place before what the list held past them
pub closed_keys : (s : List ℕ) (x : Read Syntax) (e : ℕ) (sum : Summary) (ks ls xs rest : List ℕ) (z : Result ScannedValue ℕ)
    → z ≡ closed_value s e sum ks → xs ≡ sort (key_le s) ks → length xs ≡ length ks → ks ≡ ls
    → ((n : ℕ) (keys : List ℕ) → n ≤ length keys → take n keys ≡ sort (key_le s) ls → KeysOf s x n keys) → LeavesKeys s x (xs ++ rest) z
closed_keys s x e sum ks ls xs rest z a b c d h =
    subst (LeavesKeys s x (xs ++ rest)) (sym a)
    (h (length ks) (xs ++ rest) (omega (arith, length-append xs rest)) (take_at xs rest (length ks) c ∙ b ∙ ap (sort (key_le s)) d))

-- what an object leaves, by the byte before it
pub object_keys : (s : List ℕ) (at depth : ℕ) (keys : List ℕ) (z : Result ScannedValue ℕ) → at < length s → 0 < depth → get_or s at 0 ≡ 0x7B
    → LeavesKeys s (read_object (depth - 1) (drop (at + 1) s)) keys z → LeavesKeys s (read depth (drop at s)) keys z
object_keys s at depth keys z w h e p = subst (λ (x : Read Syntax). LeavesKeys s x keys z) (sym (reads_object s at depth w h e)) p

-- without an opening brace no object is read
scalar_other : {l r : List ℕ} {t : Syntax} (ms : Members) → Scalar l t r → t ≡ object ms → ⊥
scalar_other ms (Scalar.is_null p) e = let z : ◌≡◌ {A = ℕ} 0 1 = cc in omega arith
scalar_other ms (Scalar.is_true p) e = let z : ◌≡◌ {A = ℕ} 0 1 = cc in omega arith
scalar_other ms (Scalar.is_false p) e = let z : ◌≡◌ {A = ℕ} 0 1 = cc in omega arith
scalar_other ms (Scalar.is_a_number p) e = let z : ◌≡◌ {A = ℕ} 0 1 = cc in omega arith
scalar_other ms (Scalar.is_a_string p) e = let z : ◌≡◌ {A = ℕ} 0 1 = cc in omega arith

brace_first : (s : List ℕ) (at d : ℕ) (l : List ℕ) (t : Syntax) (r : List ℕ) (ms : Members) → drop at s ≡ l → t ≡ object ms → Derives d l t r
    → (at < length s) × (get_or s at 0 ≡ 0x7B)
brace_first s at zero l t r ms e f p = absurd (scalar_other ms p f)
brace_first s at (suc d) l t r ms e f (Nested.is_scalar p) = absurd (scalar_other ms p f)
brace_first s at (suc d) l t r ms e f (Nested.is_an_array q p) = let z : ◌≡◌ {A = ℕ} 0 1 = cc in absurd (omega arith)
brace_first s at (suc d) l t r ms e f (Nested.is_an_object {b} {s = m} q p) =
    (rw add-zero at (below_at s at (b ∷ m) e 0 (omega arith)), rw add-zero at (byte_at s at (b ∷ m) e 0) ∙ q)

-- If no opening brace stands at a position, no object is read there, and any keys may be left.
pub no_object : (s : List ℕ) (at depth : ℕ) (keys : List ℕ) (z : Result ScannedValue ℕ) → (at < length s → get_or s at 0 ≡ 0x7B → ⊥)
    → LeavesKeys s (read depth (drop at s)) keys z
no_object s at depth keys (Ok f) n = λ ms r e.
    let b = brace_first s at depth (drop at s) (object (members ms)) r (members ms) refl refl (read_sound depth (drop at s) (object (members ms)) r e) in
    absurd (n b.0 b.1)
no_object s at depth keys (Err e) n = tt

-- what the value of a text leaves, which stands after its first spaces
pub text_keys : (s : List ℕ) (at n : ℕ) (keys : List ℕ) → At s at (spaces s) → KeysOf s (read 8 (drop at s)) n keys → KeysOf s (read_text 8 s) n keys
unfolding read_text and_then at_end
text_keys s at n keys p h ms r e = go (read 8 (drop at s)) refl (rw p.1 at e)
  where
    ended : (t : Syntax) (q : List ℕ) → at_end t q ≡ found (object (members ms)) r → t ≡ object (members ms)
    ended t [] f = cc
    ended t (b ∷ q) f = let z : ◌≡◌ {A = ℕ} 0 1 = cc in absurd (omega arith)

    go : (x : Read Syntax) → read 8 (drop at s) ≡ x → and_then x (λ t q. at_end t (spaces q)) ≡ found (object (members ms)) r → SortedKeys s ms n keys
    go (found t q) f g = h ms q (f ∙ ap (λ (u : Syntax). found u q) (ended t (spaces q) g))
    go (stuck q) f g = let z : ◌≡◌ {A = ℕ} 0 1 = cc in absurd (omega arith)
