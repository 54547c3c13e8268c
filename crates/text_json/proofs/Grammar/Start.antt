-- Where reading is stuck is where the longest start of the text ends that some JSON text begins with.
use Prim.Native.Nat.{ℕ, zero, suc, ◌+◌, ◌-◌, ◌≤◌, ◌<◌}
use native.Mathlib.Omega.{arith}
use mathlib.Core.Path.{◌≡◌}
use mathlib.Core.List.{List, [], ◌∷◌, ◌++◌}
use lib.ListN.{length, take}
use Rattle.text_json.specs.Bytes.{AllBytes}
use Rattle.text_json.specs.Syntax.{Syntax}
use Rattle.text_json.specs.Grammar.{Text}
use Rattle.text_json.specs.Read.{Read, found, stuck, read_text}
use Rattle.text_json.proofs.Grammar.Ends.{Ends, all, after, ends_length}
use Rattle.text_json.proofs.Grammar.Answer.{answer_stuck}
use Rattle.text_json.proofs.Grammar.Agree.{text_complete, text_stuck_ends}
use Rattle.text_json.proofs.Grammar.Local.{Along, beyond, along, Local, past, founds, stucks, text_local}
use Rattle.text_json.proofs.Grammar.AsBytes.{as_bytes, bytes_below, start_same, bytes_append, text_kept}
use Rattle.text_json.proofs.Grammar.Open.{Swap, here, next, has, Opened, opened, Around, around, text_opens}

swap_length : {r u s s' : List ℕ} → Swap r u s s' → length r ≤ length s
swap_length here = omega arith
swap_length (next w) = let h = swap_length w in omega arith

swap_take : {r u s s' : List ℕ} → Swap r u s s' → s' ≡ take (length s - length r) s ++ u
swap_take {r} here = let e : length r - length r ≡ 0 = omega arith in rw e
swap_take {r} {u} (next {b} {s} w) =
    let h = swap_length w in
    let e : suc (length s) - length r ≡ suc (length s - length r) = omega arith in
    rw e (cc (swap_take w))

some_start : (d : ℕ) (s r : List ℕ) → read_text d s ≡ stuck r → (w : List ℕ) × (t : Syntax) × Text d (take (length s - length r) s ++ w) t
some_start d s r e = go (answer_stuck (text_opens d s) e [])
  where
    go : Opened (Around d) s r [] → (w : List ℕ) × (t : Syntax) × Text d (take (length s - length r) s ++ w) t
    go (opened {u} {s'} w (around p (has {x} q) h)) = let k : Text d s' x = Text.text p q h in (u, x, rw (swap_take w) at k)

-- Where reading a list of bytes is stuck, its start up to there and some more bytes are a JSON text.
pub stuck_start : (d : ℕ) (s r : List ℕ) → AllBytes s → read_text d s ≡ stuck r
    → (w : List ℕ) × (t : Syntax) × AllBytes w × Text d (take (length s - length r) s ++ w) t
stuck_start d s r h e =
    let n = length s - length r in
    let k = some_start d s r e in
    let m = text_kept d k.2 in
    (as_bytes k.0, m.0, bytes_below k.0, rw (bytes_append (take n s) k.0, start_same n s h) at m.1)

-- with the byte b of the text one more, it is the same text as far as q
along_take : {b : ℕ} {q s : List ℕ} → Ends (b ∷ q) s → (j : ℕ) (w : List ℕ) → length s < j + length (b ∷ q) → Along q s (take j s ++ w)
along_take all zero w l = absurd (omega arith)
along_take all (suc j) w l = along (beyond all)
along_take (after e) zero w l = let h = ends_length e in absurd (omega arith)
along_take (after e) (suc j) w l = along (along_take e j w (omega arith))

blocked : {A : Type 0} {b : ℕ} {q : List ℕ} {x y : Read A} (t : A) (r : List ℕ) → Local q x y → x ≡ stuck (b ∷ q) → y ≡ found t r → ⊥
blocked {q} t r (past h) e f = let l = ends_length (rw e at h) in omega arith
blocked t r (founds h) e f = let z : ◌≡◌ {A = ℕ} 0 1 = cc in omega arith
blocked t r (stucks h) e f = let z : ◌≡◌ {A = ℕ} 0 1 = cc in omega arith

-- No longer start of it is the start of a JSON text, whatever follows.
pub stuck_longest : (d : ℕ) (s r : List ℕ) → read_text d s ≡ stuck r → (j : ℕ) → length s - length r < j → j ≤ length s
    → (w : List ℕ) (t : Syntax) → Text d (take j s ++ w) t → ⊥
stuck_longest d s [] e j l m w t p = omega arith
stuck_longest d s (b ∷ q) e j l m w t p =
    let i = text_stuck_ends d s (b ∷ q) e in
    blocked t [] (text_local d (along_take i j w (omega arith))) e (text_complete d p)
