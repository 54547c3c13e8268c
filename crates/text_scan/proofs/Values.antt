-- Which case of a value it is, by its first byte and the nesting that is left.
use Rattle.std.specs.Prelude.{Result, Ok, Err}
use Prim.Native.Nat.{ℕ, zero, suc, ◌+◌, ◌-◌, ◌<◌, ◌≤◌}
use mathlib.Core.Path.{◌≡◌, refl, sym}
use mathlib.Core.List.{List, ◌∷◌}
use native.Mathlib.Omega.{arith}
use borrow.Author.Tests.{eq-eqb, ne_eqb}
use lib.ListN.{length, drop, get_or, drop_of_length-le}
use Rattle.text_json.specs.Read.{and_then, spaces, read, read_nested, read_scalar, at_end, read_text}
use Rattle.text_tokens.specs.Scanned.{ScansValue}
use Rattle.text_scan.specs.Scanned.{read_array, read_object}
use Rattle.text_json.specs.Scan.{At}
use Rattle.text_tokens.specs.declared.ScannedValue.{ScannedValue}
use Rattle.text_scan.proofs.Results.{IsValue, scans_stuck, read_nothing}
use Rattle.text_tokens.proofs.Tokens.{here}

of_array : (d b : ℕ) (q : List ℕ) → 0 < d → b ≡ 0x5B → read d (b ∷ q) ≡ read_array (d - 1) q
unfolding read read_nested read_array
of_array zero b q h e = absurd (omega arith)
of_array (suc d) b q h e = let m : suc d - 1 ≡ d = omega arith in rw (m, eq-eqb b 0x5B e, read_nested)

of_object : (d b : ℕ) (q : List ℕ) → 0 < d → b ≡ 0x7B → read d (b ∷ q) ≡ read_object (d - 1) q
unfolding read read_nested read_object
of_object zero b q h e = absurd (omega arith)
of_object (suc d) b q h e = let m : suc d - 1 ≡ d = omega arith in rw (m, e)

of_scalar : (d b : ℕ) (q : List ℕ) → (b ≡ 0x5B → ⊥) → (b ≡ 0x7B → ⊥) → read d (b ∷ q) ≡ read_scalar (b ∷ q)
unfolding read read_nested
of_scalar zero b q e f = refl
of_scalar (suc d) b q e f = rw (ne_eqb b 0x5B e, read_nested) (rw (ne_eqb b 0x7B f))

-- Where an opening brace stands and the depth is not 0, a value is read as an object whose members stand after the brace.
pub reads_object : (s : List ℕ) (at depth : ℕ) → at < length s → 0 < depth → get_or s at 0 ≡ 0x7B
    → read depth (drop at s) ≡ read_object (depth - 1) (drop (at + 1) s)
reads_object s at depth w h e = rw (here s at w) (of_object depth (get_or s at 0) (drop (at + 1) s) h e)

module _ (s : List ℕ) (at depth : ℕ) (x : Result ScannedValue ℕ) where
  -- Where an opening bracket stands and the depth is not 0, a scan of what follows it as an array is a scan of the value.
  pub is_an_array : at < length s → 0 < depth → get_or s at 0 ≡ 0x5B → ScansValue s (read_array (depth - 1) (drop (at + 1) s)) x
      → ScansValue s (read depth (drop at s)) x
  is_an_array w h e p = rw (here s at w, of_array depth (get_or s at 0) (drop (at + 1) s) h e) p

  -- The same for an opening brace and an object.
  pub is_an_object : at < length s → 0 < depth → get_or s at 0 ≡ 0x7B → ScansValue s (read_object (depth - 1) (drop (at + 1) s)) x
      → ScansValue s (read depth (drop at s)) x
  is_an_object w h e p = rw (reads_object s at depth w h e) p

  module _ (p : ScansValue s (read_scalar (drop at s)) x) where
    -- Where neither an opening bracket nor an opening brace stands, a scan of a scalar is a scan of the value.
    pub is_scalar : at < length s → (get_or s at 0 ≡ 0x5B → ⊥) → (get_or s at 0 ≡ 0x7B → ⊥) → ScansValue s (read depth (drop at s)) x
    is_scalar w e f = rw (here s at w, of_scalar depth (get_or s at 0) (drop (at + 1) s) e f) (rw (here s at w) at p)

    -- At the depth 0, a scan of a scalar is a scan of the value.
    pub at_bottom : depth ≤ 0 → ScansValue s (read depth (drop at s)) x
    unfolding read
    at_bottom h = let m : depth ≡ 0 = omega arith in rw m p

    -- At the end of the text, a scan of a scalar is a scan of the value.
    pub at_the_end : length s ≤ at → ScansValue s (read depth (drop at s)) x
    unfolding read_scalar
    at_the_end h = rw (drop_of_length-le s {i = at} h, read_nothing depth) (rw (drop_of_length-le s {i = at} h) at p)

-- A whole text: spaces up to `at`, and a value there.
module _ (s : List ℕ) (at : ℕ) (p : At s at (spaces s)) where
  -- If reading the value is stuck, reading the text is stuck at the same position.
  pub text_stuck : (e : ℕ) → ScansValue s (read 8 (drop at s)) (Err e) → ScansValue s (read_text 8 s) (Err e)
  unfolding read_text and_then
  text_stuck e q =
      let r = scans_stuck s (read 8 (drop at s)) e q in
      rw (p.1, r.1) (r.0, refl)

  module _ (f : ScannedValue) (q : IsValue s (read 8 (drop at s)) f) (end : ℕ) (w : At s end (spaces (drop f.end s))) where
    -- something else follows it
    pub text_junk : end < length s → ScansValue s (read_text 8 s) (Err end)
    unfolding read_text and_then at_end
    text_junk h = rw (p.1, q.reads, w.1, here s end h) (w.0, sym (here s end h))

    -- If only spaces follow the value, the text is read to its end, with the value's summary and the number of its own keys.
    pub text_whole : length s ≤ end → ScansValue s (read_text 8 s) (Ok (record { end = end; count = f.count; sum = f.sum }))
    unfolding read_text and_then at_end
    text_whole h = rw (p.1, q.reads, w.1, drop_of_length-le s {i = end} h) ((w.0, sym (drop_of_length-le s {i = end} h)), q.sum, q.count)
