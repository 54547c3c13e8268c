-- How far a string's content is written.
use Prim.Native.Nat.{ℕ, ◌+◌, ◌-◌, ◌≤◌, ◌<◌}
use mathlib.Core.Path.{◌≡◌, refl, sym, ap, subst, ◌∙◌}
use mathlib.Core.List.{List, [], ◌∷◌, ◌++◌, append_assoc, append-nil}
use native.Mathlib.Omega.{arith}
use lib.ListN.{length, take, drop, get_or, set, length-append, length-drop}
use lib.Seq.{length-take-le}
use borrow.Rule.Slice.PartMut.{mid_of, put_mid}
use Rattle.text_utf8.specs.Scalar.{encode}
use Rattle.text_json.specs.Content.{escaped, quoted}
use Rattle.text_strings.specs.InString.{InString, Inside, Escapes, EscapeAt, content_from}
use Rattle.text_strings.proofs.Contents.{inside_content}
use Rattle.text_strings.proofs.Cursors.{closes, inside_within}
use Rattle.text_printer.specs.Unmarked.{Unmarked}
use Rattle.laws.specs.Writes.{Writes}
use Rattle.laws.proofs.Spans.{span_none, span_next, span_both}
use Rattle.laws.proofs.Writing.{nothing_written, same_length, lent_length, byte_written, part_written}
use Rattle.text_printer.proofs.Runs.{Run, runs}
use Rattle.text_printer.proofs.Escaped.{escaped_append}

-- Of the content from position i on, n bytes of its canonical form are written, and position k is where the rest of it begins.
pub record ContentWritten (s : List ℕ) (i : ℕ) (before out : List ℕ) (k n : ℕ) : Type 0 where
  pub done : List ℕ
  pub left : List ℕ
  pub inside : InString s k left
  pub joins : done ++ escaped left ≡ escaped (content_from s i)
  pub size : n ≡ length done
  pub written : Writes before out done

-- At the start nothing of the content is written.
pub started : (s : List ℕ) (i : ℕ) (l : List ℕ) → Inside s i → ContentWritten s i l l i 0
started s i l p = record { done = []; left = content_from s i; inside = inside_content s i p; joins = refl; size = refl; written = nothing_written l }

module _ {s : List ℕ} {i : ℕ} {before out : List ℕ} {k n : ℕ} (p : ContentWritten s i before out k n) where
  -- The position that is reached lies within the text.
  pub within : k < length s
  within = inside_within s k (record { bytes = p.left; here = p.inside })

  -- Where a backslash stands at that position, an escape of the string stands there.
  pub escape_here : get_or s k 0 ≡ 0x5C → EscapeAt s k
  escape_here e = record { left = p.left; inside = p.inside; backslash = e }

  total : n + length (escaped p.left) ≡ length (escaped (content_from s i))
  total = omega (arith, p.size, length-append p.done (escaped p.left), ap length p.joins)

  module _ (h : length (escaped (content_from s i)) + 1 ≤ length before) where
    space : n < length before
    space = omega (arith, total)

    -- A slice with space for the content in canonical form and the closing mark has space for one byte after what is written.
    pub byte_space : n < length out
    byte_space = omega (arith, space, same_length p.written)

    -- the closing mark
    pub closed : get_or s k 0 ≡ 0x22
        → (n + 1 ≡ length (escaped (content_from s i)) + 1) × Writes before (set out n 0x22) (escaped (content_from s i) ++ (0x22 ∷ []))
    unfolding escaped
    closed e = (
      omega (arith, p.size, ap length whole),
      subst (λ (l : List ℕ). Writes before (set out n 0x22) (l ++ (0x22 ∷ []))) whole (byte_written p.written n 0x22 p.size space),
    )
      where
        whole : p.done ≡ escaped (content_from s i)
        whole = sym (append-nil p.done) ∙ ap (λ (l : List ℕ). p.done ++ escaped l) (sym (closes s k p.left p.inside e)) ∙ p.joins

    -- a byte that is none of the marks, and those after it that are none
    module _ (a : get_or s k 0 ≡ 0x22 → ⊥) (b : get_or s k 0 ≡ 0x5C → ⊥) (e : ℕ) (f : Unmarked s (k + 1) e) where
      run : Run s k (e - k) p.left
      run =
          let q : k + (e - k) ≡ e = omega (arith, f.up) in
          let u = span_both _ s k (k + 1) e (span_next _ s k k (k + 1) (span_none _ s k k refl (omega (arith, within))) within (a, b) refl) f in
          runs s k (e - k) p.left p.inside (rw q u)

      -- The position after these bytes lies within the text.
      pub run_within : e < length s
      run_within =
          let q : k + (e - k) ≡ e = omega (arith, f.up) in
          rw q at (inside_within s (k + (e - k)) (record { bytes = run.left; here = run.inside }))

      run_length : length (take (e - k) (drop k s)) ≡ e - k
      run_length = length-take-le (e - k) (drop k s) (omega (arith, run_within, length-drop k s))

      -- After what is written the slice has space for these bytes and one more.
      pub run_space : n + (e - k) < length before
      run_space = omega (arith, total, run_length, ap length run.joins, length-append (take (e - k) (drop k s)) (escaped run.left))

      -- These bytes fit in the part of the slice that is not yet written.
      pub run_fits : e - k ≤ length (mid_of n (length out - n) out)
      run_fits = omega (arith, run_space, lent_length p.written n p.size)

      -- With these bytes written to that part, the content is written up to the position after them.
      pub after_run : (m : ℕ) (part : List ℕ) → m ≡ e - k → Writes (mid_of n (length out - n) out) part (take (e - k) (drop k s))
          → ContentWritten s i before (put_mid n (length out - n) out part) e (n + m)
      after_run m part g w =
          let q : k + (e - k) ≡ e = omega (arith, f.up) in
          record {
            done = p.done ++ take (e - k) (drop k s);
            left = run.left;
            inside = rw q at run.inside;
            joins = append_assoc p.done (take (e - k) (drop k s)) (escaped run.left) ∙ ap (λ (l : List ℕ). p.done ++ l) (sym run.joins) ∙ p.joins;
            size = omega (arith, p.size, run_length, length-append p.done (take (e - k) (drop k s)));
            written = part_written p.written n part (take (e - k) (drop k s)) p.size w;
          }

    -- an escape
    module _ (next scalar : ℕ) (e : Escapes s k next scalar) where
      split : (d : List ℕ) × (escaped p.left ≡ escaped (encode scalar) ++ escaped d) × InString s next d
      split = let r = e.stands p.left p.inside in (r.0, ap escaped r.1 ∙ escaped_append (encode scalar) r.0, r.2)

      -- After what is written the slice has space for the canonical form of the escape's character and one byte more.
      pub char_space : n + length (escaped (encode scalar)) < length before
      char_space = omega (arith, total, ap length split.1, length-append (escaped (encode scalar)) (escaped split.0))

      -- That form fits in the part of the slice that is not yet written.
      pub char_fits : length (escaped (encode scalar)) ≤ length (mid_of n (length out - n) out)
      char_fits = omega (arith, char_space, lent_length p.written n p.size)

      -- With that form written to that part, the content is written up to the position after the escape.
      pub after_escape : (m : ℕ) (part : List ℕ) → m ≡ length (escaped (encode scalar)) → Writes (mid_of n (length out - n) out) part (escaped (encode scalar))
          → ContentWritten s i before (put_mid n (length out - n) out part) next (n + m)
      after_escape m part f w =
          record {
            done = p.done ++ escaped (encode scalar);
            left = split.0;
            inside = split.2;
            joins = append_assoc p.done (escaped (encode scalar)) (escaped split.0) ∙ ap (λ (l : List ℕ). p.done ++ l) (sym split.1) ∙ p.joins;
            size = omega (arith, p.size, length-append p.done (escaped (encode scalar)));
            written = part_written p.written n part (escaped (encode scalar)) p.size w;
          }

-- a string between its marks
module _ (c l : List ℕ) (h : length (quoted c) ≤ length l) where
  -- A slice with space for a string in canonical form has space for its content in that form and two marks.
  pub marks_fit : length (escaped c) + 2 ≤ length l
  unfolding quoted
  marks_fit = omega (arith, h, length-append (escaped c) (0x22 ∷ []))

  opened : Writes l (set l 0 0x22) (0x22 ∷ [])
  opened = byte_written (nothing_written l) 0 0x22 refl (omega (arith, marks_fit))

  -- Past the opening mark the slice has space for the content and the closing mark.
  pub content_fits : length (escaped c) + 1 ≤ length (mid_of 1 (length (set l 0 0x22) - 1) (set l 0 0x22))
  content_fits = omega (arith, marks_fit, lent_length opened 1 refl)

  -- With the opening mark set, and the content and the closing mark written past it, the string is written.
  pub string_written : (r : ℕ) (part : List ℕ)
      → (r ≡ length (escaped c) + 1) × Writes (mid_of 1 (length (set l 0 0x22) - 1) (set l 0 0x22)) part (escaped c ++ (0x22 ∷ []))
      → (1 + r ≡ length (quoted c)) × Writes l (put_mid 1 (length (set l 0 0x22) - 1) (set l 0 0x22) part) (quoted c)
  unfolding quoted
  string_written r part w = (omega (arith, length-append (escaped c) (0x22 ∷ [])), part_written opened 1 part (escaped c ++ (0x22 ∷ [])) refl w.1)
