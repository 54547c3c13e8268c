-- What a line is answered: by its length, and by the number of the load.
use Prim.Native.Nat.{ℕ, ◌+◌, ◌-◌, ◌≤◌, ◌<◌}
use mathlib.Core.Path.{◌≡◌, sym, ap, ◌∙◌}
use mathlib.Core.Bool.{true, false}
use mathlib.Core.List.{List}
use native.Mathlib.Omega.{arith}
use lib.Dec.{ltb, eqb}
use lib.ListN.{length, length-take}
use lib.Seq.{take_all}
use borrow.Author.Tests.{lt-ltb, le-ltb, ltb-true, ltb-false, eq-eqb, ne_eqb}
use Rattle.laws.proofs.Order.{by_test}
use Rattle.store.specs.Load.{load_number, load_used, load_bytes, bytes_after}
use Rattle.report_text.specs.Lines.{most_line, id_part, manifest_part}
use Rattle.report_text.specs.Parts.{cut}
use Rattle.report_lines.specs.Lines.{line_number, line_used, line_bytes}

-- A line that is too long is answered 1, whatever it is.
pub long_number : (line buffer : List ℕ) (used : ℕ) → most_line < length line → line_number line buffer used ≡ 1
unfolding line_number
long_number line buffer used h = rw (lt-ltb most_line (length line) h, line_number)

-- Any other is answered as the load is.
pub short_number : (line buffer : List ℕ) (used : ℕ) → length line ≤ most_line
    → line_number line buffer used ≡ load_number (id_part line) (manifest_part line) buffer used
unfolding line_number
short_number line buffer used h = rw (le-ltb most_line (length line) h, line_number)

module _ (line buffer : List ℕ) (used : ℕ) where
  -- A refusal keeps the used count and every byte.
  pub refused_line : (line_number line buffer used ≡ 0 → ⊥) → (line_used line buffer used ≡ used) × (line_bytes line buffer used ≡ buffer)
  unfolding line_used line_bytes
  refused_line n = let t : eqb (line_number line buffer used) 0 ≡ false = ne_eqb _ _ n in (rw (t, line_used), rw (t, line_bytes))

  -- At 0 they are those of the load.
  pub taken_line : line_number line buffer used ≡ 0
      → (line_used line buffer used ≡ load_used (id_part line) (manifest_part line) buffer used)
      × (line_bytes line buffer used ≡ load_bytes (id_part line) (manifest_part line) buffer used)
  unfolding line_used line_bytes
  taken_line n = let t : eqb (line_number line buffer used) 0 ≡ true = eq-eqb _ _ n in (rw (t, line_used), rw (t, line_bytes))

-- A load that is refused changes no byte.
pub refused_load : (id manifest buffer : List ℕ) (used : ℕ) → (load_number id manifest buffer used ≡ 0 → ⊥) → load_bytes id manifest buffer used ≡ buffer
unfolding load_bytes bytes_after
refused_load id manifest buffer used n = let t : eqb (load_number id manifest buffer used) 0 ≡ false = ne_eqb _ _ n in rw (t, bytes_after)

-- What is answered, and the buffer after it.
abbrev pub Answers : (line buffer : List ℕ) (used number new_used : ℕ) (after : List ℕ) → Type 0
Answers line buffer used number new_used after =
    (number ≡ line_number line buffer used) × ((new_used ≡ line_used line buffer used) × (after ≡ line_bytes line buffer used))

module _ (line buffer : List ℕ) (used : ℕ) where
  -- A line that is too long is answered 1, and the used count and the buffer stay.
  pub long_answer : most_line < length line → Answers line buffer used 1 used buffer
  long_answer h =
      let n : line_number line buffer used ≡ 1 = long_number line buffer used h in
      let r = refused_line line buffer used (λ z. omega arith) in
      (sym n, (sym r.0, sym r.1))

  module _ {id manifest : List ℕ} (i : id ≡ id_part line) (m : manifest ≡ manifest_part line) (h : length line ≤ most_line) where
    same_number : load_number id manifest buffer used ≡ line_number line buffer used
    same_number = rw (i, m) (sym (short_number line buffer used h))

    -- A line whose load gives 0 is answered 0, with the used count and the buffer of the load.
    pub loaded_answer : (n new : ℕ) (after : List ℕ) → n ≡ load_number id manifest buffer used → n ≡ 0 → new ≡ load_used id manifest buffer used
        → after ≡ load_bytes id manifest buffer used → Answers line buffer used 0 new after
    loaded_answer n new after e z u b =
        let zero_number : line_number line buffer used ≡ 0 = sym same_number ∙ sym e ∙ z in
        let r = taken_line line buffer used zero_number in
        let same_used : load_used id manifest buffer used ≡ load_used (id_part line) (manifest_part line) buffer used = rw (i, m) in
        let same_bytes : load_bytes id manifest buffer used ≡ load_bytes (id_part line) (manifest_part line) buffer used = rw (i, m) in
        (sym zero_number, (u ∙ same_used ∙ sym r.0, b ∙ same_bytes ∙ sym r.1))

    -- A line whose load is refused is answered the number of the load, and the used count stays.
    pub refused_answer : (n : ℕ) (after : List ℕ) → n ≡ load_number id manifest buffer used → (n ≡ 0 → ⊥) → after ≡ load_bytes id manifest buffer used
        → Answers line buffer used n used after
    refused_answer n after e z b =
        let r = refused_line line buffer used (λ k. z (e ∙ same_number ∙ k)) in
        (e ∙ same_number, (sym r.0, b ∙ refused_load id manifest buffer used (λ k. z (e ∙ k)) ∙ sym r.1))

-- The first 16,601 bytes of a line are answered as the line is.
pub cut_answer : (line buffer : List ℕ) (used : ℕ)
    → Answers line buffer used (line_number (cut line) buffer used) (line_used (cut line) buffer used) (line_bytes (cut line) buffer used)
cut_answer line buffer used =
    by_test (ltb most_line (length line))
    (λ t.
    let h : most_line < length line = ltb-true _ _ t in
    let g : most_line < length (cut line) = omega (arith, length-take (most_line + 1) line) in
    let x = long_answer line buffer used h in
    let y = long_answer (cut line) buffer used g in
    (sym y.0 ∙ x.0, (sym y.1.0 ∙ x.1.0, sym y.1.1 ∙ x.1.1)))
    (λ t.
    let h : length line ≤ most_line = ltb-false _ _ t in
    let e : cut line ≡ line = take_all (most_line + 1) line (omega arith) in
    (ap (λ (l : List ℕ). line_number l buffer used) e, (ap (λ (l : List ℕ). line_used l buffer used) e, ap (λ (l : List ℕ). line_bytes l buffer used) e)))
