-- What is printed, and the store after it, are the same if lines are cut at 16,601 bytes.
use Prim.Native.Nat.{ℕ, ◌+◌}
use mathlib.Core.Path.{◌≡◌, refl, ap, ◌∙◌}
use mathlib.Core.List.{List, [], ◌∷◌, ◌++◌, map}
use Rattle.report_lines.specs.Lines.{line_number, line_used, line_bytes}
use Rattle.report_text.specs.Output.{load_line}
use Rattle.report_text.specs.Parts.{cut}
use Rattle.report_lines.specs.Output.{load_lines, used_after, bytes_after}
use Rattle.report_lines.proofs.Loading.{cut_answer}

-- What is printed for lines that are cut is what is printed for the whole lines.
pub printed_cut : (i : ℕ) (ls : List (List ℕ)) (buffer : List ℕ) (used : ℕ) → load_lines i (map cut ls) buffer used ≡ load_lines i ls buffer used
unfolding load_lines
printed_cut i [] buffer used = refl
printed_cut i (l ∷ ls) buffer used =
    let e = cut_answer l buffer used in
    let rest = printed_cut (i + 1) ls (line_bytes l buffer used) (line_used l buffer used) in
    rw (e.0, e.1.0, e.1.1) (ap (λ (o : List ℕ). load_line i (line_number l buffer used) ++ o) rest)

-- The used count after lines that are cut is that after the whole lines.
pub used_cut : (ls : List (List ℕ)) (buffer : List ℕ) (used : ℕ) → used_after (map cut ls) buffer used ≡ used_after ls buffer used
unfolding used_after
used_cut [] buffer used = refl
used_cut (l ∷ ls) buffer used =
    let e = cut_answer l buffer used in
    ap (λ (b : List ℕ). used_after (map cut ls) b (line_used (cut l) buffer used)) e.1.1 ∙ ap (used_after (map cut ls) (line_bytes l buffer used)) e.1.0
    ∙ used_cut ls (line_bytes l buffer used) (line_used l buffer used)

-- The buffer after lines that are cut is that after the whole lines.
pub bytes_cut : (ls : List (List ℕ)) (buffer : List ℕ) (used : ℕ) → bytes_after (map cut ls) buffer used ≡ bytes_after ls buffer used
unfolding bytes_after
bytes_cut [] buffer used = refl
bytes_cut (l ∷ ls) buffer used =
    let e = cut_answer l buffer used in
    ap (λ (b : List ℕ). bytes_after (map cut ls) b (line_used (cut l) buffer used)) e.1.1 ∙ ap (bytes_after (map cut ls) (line_bytes l buffer used)) e.1.0
    ∙ bytes_cut ls (line_bytes l buffer used) (line_used l buffer used)
