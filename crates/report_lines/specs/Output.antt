-- What `roomreport` prints for its lines (document 01, "On the bench"), and the store after them.
use Rattle.std.specs.Prelude.{ℕ, ◌+◌, List, [], ◌∷◌, ◌++◌}
use Rattle.report_text.specs.Output.{load_line}
use Rattle.report_lines.specs.Lines.{line_number, line_used, line_bytes}

-- what is printed for these lines, of which the first has index i, and the store after them
unfoldable pub load_lines : ℕ → List (List ℕ) → List ℕ → ℕ → List ℕ
load_lines i [] buffer used = []
load_lines i (l ∷ ls) buffer used = load_line i (line_number l buffer used) ++ load_lines (i + 1) ls (line_bytes l buffer used) (line_used l buffer used)

unfoldable pub used_after : List (List ℕ) → List ℕ → ℕ → ℕ
used_after [] buffer used = used
used_after (l ∷ ls) buffer used = used_after ls (line_bytes l buffer used) (line_used l buffer used)

unfoldable pub bytes_after : List (List ℕ) → List ℕ → ℕ → List ℕ
bytes_after [] buffer used = buffer
bytes_after (l ∷ ls) buffer used = bytes_after ls (line_bytes l buffer used) (line_used l buffer used)
