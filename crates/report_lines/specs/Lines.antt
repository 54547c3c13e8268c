-- What the lines that `roomreport` reads are answered (document 01, "On the bench"): "A line over 16,600 bytes is answered 1."
use Rattle.std.specs.Prelude.{ℕ, true, false, List, ltb, eqb, length}
use Rattle.store.specs.Load.{load_number, load_used, load_bytes}
use Rattle.report_text.specs.Lines.{most_line, id_part, manifest_part}

-- the number of a line in a store
unfoldable pub line_number : List ℕ → List ℕ → ℕ → ℕ
line_number line buffer used = elim (ltb most_line (length line)) [ true ↦ 1 | false ↦ load_number (id_part line) (manifest_part line) buffer used ]

-- the used count for the next line ("the used count of the last accepted call"), and the buffer, of which a line that is refused changes no byte
unfoldable pub line_used : List ℕ → List ℕ → ℕ → ℕ
line_used line buffer used = elim (eqb (line_number line buffer used) 0) [ true ↦ load_used (id_part line) (manifest_part line) buffer used | false ↦ used ]

unfoldable pub line_bytes : List ℕ → List ℕ → ℕ → List ℕ
line_bytes line buffer used = elim (eqb (line_number line buffer used) 0) [ true ↦ load_bytes (id_part line) (manifest_part line) buffer used | false ↦ buffer ]
