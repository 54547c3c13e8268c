-- The content from a position on is the one that the grammar finds there.
use Prim.Native.Nat.{ℕ}
use mathlib.Core.Path.{◌≡◌, sym, ap, ◌∙◌}
use mathlib.Core.List.{List}
use Rattle.text_json.proofs.Grammar.Complete.{chars_complete}
use Rattle.text_strings.specs.InString.{InString, Inside, content_of, content_from}

-- Where a string's content from a position on is `c`, reading from there on finds the content `c`.
pub content_from_is : (s : List ℕ) (i : ℕ) (c : List ℕ) → InString s i c → content_from s i ≡ c
unfolding content_from content_of
content_from_is s i c p = ap content_of (chars_complete p.reads) ∙ p.content

-- From a position inside a string on, the string's content is the one that reading finds.
pub inside_content : (s : List ℕ) (i : ℕ) → Inside s i → InString s i (content_from s i)
inside_content s i p =
    let h = p.here in
    record { chars = h.chars; rest = h.rest; reads = h.reads; content = h.content ∙ sym (content_from_is s i p.bytes h) }
