-- A string of a part of the bytes is a string of the whole. Assumes nothing.
use Prim.Native.Nat.{ℕ, ◌+◌, ◌<◌, ◌≤◌}
use mathlib.Core.Path.{◌≡◌, sym, ap, subst, ◌∙◌}
use mathlib.Core.List.{List, ◌++◌}
use native.Mathlib.Omega.{arith}
use lib.ListN.{length, take, drop, take-append-drop}
use lib.Seq.{drop-drop, drop-append-le}
use Rattle.text_json.specs.Syntax.{Char}
use Rattle.text_json.specs.Grammar.{Chars, close, unescaped, short, hex}
use Rattle.text_strings.specs.InString.{InString, Inside, content_from}
use Rattle.text_strings.proofs.Contents.{content_from_is}
use Rattle.text_strings.proofs.Cursors.{inside_within}

-- Bytes that are added at the end change nothing of the chars that are read.
pub chars_longer : (more : List ℕ) {s r : List ℕ} {cs : List Char} → Chars s cs r → Chars (s ++ more) cs (r ++ more)
chars_longer more (close e) = close e
chars_longer more (unescaped e p) = unescaped e (chars_longer more p)
chars_longer more (short e f p) = short e f (chars_longer more p)
chars_longer more (hex e f g h i j p) = hex e f g h i j (chars_longer more p)

module _ (b : List ℕ) (from n i : ℕ) where
  abbrev part : List ℕ
  part = take n (drop from b)

  goes_on : i ≤ length part → drop i part ++ drop n (drop from b) ≡ drop (from + i) b
  goes_on h =
      sym (drop-append-le i part (drop n (drop from b)) h) ∙ ap (drop i) (take-append-drop n (drop from b)) ∙ drop-drop i from b

  -- A string of a part of the bytes is a string of the whole, with the same content.
  pub in_part : (c : List ℕ) → InString (take n (drop from b)) i c → InString b (from + i) c
  in_part c p =
      record {
        chars = p.chars;
        rest = p.rest ++ drop n (drop from b);
        reads = subst (λ (s : List ℕ). Chars s p.chars (p.rest ++ drop n (drop from b))) (goes_on here) (chars_longer (drop n (drop from b)) p.reads);
        content = p.content;
      }
    where
      here : i ≤ length part
      here = let l : i < length (take n (drop from b)) = inside_within (take n (drop from b)) i (record { bytes = c; here = p }) in omega arith

  -- A position in a string of a part is a position in a string of the whole.
  pub inside_part : Inside (take n (drop from b)) i → Inside b (from + i)
  inside_part p = record { bytes = p.bytes; here = in_part p.bytes p.here }

  -- The content of a string of a part is its content in the whole.
  pub content_part : (c : List ℕ) → InString (take n (drop from b)) i c → content_from b (from + i) ≡ c
  content_part c p = content_from_is b (from + i) c (in_part c p)
