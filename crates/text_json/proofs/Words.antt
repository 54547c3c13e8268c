-- White space and fixed words, read one byte on.
-- Assumes nothing.
use Prim.Native.Nat.{ℕ, ◌+◌, ◌≤◌, ◌<◌}
use mathlib.Core.Path.{◌≡◌}
use mathlib.Core.List.{List}
use mathlib.Core.Bool.{true, false}
use borrow.Author.Tests.{eq-eqb, ne_eqb}
use lib.ListN.{length, drop, get_or, drop_of_length-le}
use Rattle.text_json.specs.Bytes.{is_space}
use Rattle.text_json.specs.Read.{found, stuck, spaces, read_word}
use Rattle.text_json.proofs.Places.{drop_next}

module _ (s : List ℕ) (i : ℕ) where
  -- At a byte of white space, white space is skipped as from the next position.
  pub spaces_more : i < length s → is_space (get_or s i 0) ≡ true → spaces (drop i s) ≡ spaces (drop (i + 1) s)
  unfolding spaces
  spaces_more h e = rw (drop_next s i h, spaces, e)

  -- At any other byte, no white space is skipped.
  pub spaces_stop : i < length s → is_space (get_or s i 0) ≡ false → spaces (drop i s) ≡ drop i s
  unfolding spaces
  spaces_stop h e = rw (drop_next s i h, spaces, e)

  -- Past the last byte of the text, no white space is skipped.
  pub spaces_end : length s ≤ i → spaces (drop i s) ≡ drop i s
  unfolding spaces
  spaces_end h = rw drop_of_length-le

  module _ (w : List ℕ) (k : ℕ) where
    -- At the byte that the word has next, reading goes on with the next byte of the text and of the word.
    pub word_more : i < length s → k < length w → get_or s i 0 ≡ get_or w k 0
        → read_word (drop k w) (drop i s) ≡ read_word (drop (k + 1) w) (drop (i + 1) s)
    unfolding read_word
    word_more h l e = rw (drop_next s i h, drop_next w k l, read_word, eq-eqb _ _ e)

    -- At any other byte, reading the word is stuck there.
    pub word_stop : i < length s → k < length w → (get_or s i 0 ≡ get_or w k 0 → ⊥) → read_word (drop k w) (drop i s) ≡ stuck (drop i s)
    unfolding read_word
    word_stop h l e = rw (drop_next s i h, drop_next w k l, read_word, ne_eqb _ _ e)

    -- Past the last byte of the text, reading a word of which bytes are left is stuck.
    pub word_short : length s ≤ i → k < length w → read_word (drop k w) (drop i s) ≡ stuck (drop i s)
    unfolding read_word
    word_short h l = rw (drop_of_length-le s h, drop_next w k l)

    -- A word of which no bytes are left is found, and the rest begins there.
    pub word_end : length w ≤ k → read_word (drop k w) (drop i s) ≡ found tt (drop i s)
    unfolding read_word
    word_end h = rw (drop_of_length-le w h)
