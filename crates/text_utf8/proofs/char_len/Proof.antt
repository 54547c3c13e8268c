-- `text_utf8::char_len` meets its contract: each arm of the `match` is a line of the grammar, or a byte that no character starts with.
-- Assumes nothing.
use borrow.Author.Rules.{rules}
use native.Mathlib.Omega.{arith}
use Prim.Native.Nat.{◌<◌}
use mathlib.Core.Path.{sym, ◌∙◌}
use mathlib.Core.List.{[], ◌∷◌}
use lib.ListN.{length}
use Rattle.text_utf8.specs.Utf8.{range, tail}
use Rattle.text_utf8.specs.Char.{meets}
use Rattle.text_utf8.proofs.Ranges.{lead_1, lead_2, lead_e0, lead_ed, lead_3, lead_f0, lead_f1, lead_f4, lead_80, lead_f5}
use Rattle.text_utf8.proofs.Chars.{length_follows, length_none}
use Rattle.text_utf8.proofs.char_len.Statement.{statement}
use Rattle.text_utf8.proofs.char_len.Tie as tie

returns-in-224 : tie.Need-returns-in-224
returns-in-224 c =
    let a = c.args in
    let h : a.at < length a.text.now = omega arith in
    c.three.ensures ∙ sym (length_follows a.text.now a.at h (range 0xA0 0xBF ∷ tail ∷ []) (lead_e0 _ (omega arith)))

returns-in-237 : tie.Need-returns-in-237
returns-in-237 c =
    let a = c.args in
    let h : a.at < length a.text.now = omega arith in
    c.three-in-237.ensures ∙ sym (length_follows a.text.now a.at h (range 0x80 0x9F ∷ tail ∷ []) (lead_ed _ (omega arith)))

returns-in-240 : tie.Need-returns-in-240
returns-in-240 c =
    let a = c.args in
    let h : a.at < length a.text.now = omega arith in
    c.four.ensures ∙ sym (length_follows a.text.now a.at h (range 0x90 0xBF ∷ tail ∷ tail ∷ []) (lead_f0 _ (omega arith)))

returns-in-244 : tie.Need-returns-in-244
returns-in-244 c =
    let a = c.args in
    let h : a.at < length a.text.now = omega arith in
    c.four-in-244.ensures ∙ sym (length_follows a.text.now a.at h (range 0x80 0x8F ∷ tail ∷ tail ∷ []) (lead_f4 _ (omega arith)))

returns-in-0-to-127 : tie.Need-returns-in-0-to-127
unfolding meets
returns-in-0-to-127 c =
    let a = c.args in
    let h : a.at < length a.text.now = omega arith in
    sym (length_follows a.text.now a.at h [] (lead_1 _ (omega arith)))

returns-in-225-to-239 : tie.Need-returns-in-225-to-239
returns-in-225-to-239 c =
    let a = c.args in
    let h : a.at < length a.text.now = omega arith in
    c.three-in-225-to-239.ensures ∙ sym (length_follows a.text.now a.at h (tail ∷ tail ∷ []) (lead_3 _ (omega arith) (omega arith) (omega arith) (omega arith)))

returns-in-241-to-243 : tie.Need-returns-in-241-to-243
returns-in-241-to-243 c =
    let a = c.args in
    let h : a.at < length a.text.now = omega arith in
    c.four-in-241-to-243.ensures ∙ sym (length_follows a.text.now a.at h (tail ∷ tail ∷ tail ∷ []) (lead_f1 _ (omega arith) (omega arith)))

returns-in_default : tie.Need-returns-in_default
returns-in_default c =
    let a = c.args in
    let h : a.at < length a.text.now = omega arith in
    sym (length_none a.text.now a.at h (lead_80 _ (omega arith) (omega arith)))

returns-in_default-2 : tie.Need-returns-in_default-2
returns-in_default-2 c =
    let a = c.args in
    let h : a.at < length a.text.now = omega arith in
    sym (length_none a.text.now a.at h (lead_f5 _ (omega arith)))

pub char_len_spec : {M : Type 1} → statement M
char_len_spec =
    tie.close (tie.spec (λ c. search rules) (λ c. search rules) (λ c κs. search rules) (λ c κs. search rules) (λ c κs. search rules)
    (λ c κs. search rules) (λ c κs. search rules) (λ c κs. search rules) (λ c κs. search rules) returns-in-224 returns-in-237 returns-in-240 returns-in-244 returns-in-0-to-127
    (λ c. c.two.ensures ∙ sym (length_follows c.args.text.now c.args.at (omega arith) (tail ∷ []) (lead_2 _ (omega arith) (omega arith))))
    returns-in-225-to-239 returns-in-241-to-243 returns-in_default returns-in_default-2)
