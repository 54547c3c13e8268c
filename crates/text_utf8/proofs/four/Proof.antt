-- `text_utf8::four` meets its contract, by what `byte_in` ensures of the three bytes.
-- Assumes nothing.
use borrow.Author.Rules.{rules}
use mathlib.Core.Path.{◌≡◌, ap, sym, ◌∙◌}
use mathlib.Core.Bool.{cond}
use mathlib.Core.List.{[], ◌∷◌}
use Rattle.text_utf8.specs.Utf8.{range, tail}
use Rattle.text_utf8.proofs.Chars.{meets_next, misses_next}
use Prim.Native.Nat.{◌+◌}
use native.Mathlib.Omega.{arith}
use lib.ListN.{drop}
use Rattle.text_utf8.specs.Char.{meets}
use Rattle.text_utf8.proofs.four.Statement.{statement}
use Rattle.text_utf8.proofs.four.Tie as tie

-- where the first two bytes are as they have to be, the test is the one of the third
third : (c : tie.After-byte_in-then-byte_in-2) → let a = c.args in
    meets (range a.low a.high ∷ tail ∷ tail ∷ []) (drop a.at a.text.now) ≡ c.byte_in-then-byte_in-2.result
third c =
    let u = c.before in
    let t = u.before.before in
    let a = t.args in
    let s = a.text.now in
    let two : a.at + 1 + 1 ≡ a.at + 2 = omega arith in
    meets_next (range a.low a.high) (tail ∷ tail ∷ []) s a.at _ t.byte_in.ensures t.if-byte_in.true
    ∙ meets_next tail (tail ∷ []) s (a.at + 1) _ u.byte_in-then-byte_in.ensures u.if-byte_in-2.true
    ∙ ap (λ i. meets (tail ∷ []) (drop i s)) two
    ∙ sym c.byte_in-then-byte_in-2.ensures

returns-else-byte_in-2 : tie.Need-returns-else-byte_in-2
returns-else-byte_in-2 c =
    let t = c.before.before in
    let a = t.args in
    let s = a.text.now in
    sym
    (ap (λ x. cond x 4 0)
    (meets_next (range a.low a.high) (tail ∷ tail ∷ []) s a.at _ t.byte_in.ensures t.if-byte_in.true
    ∙ misses_next tail (tail ∷ []) s (a.at + 1) _ c.byte_in-then-byte_in.ensures c.if-byte_in-2.false))

returns-else-byte_in : tie.Need-returns-else-byte_in
returns-else-byte_in c =
    let a = c.args in
    sym
    (ap (λ x. cond x 4 0)
    (misses_next (range a.low a.high) (tail ∷ tail ∷ []) a.text.now a.at _ c.byte_in.ensures c.if-byte_in.false))

pub four_spec : {M : Type 1} → statement M
four_spec =
    tie.close (tie.spec (λ c κs. search rules) (λ c. search rules) (λ c κs. search rules) (λ c. search rules) (λ c κs. search rules)
    (λ c. sym (ap (λ x. cond x 4 0) (third c.before ∙ c.if-byte_in-3.true))) (λ c. sym (ap (λ x. cond x 4 0) (third c.before ∙ c.if-byte_in-3.false))) returns-else-byte_in-2
    returns-else-byte_in)
