-- `text_utf8::three` meets its contract, by what `byte_in` ensures of the two bytes.
-- Assumes nothing.
use borrow.Author.Rules.{rules}
use mathlib.Core.Path.{◌≡◌, ap, sym, ◌∙◌}
use mathlib.Core.Bool.{cond}
use mathlib.Core.List.{[], ◌∷◌}
use lib.ListN.{drop}
use Rattle.text_utf8.specs.Char.{meets}
use Rattle.text_utf8.specs.Utf8.{range, tail}
use Rattle.text_utf8.proofs.Chars.{meets_next, misses_next}
use Rattle.text_utf8.proofs.three.Statement.{statement}
use Rattle.text_utf8.proofs.three.Tie as tie

-- where the first byte is as it has to be, the test is the one of the second
second : (c : tie.After-byte_in-then-byte_in) → let a = c.args in
    meets (range a.low a.high ∷ tail ∷ []) (drop a.at a.text.now) ≡ c.byte_in-then-byte_in.result
second c =
    let t = c.before in
    let a = t.args in
    meets_next (range a.low a.high) (tail ∷ []) a.text.now a.at _ t.byte_in.ensures t.if-byte_in.true ∙ sym c.byte_in-then-byte_in.ensures

returns-else-byte_in : tie.Need-returns-else-byte_in
returns-else-byte_in c =
    let a = c.args in
    sym
    (ap (λ x. cond x 3 0)
    (misses_next (range a.low a.high) (tail ∷ []) a.text.now a.at _ c.byte_in.ensures c.if-byte_in.false))

pub three_spec : {M : Type 1} → statement M
three_spec =
    tie.close (tie.spec (λ c κs. search rules) (λ c. search rules) (λ c κs. search rules)
    (λ c. sym (ap (λ x. cond x 3 0) (second c.before ∙ c.if-byte_in-2.true))) (λ c. sym (ap (λ x. cond x 3 0) (second c.before ∙ c.if-byte_in-2.false))) returns-else-byte_in)
