-- `text_chars::unit_size` meets its contract: the tests say in how many bytes the character is encoded.
-- Assumes nothing.
use mathlib.Core.Path.{sym, ◌∙◌}
use native.Mathlib.Omega.{arith}
use borrow.Author.Rules.{rules}
use Rattle.text_chars.proofs.Encoded.{size_one, size_two, size_three}
use Rattle.text_chars.proofs.unit_size.Statement.{statement}
use Rattle.text_chars.proofs.unit_size.Tie as tie

returns-then-u-lt128 : tie.Need-returns-then-u-lt128
returns-then-u-lt128 c = (c.byte_size.ensures.0 ∙ sym (size_one _ c.if-u-lt128.true), omega arith)

returns-then-u-lt2048 : tie.Need-returns-then-u-lt2048
returns-then-u-lt2048 c = (sym (size_two _ c.if-u-lt128.false c.if-u-lt2048.true), omega arith)

returns-else-u-lt2048 : tie.Need-returns-else-u-lt2048
returns-else-u-lt2048 c = (sym (size_three _ c.if-u-lt2048.false c.requires), omega arith)

pub unit_size_spec : {M : Type 1} → statement M
unit_size_spec =
    tie.close (tie.spec (λ c. search rules) (λ c κs. search rules) returns-then-u-lt128 returns-then-u-lt2048 returns-else-u-lt2048)
