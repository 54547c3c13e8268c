use Rattle.text_tokens.proofs.Tokens.{scalar_end, scalar_string, scalar_null, scalar_true, scalar_false, scalar_number}
use borrow.Author.Rules.{rules}
use Rattle.text_tokens.proofs.scalar.Statement.{statement}
use Rattle.text_tokens.proofs.scalar.Tie as tie

returns-then-s-at : tie.Need-returns-then-s-at
returns-then-s-at c = scalar_end _ _ c.if-s-at.true c.requires

returns-in-34 : tie.Need-returns-in-34
returns-in-34 c = scalar_string _ _ c.if-s-at.false _ c.in-34.is c.string.ensures

returns-in-110 : tie.Need-returns-in-110
returns-in-110 c =
    scalar_null _ _ c.if-s-at.false c.word.result _ c.in-110.is
    c.word.ensures.1 c.literal.ensures

returns-in-116 : tie.Need-returns-in-116
returns-in-116 c =
    scalar_true _ _ c.if-s-at.false c.word-in-116.result _ c.in-116.is
    c.word-in-116.ensures.1 c.literal-in-116.ensures

returns-in-102 : tie.Need-returns-in-102
returns-in-102 c =
    scalar_false _ _ c.if-s-at.false c.word-in-102.result _ c.in-102.is
    c.word-in-102.ensures.1 c.literal-in-102.ensures

returns-in_default : tie.Need-returns-in_default
returns-in_default c =
    let r = c.in_default.in_default-own.rest in
    scalar_number _ _ c.if-s-at.false _ r.0.0.0.1 r.0.0.1 r.0.1 r.1 c.number.ensures

pub scalar_spec : {M : Type 1} → statement M
scalar_spec =
    tie.close (tie.spec returns-then-s-at (λ c. search rules) (λ c κs. search rules) (λ c. search rules) (λ c κs. search rules) (λ c κs. search rules)
    (λ c. search rules) (λ c κs. search rules) (λ c κs. search rules) (λ c. search rules) (λ c κs. search rules) (λ c κs. search rules)
    (λ c κs. search rules) returns-in-34 returns-in-110 returns-in-116 returns-in-102 returns-in_default)
