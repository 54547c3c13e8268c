use borrow.Author.Rules.{rules}
use Prim.Native.Nat.{◌<◌}
use native.Mathlib.Omega.{arith}
use Rattle.text_json.specs.Grammar.{hex_number}
use Rattle.text_strings.proofs.Escapes.{hex_small}
use Rattle.text_strings.proofs.hex_number.Statement.{statement}
use Rattle.text_strings.proofs.hex_number.Tie as tie

-- src/lib.rt:14:36
-- src/lib.rt:14:9
-- src/lib.rt:15:38
-- src/lib.rt:15:36
-- src/lib.rt:15:9
-- src/lib.rt:16:38
-- src/lib.rt:16:36
-- src/lib.rt:16:9
-- src/lib.rt:17:38
-- src/lib.rt:17:36
-- src/lib.rt:17:9
-- each digit's number is below 16
first_small : (c : tie.After-hex_value-d) → c.hex_value-a.result < 16
first_small c = hex_small _ _ c.requires.first
    c.hex_value-a.ensures

second_small : (c : tie.After-hex_value-d) → c.hex_value-b.result < 16
second_small c = hex_small _ _ c.requires.second
    c.hex_value-b.ensures

third_small : (c : tie.After-hex_value-d) → c.hex_value-c.result < 16
third_small c = hex_small _ _ c.requires.third c.hex_value-c.ensures

fourth_small : (c : tie.After-hex_value-d) → c.hex_value-d.result < 16
fourth_small c = hex_small _ _ c.requires.fourth c.hex_value-d.ensures

overflow_mul-result : tie.Need-overflow_mul-result
overflow_mul-result c = omega (arith, first_small c)

overflow_add-result : tie.Need-overflow_add-result
overflow_add-result c = omega (arith, first_small c, second_small c)

overflow_mul-result-2 : tie.Need-overflow_mul-result-2
overflow_mul-result-2 c = omega (arith, first_small c, second_small c)

overflow_add-result-2 : tie.Need-overflow_add-result-2
overflow_add-result-2 c = omega (arith, first_small c, second_small c, third_small c)

overflow_mul-result-3 : tie.Need-overflow_mul-result-3
overflow_mul-result-3 c = omega (arith, first_small c, second_small c, third_small c)

overflow_add-result-3 : tie.Need-overflow_add-result-3
overflow_add-result-3 c = omega (arith, first_small c, second_small c, third_small c, fourth_small c)

returns : tie.Need-returns
unfolding hex_number
returns c = (
  cc (
    c.hex_value-a.ensures,
    c.hex_value-b.ensures,
    c.hex_value-c.ensures,
    c.hex_value-d.ensures,
  ),
  omega (arith, first_small c, second_small c, third_small c, fourth_small c),
)

pub hex_number_spec : {M : Type 1} → statement M
hex_number_spec =
    tie.close (tie.spec (λ c. search rules) (λ c κs. search rules) (λ c. search rules) (λ c. search rules) (λ c κs. search rules) (λ c. search rules)
    (λ c. search rules) (λ c κs. search rules) (λ c. search rules) (λ c. search rules) (λ c κs. search rules) overflow_mul-result overflow_add-result overflow_mul-result-2
    overflow_add-result-2 overflow_mul-result-3 overflow_add-result-3 returns)
