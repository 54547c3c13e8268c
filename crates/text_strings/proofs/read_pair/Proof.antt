use borrow.Author.Rules.{rules}
use Prim.Native.Nat.{◌+◌}
use native.Mathlib.Omega.{arith}
use Rattle.text_strings.specs.InString.{HexAt}
use Rattle.text_strings.proofs.Escapes.{hex_at, next_char, letter_within, next_escape, from_letter, pair_escapes, alone_unit, alone_short, alone_plain}
use Rattle.text_strings.proofs.Escapes.{low_range}
use Rattle.text_strings.proofs.read_pair.Statement.{statement}
use Rattle.text_strings.proofs.read_pair.Tie as tie

overflow_add-j : tie.Need-overflow_add-j
overflow_add-j c = omega (arith, next_char _ _ c.requires.escape c.requires.letter)

bounds-s-j : tie.Need-bounds-s-j
bounds-s-j c = next_char _ _ c.requires.escape c.requires.letter

overflow_add-j-then-s-j-eq92 : tie.Need-overflow_add-j-then-s-j-eq92
overflow_add-j-then-s-j-eq92 c = omega (arith, next_char _ _ c.requires.escape c.requires.letter)

bounds-s-j-then-s-j-eq92 : tie.Need-bounds-s-j-then-s-j-eq92
bounds-s-j-then-s-j-eq92 c = letter_within _ _ (next_escape _ _ c.requires.escape c.requires.letter
    c.if-s-j-eq92.true)

-- the digits of the escape after the first
digits : (c : tie.Then-s-j-eq117) → HexAt c.args.s.now (c.args.i + 6 + 2)
digits c = hex_at _ _ (next_escape _ _ c.requires.escape c.requires.letter
    c.if-s-j-eq92.true) c.if-s-j-eq117.true

overflow_add-j-then-s-j-eq117 : tie.Need-overflow_add-j-then-s-j-eq117
overflow_add-j-then-s-j-eq117 c = omega (arith, (digits c).within)

hex_number-v-requires : tie.Need-hex_number-v-requires
hex_number-v-requires c κs = digits c

overflow_add-result : tie.Need-overflow_add-result
overflow_add-result c = omega (arith, (digits c.before.before.before).within)

returns-then-v-lt57344 : tie.Need-returns-then-v-lt57344
returns-then-v-lt57344 c = let p = c.requires in
    pair_escapes _ _ _ p _ (from_letter c.args.s.now
    (c.args.i + 6) _ c.hex_number-v.ensures.0)
    c.if-s-j-eq92.true c.if-s-j-eq117.true c.if-v-ge56320.true c.if-v-lt57344.true

returns-else-v-lt57344 : tie.Need-returns-else-v-lt57344
returns-else-v-lt57344 c = alone_unit _ _ _ c.requires _
    (from_letter c.args.s.now
    (c.args.i + 6) _ c.hex_number-v.ensures.0)
    (low_range.above _ c.if-v-lt57344.false)

returns-else-v-ge56320 : tie.Need-returns-else-v-ge56320
returns-else-v-ge56320 c = alone_unit _ _ _ c.requires _
    (from_letter c.args.s.now
    (c.args.i + 6) _ c.hex_number-v.ensures.0) (low_range.below _ c.if-v-ge56320.false)

returns-else-s-j-eq117 : tie.Need-returns-else-s-j-eq117
returns-else-s-j-eq117 c = alone_short _ _ _ c.requires c.if-s-j-eq117.false

returns-else-s-j-eq92 : tie.Need-returns-else-s-j-eq92
returns-else-s-j-eq92 c = alone_plain _ _ _ c.requires c.if-s-j-eq92.false

pub read_pair_spec : {M : Type 1} → statement M
read_pair_spec =
    tie.close (tie.spec overflow_add-j bounds-s-j overflow_add-j-then-s-j-eq92 bounds-s-j-then-s-j-eq92 overflow_add-j-then-s-j-eq117 hex_number-v-requires overflow_add-result (λ c. search rules)
    (λ c. search rules) (λ c. search rules) (λ c. search rules) returns-then-v-lt57344 returns-else-v-lt57344 returns-else-v-ge56320 returns-else-s-j-eq117 returns-else-s-j-eq92)
