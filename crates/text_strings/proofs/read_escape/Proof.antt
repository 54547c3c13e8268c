use borrow.Author.Rules.{rules}
use Prim.Native.Nat.{ℕ, ◌+◌}
use mathlib.Core.Path.{sym, subst}
use mathlib.Core.Logic.{⊎_elim}
use native.Mathlib.Omega.{arith}
use Rattle.text_strings.specs.InString.{Escapes}
use Rattle.text_strings.proofs.Escapes.{hex_at, next_char, letter_within, from_letter, short_escapes, single_escapes, not_high, high_range}
use Rattle.text_strings.proofs.read_escape.Statement.{statement}
use Rattle.text_strings.proofs.read_escape.Tie as tie

overflow_add-b : tie.Need-overflow_add-b
overflow_add-b c = omega (arith, letter_within _ _ c.requires)

bounds-s-i : tie.Need-bounds-s-i
bounds-s-i c = letter_within _ _ c.requires

overflow_add-result : tie.Need-overflow_add-result
overflow_add-result c = omega (arith, letter_within _ _ c.requires)

returns-then-b-ne117 : tie.Need-returns-then-b-ne117
returns-then-b-ne117 c =
    let a = c.args in
    subst (λ (x : ℕ). Escapes a.s.now a.i (a.i + 2) x) (sym c.short_value-c.ensures)
    (short_escapes _ _ c.requires c.if-b-ne117.true)

overflow_add-i : tie.Need-overflow_add-i
overflow_add-i c = omega (arith, letter_within _ _ c.requires)

hex_number-u-requires : tie.Need-hex_number-u-requires
hex_number-u-requires c κs = hex_at _ _ c.requires c.if-b-ne117.false

read_pair-requires : tie.Need-read_pair-requires
read_pair-requires c κs =
    let b = c.before.before.before.before.before.before in
    record {
      escape = b.requires;
      letter = c.if-b-ne117.false;
      number = from_letter b.args.s.now b.args.i _ c.hex_number-u.ensures.0;
      low = c.if-u-ge55296.true;
      high = c.if-u-lt56320.true;
    }

overflow_add-result-2 : tie.Need-overflow_add-result-2
overflow_add-result-2 c = omega (arith, next_char _ _ c.requires c.if-b-ne117.false)

returns : tie.Need-returns
returns c =
    let b = c.before.before.before.before.before in
    single_escapes _ _ b.requires c.if-b-ne117.false _ (from_letter b.args.s.now b.args.i _ c.hex_number-u.ensures.0)
    c.hex_number-u.ensures.1
    (λ ds r d. not_high _ ds (⊎_elim (λ w. high_range.above _ w.if-u-lt56320.false) (λ w. high_range.below _ w.if-u-ge55296.false) c.if-u-ge55296.branch-raw))

pub read_escape_spec : {M : Type 1} → statement M
read_escape_spec =
    tie.close (tie.spec overflow_add-b bounds-s-i (λ c κs. search rules) overflow_add-result (λ c. search rules) returns-then-b-ne117 overflow_add-i hex_number-u-requires
    read_pair-requires (λ c. search rules) overflow_add-result-2 returns)
