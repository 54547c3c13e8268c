-- `text_view::value::string_rest` meets its contract: the string goes on behind eight bytes that do not end it. Assumes nothing.
use mathlib.Core.Path.{sym, ◌∙◌}
use native.Mathlib.Omega.{arith}
use Rattle.text_strings.proofs.Cursors.{inside_within}
use Rattle.text_view.proofs.Passing.{run_fits, reaches_start, reaches_run, reaches_end}
use Rattle.text_view.proofs.value.string_rest.Statement.{statement}
use Rattle.text_view.proofs.value.string_rest.Tie as tie

unmarked_left-requires : tie.Need-unmarked_left-requires
unmarked_left-requires c κs = omega (arith, inside_within _ _ c.requires)

overflow_add-from : tie.Need-overflow_add-from
overflow_add-from c =
    let a = c.args in
    let w = inside_within a.s.now a.from c.requires in
    omega (arith, run_fits a.s.now a.from 8 (sym c.unmarked_left.ensures ∙ c.if-unmarked_left.true) (omega arith))

string_tail-requires : tie.Need-string_tail-requires
string_tail-requires c κs =
    (reaches_run _ _ _ (reaches_start _ _ c.requires) 8 (sym c.unmarked_left.ensures ∙ c.if-unmarked_left.true)).inside

returns-then-unmarked_left : tie.Need-returns-then-unmarked_left
returns-then-unmarked_left c =
    reaches_end _ _ _ (reaches_run _ _ _ (reaches_start _ _ c.requires) 8 (sym c.unmarked_left.ensures
    ∙ c.if-unmarked_left.true)) _
    c.string_tail.ensures

string_tail-requires-2 : tie.Need-string_tail-requires-2
string_tail-requires-2 c κs = c.requires

returns : tie.Need-returns
returns c = c.string_tail-2.ensures

pub string_rest_spec : {M : Type 1} → statement M
string_rest_spec =
    tie.close (tie.spec unmarked_left-requires overflow_add-from string_tail-requires returns-then-unmarked_left string_tail-requires-2 returns)
