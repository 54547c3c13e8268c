-- The records are read, their manifests opened, and then the images compared.
use Rattle.std.proofs.Common.{◌∙◌, ap, not, arith}
use Rattle.store_open.proofs.Opening.{unread_broken, unfit_broken, apart_broken}
use Rattle.store_open.proofs.open.Goals as goal

pub returns-in_err-survey : goal.returns-in_err-survey
returns-in_err-survey c = rw c.from_residual.ensures (unread_broken c.args.b.now _ c.in_err-survey.ensures)

pub open_all-requires : goal.open_all-requires
open_all-requires c = (c.in_ok-survey.ensures, c.requires.1.names)

pub returns-in_err-places : goal.returns-in_err-places
returns-in_err-places c =
    rw c.from_residual-in_err-places.ensures (unfit_broken c.args.b.now (λ j. omega (arith, c.type_inv.b j)) _ c.in_ok-survey.ensures c.in_err-places.ensures)

pub are_apart-requires : goal.are_apart-requires
are_apart-requires c =
    let p = c.requires in
    let n = c.open_all.auto in (
      c.in_ok-places.ensures.1,
      p.0,
      record {
        names = record { space = omega (arith, n.names, p.1.names.space); sorting = omega (arith, n.names, n.spare, p.1.names.sorting) };
        heads_space = omega (arith, n.names, p.1.heads_space);
        keys_space = p.1.keys_space;
      },
    )

pub returns-then-not-are_apart : goal.returns-then-not-are_apart
returns-then-not-are_apart c =
    apart_broken c.args.b.now (λ j. omega (arith, c.type_inv.b j)) _ c.in_ok-survey.ensures c.in_ok-places.ensures.0 c.are_apart.ensures
    ∙ ap not c.if-not-are_apart.true

pub returns : goal.returns
returns c = (
  apart_broken c.args.b.now (λ j. omega (arith, c.type_inv.b j)) _ c.in_ok-survey.ensures c.in_ok-places.ensures.0 c.are_apart.ensures
      ∙ ap not c.if-not-are_apart.false,
  c.in_ok-places.ensures.1,
)
