-- The parts that are lent have the lengths that opening asks for.
use Rattle.std.proofs.Common.{sym, arith}
use Rattle.std.proofs.lemmas.List.{length-take-le}
use Rattle.lookup.proofs.open_store.Goals as goal

pub slice_bounds-open-end-2 : goal.slice_bounds-open-end-2
slice_bounds-open-end-2 c = sym (length-take-le 4096 c.args.at.now (omega (arith, c.requires.0)))

pub slice_bounds-open-end-4 : goal.slice_bounds-open-end-4
slice_bounds-open-end-4 c = sym (length-take-le 4096 c.args.order.now (omega (arith, c.requires.1)))

pub open-requires : goal.open-requires
open-requires c =
    let p = c.requires in
    let size = length-take-le 4096 c.args.order.now (omega (arith, p.1)) in (
      length-take-le 4096 c.args.at.now (omega (arith, p.0)),
      record {
        names = record { space = omega (arith, size); sorting = omega (arith, size, p.2) };
        heads_space = omega (arith, size);
        keys_space = omega (arith, p.3);
      },
    )
