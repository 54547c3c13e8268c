-- Judge tells no more pairs than 64 images have.
use Rattle.std.proofs.Common.{arith}
use Rattle.roomreport.proofs.Few.{few}
use Rattle.roomreport.proofs.report.Goals as goal

pub print_pairs-end-requires : goal.print_pairs-end-requires
print_pairs-end-requires c =
    let n = few c.args.store.now c.args.used 8064 c.judge-judged.ensures in
    (omega (arith, n), omega arith, omega arith)
