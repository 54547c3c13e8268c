-- The same of the second manifest.
use Rattle.manifest.proofs.Opening.{good_opens}
use Rattle.test_names.proofs.Refusing.{refused_numbered}
use Rattle.test_names.proofs.open_second.Goals as goal

pub returns-in-Err : goal.returns-in-Err
returns-in-Err c = λ s o m n. refused_numbered _ c.check.ensures c.in-Err.is n

pub returns-in-Ok : goal.returns-in-Ok
returns-in-Ok c = λ s o. (o, good_opens _ c.check.ensures c.in-Ok.is)
