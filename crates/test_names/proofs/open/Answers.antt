-- A manifest that checking refuses has a number, and one that it calls good is opened.
use Rattle.manifest.proofs.Opening.{good_opens}
use Rattle.test_names.proofs.Refusing.{refused_numbered}
use Rattle.test_names.proofs.open.Goals as goal

pub returns-in-Err : goal.returns-in-Err
returns-in-Err c = λ m n. refused_numbered _ c.check.ensures c.in-Err.is m

pub returns-in-Ok : goal.returns-in-Ok
returns-in-Ok c = c.open_second.ensures _ (good_opens _ c.check.ensures c.in-Ok.is)
