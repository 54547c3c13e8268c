use Rattle.manifest.proofs.Opening.{good_opens}
use Rattle.test_facade.proofs.show_one.Goals as goal

pub show_good-requires : goal.show_good-requires
show_good-requires c = good_opens _ c.check.ensures c.in-Ok.is
