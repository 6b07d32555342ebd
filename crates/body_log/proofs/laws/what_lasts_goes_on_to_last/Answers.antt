use Rattle.body_log.proofs.Holding.{lasting}
use Rattle.body_log.proofs.laws.what_lasts_goes_on_to_last.Goals as goal

pub returns : goal.returns
returns g c end old new spared at bytes low it = lasting g.D.Disk end old new spared at bytes low it
