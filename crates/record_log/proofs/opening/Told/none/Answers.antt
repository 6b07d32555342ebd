use Rattle.std.proofs.Common.{[]}
use Rattle.record_log.proofs.Waiting.{given_up_tells}
use Rattle.record_log.proofs.opening.Told.none.Goals as goal

-- There is no file, and none waits.
pub returns-clause-records : goal.returns-clause-records
returns-clause-records g c = given_up_tells g.D.Disk c.none.result [] c.none.ensures.file c.none.ensures.none
