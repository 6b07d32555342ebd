use Rattle.site_world.proofs.Finished.{finished_rounds, rounds_tell_all, rounds_make_equal}
use Rattle.site_world.proofs.headline.rounds_each_way_make_equal.Goals as goal

-- The run is cut at the offer, where the first site holds what was taken at it before.
pub returns-clause-anywhere : goal.returns-clause-anywhere
returns-clause-anywhere c = finished_rounds

-- What was taken behind the offer came from the other, which held it.
pub returns-clause-spoken : goal.returns-clause-spoken
returns-clause-spoken c = rounds_tell_all

-- And each site holds only what it knows.
pub returns-clause-equal : goal.returns-clause-equal
returns-clause-equal c = rounds_make_equal
