use Rattle.site_world.proofs.Rounds.{rounds_give_all, rounds_by_buckets}
use Rattle.site_world.proofs.headline.a_finished_round_gives_all.Goals as goal

-- What each delivery left is followed to the end of the run.
pub returns-clause-offer : goal.returns-clause-offer
returns-clause-offer c = rounds_give_all

-- So it is from the BUCKETS on.
pub returns-clause-buckets : goal.returns-clause-buckets
returns-clause-buckets c = rounds_by_buckets
