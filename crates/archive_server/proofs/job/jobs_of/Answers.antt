use Rattle.archive_server.proofs.CountLaws.{jobs_and_more}
use Rattle.archive_server.proofs.job.jobs_of.Goals as goal

-- The jobs of the workers stand first, and none of the others accepts associations.
pub returns : goal.returns
returns g c = jobs_and_more _ _ _ _ _ _ _ _ _ _ c.in_ok-workers.ensures c.in_ok-serving.ensures
    c.in_ok-calling.ensures c.in_ok-with_pages.ensures c.in_ok-jobs.ensures
