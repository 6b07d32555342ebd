use Rattle.archive_server.proofs.CountLaws.{served_refused}
use Rattle.archive_server.proofs.serve.serve_named.Goals as goal

-- With no memory for the channels the passes come back as they came, and that is told.
pub returns-in_default : goal.returns-in_default
returns-in_default g c = record {
  served = rw (c.refused.ensures.passes, c.refused.ensures.none) (served_refused _ _ _ c.refused.ensures.told);
}
