use Rattle.std.proofs.Common.{ap}
use Rattle.archive_server.specs.Done.{Standing}
use Rattle.archive_server.proofs.CountLaws.{told_alone}
use Rattle.archive_server.proofs.starting.attend_at.Goals as goal

-- One whose thread was refused gives its pass back as it came, and tells it.
pub returns-then-is_err : goal.returns-then-is_err
returns-then-is_err g c = record {
  served = told_alone _ _ _ (ap (λ (s : Standing). s.pass) c.nothing.ensures.clerk) c.nothing.ensures.none.0
      c.nothing.ensures.fault;
}
