use Rattle.archive_server.specs.Serving.{AddsBeside}
use Rattle.archive_server.proofs.job.with_exchanges.Given as goal

-- so many jobs more, none of which accepts associations
abbrev pub invariant-loop : goal.invariant-loop
invariant-loop g l = AddsBeside l.counter l.fn.before.items l.jobs.items
