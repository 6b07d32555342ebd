use Rattle.archive_server.specs.Serving.{AddsBeside}
use Rattle.archive_server.proofs.job.with_peers.Given as goal

-- a job more for each peer so far, none of which accepts associations
abbrev pub invariant-loop-peer : goal.invariant-loop-peer
invariant-loop-peer g l = AddsBeside l.peer-index l.fn.before.items l.jobs.items
