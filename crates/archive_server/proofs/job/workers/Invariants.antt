use Rattle.std.specs.Prelude.{◌≡◌, ◌+◌, ◌*◌, ℕ, length}
use Rattle.archive_server.specs.Serving.{room_of_all}
use Rattle.archive_server.proofs.job.workers.Given as goal

-- a job for each gate so far, which accepts as many as a worker may
abbrev pub invariant-loop-gate : goal.invariant-loop-gate
invariant-loop-gate g l = (length l.jobs.items + length l.gate-iterator.rest.items ≡ length l.fn.gates.items)
    × ((each : ℕ) → room_of_all each l.jobs.items ≡ length l.jobs.items * each)
