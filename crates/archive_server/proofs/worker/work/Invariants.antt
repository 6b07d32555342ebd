use Rattle.std.specs.Prelude.{◌≡◌, ◌+◌, ◌⊎◌, IsSome}
use Rattle.archive_server.specs.Serving.{HasGoneOn}
use Rattle.archive_server.proofs.worker.work.Given as goal

-- each turn is used up, a failed one is told where nobody may end the server, and the clerk went on
abbrev pub invariant-loop : goal.invariant-loop
invariant-loop g l = (l.done.accepted + l.done.failed ≡ l.counter)
    × (IsSome l.hall.manner.ending ⊎ IsSome l.done.fault ⊎ (l.done.failed ≡ 0))
    × HasGoneOn l.fn.clerk l.done.clerk
