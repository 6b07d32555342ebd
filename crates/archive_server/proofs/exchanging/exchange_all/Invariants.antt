use Rattle.std.specs.Prelude.{◌≡◌, ◌+◌}
use Rattle.archive_server.specs.Serving.{HasGoneOn}
use Rattle.archive_server.proofs.exchanging.exchange_all.Given as goal

-- each turn is used up, and the clerk went on
abbrev pub invariant-loop : goal.invariant-loop
invariant-loop g l = (l.done.accepted + l.done.failed ≡ l.counter) × HasGoneOn l.fn.clerk l.done.clerk
