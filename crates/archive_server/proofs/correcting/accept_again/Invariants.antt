use Rattle.std.specs.Prelude.{List}
use Rattle.std.specs.List.{flat_map}
use Rattle.std.specs.declared.time.Duration.{Duration}
use Rattle.archive_server.specs.Calling.{Went, wait_on}
use Rattle.archive_server.specs.Correcting.{at_desk, HasAnswered}
use Rattle.archive_server.proofs.correcting.accept_again.Given as goal

-- Somebody served behind each accept so far, and the desk has answered requests.
abbrev pub invariant-loop : goal.invariant-loop
invariant-loop g l = ((times : List Duration)
    × Went (g.C.Pauses.turns l.fn.pauses) (g.C.Pauses.turns l.pauses) (flat_map wait_on times))
    × HasAnswered g.H.HubName.opening (at_desk l.fn.correcting.names.now l.fn.clerk l.fn.stamps)
    (at_desk l.fn.correcting.names.now l.onward l.made)
