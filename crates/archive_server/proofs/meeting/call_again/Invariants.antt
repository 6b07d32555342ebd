use Rattle.std.specs.Prelude.{ℕ}
use Rattle.archive_server.specs.Calling.{Went, rounds}
use Rattle.archive_server.specs.Serving.{HasGoneOn}
use Rattle.archive_server.proofs.meeting.call_again.Given as goal

-- Each call so far has had its wait, and the clerk went on.
abbrev pub invariant-loop : goal.invariant-loop
invariant-loop g l = ((calls : ℕ) × Went (g.C.Pauses.turns l.fn.pauses) (g.C.Pauses.turns l.pauses) (rounds l.fn.every calls))
    × HasGoneOn l.fn.clerk l.onward
