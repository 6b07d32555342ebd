use Rattle.std.proofs.Common.{take}
use Rattle.site_simulation.specs.Simulation.{Leads}
use Rattle.site_simulation.proofs.progress.Progress.feed_all.Given as goal

-- The bytes so far led here, and the lines that ended in them are printed.
abbrev pub invariant-loop-byte : goal.invariant-loop-byte
invariant-loop-byte l = Leads l.fn.self l.fn.out.items (take l.byte-index l.bytes) l.self l.out.items
