use Rattle.std.proofs.Common.{take}
use Rattle.archive_query.specs.Made.{AreMade}
use Rattle.archive_query.proofs.sending.sendings.Given as goal

-- of the prepared instances so far what is sent is made
abbrev pub invariant-loop-instance : goal.invariant-loop-instance
invariant-loop-instance l = AreMade l.accepts.list (take l.instance-index l.prepared) l.found.items
