use Rattle.std.proofs.Common.{take}
use Rattle.op_log.specs.Readable.{IsTableOf}
use Rattle.op_log.proofs.told_contents.ToldContents.of.Given as goal

-- So many were taken.
abbrev pub invariant-contents : goal.invariant-contents
invariant-contents l = IsTableOf (take l.content-index l.told) l.contents.table.entries
