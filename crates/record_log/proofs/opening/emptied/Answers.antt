use Rattle.std.proofs.Common.{[]}
use Rattle.head_log.specs.Log.{disk_of, gate_of}
use Rattle.record_log.proofs.Keeping.{opened}
use Rattle.record_log.proofs.Starting.{none_stands}
use Rattle.record_log.proofs.opening.emptied.Goals as goal

-- The file has no byte when it is opened.
pub returns-in-Ok-clause-kept : goal.returns-in-Ok-clause-kept
returns-in-Ok-clause-kept g c clean =
    let file = g.D.Disk.seen c.set_len.new.self in
    opened g.D.Disk file (disk_of c.in-Ok.file) (gate_of c.in-Ok.file) [] (c.in-Ok.ensures.found clean)
    (none_stands file c.in_ok-set_len.ensures.len)
