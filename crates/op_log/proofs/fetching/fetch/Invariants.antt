use Rattle.std.proofs.Common.{◌≡◌, ◌+◌, length, drop, IsTrue}
use Rattle.body_log.specs.Log.{disk_of}
use Rattle.op_log.specs.Fetched.{AreRead}
use Rattle.op_log.specs.Staged.{Grows}
use Rattle.op_log.proofs.fetching.fetch.Given as goal

-- So many were read.
abbrev pub invariant-places : goal.invariant-places
invariant-places g l =
    let d = g.B.Disk in
    record {
      grows : Grows d l.fn.bodies l.bodies;
      seen : d.seen (disk_of l.bodies) ≡ d.seen (disk_of l.fn.bodies);
      usable : d.is_usable (disk_of l.bodies) ≡ d.is_usable (disk_of l.fn.bodies);
      calm : d.faults (disk_of l.bodies) ≡ d.faults (disk_of l.fn.bodies);
      count : l.from + length l.ops.items ≡ l.index;
      read : IsTrue (d.is_clean (disk_of l.bodies)) → AreRead (d.seen (disk_of l.fn.bodies)) l.ops.items (drop l.from l.places);
    }
