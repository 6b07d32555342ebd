use Rattle.std.proofs.Common.{◌≡◌, IsTrue, take}
use Rattle.body_log.specs.Log.{disk_of}
use Rattle.op_log.specs.Staged.{Grows}
use Rattle.op_log.specs.Verified.{damaged_in, digests_of}
use Rattle.op_log.proofs.verifying.damaged.Given as goal

-- So many were tested.
abbrev pub invariant-places : goal.invariant-places
invariant-places g l =
    let d = g.B.Disk in
    record {
      grows : Grows d l.fn.bodies l.bodies;
      seen : d.seen (disk_of l.bodies) ≡ d.seen (disk_of l.fn.bodies);
      usable : d.is_usable (disk_of l.bodies) ≡ d.is_usable (disk_of l.fn.bodies);
      calm : d.faults (disk_of l.bodies) ≡ d.faults (disk_of l.fn.bodies);
      tested : IsTrue (d.is_clean (disk_of l.bodies)) → l.damaged.items ≡ digests_of (damaged_in (d.seen (disk_of l.fn.bodies)) (take l.index l.places));
    }
