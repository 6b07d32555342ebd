use Rattle.std.proofs.Common.{◌≡◌, IsTrue, map, take}
use Rattle.body_log.specs.Log.{disk_of}
use Rattle.operation.specs.Spelling.{digest_of}
use Rattle.op_log.specs.Loaded.{Lists}
use Rattle.op_log.specs.Staged.{Grows}
use Rattle.op_log.specs.Verified.{digests_of}
use Rattle.op_log.proofs.listing.all_ops.Given as goal

-- So many were loaded.
abbrev pub invariant-places : goal.invariant-places
invariant-places g l =
    let d = g.B.Disk in
    record {
      grows : Grows d l.fn.bodies l.bodies;
      seen : d.seen (disk_of l.bodies) ≡ d.seen (disk_of l.fn.bodies);
      usable : d.is_usable (disk_of l.bodies) ≡ d.is_usable (disk_of l.fn.bodies);
      calm : d.faults (disk_of l.bodies) ≡ d.faults (disk_of l.fn.bodies);
      told : map digest_of l.ops.items ≡ digests_of (take l.index l.places);
      all : IsTrue (d.is_clean (disk_of l.bodies)) → Lists (d.seen (disk_of l.fn.bodies)) (take l.index l.places) l.ops.items;
    }
