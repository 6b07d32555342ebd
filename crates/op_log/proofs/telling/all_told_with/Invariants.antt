use Rattle.std.proofs.Common.{◌≡◌, ◌≤◌, IsTrue, length, map, take}
use Rattle.body_log.specs.Log.{disk_of}
use Rattle.operation.specs.Spelling.{digest_of}
use Rattle.op_log.specs.Recorded.{AreRecordedAs}
use Rattle.op_log.specs.Staged.{Grows}
use Rattle.op_log.specs.Verified.{digests_of}
use Rattle.op_log.proofs.telling.all_told_with.Given as goal

-- So many were recorded, some of them from what is told.
abbrev pub invariant-contents : goal.invariant-contents
invariant-contents g l =
    let d = g.B.Disk in
    record {
      grows : Grows d l.fn.bodies l.bodies;
      seen : d.seen (disk_of l.bodies) ≡ d.seen (disk_of l.fn.bodies);
      usable : d.is_usable (disk_of l.bodies) ≡ d.is_usable (disk_of l.fn.bodies);
      calm : d.faults (disk_of l.bodies) ≡ d.faults (disk_of l.fn.bodies);
      within : l.from ≤ length l.places;
      told : map digest_of l.recorded.items ≡ digests_of (take l.from l.places);
      all : IsTrue (d.is_clean (disk_of l.bodies))
          → AreRecordedAs (d.seen (disk_of l.fn.bodies)) l.told (take l.from l.places) l.recorded.items;
    }
