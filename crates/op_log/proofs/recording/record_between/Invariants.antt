use Rattle.std.proofs.Common.{◌≡◌, ◌≤◌, ◌<◌, ◌+◌, ◌-◌, List, IsTrue, length, map, take, drop}
use Rattle.body_log.specs.Log.{disk_of}
use Rattle.operation.specs.Parts.{ContentParts}
use Rattle.operation.specs.Spelling.{digest_of}
use Rattle.op_log.specs.Fetched.{AreRead}
use Rattle.op_log.specs.Recorded.{AreRecordedAs}
use Rattle.op_log.specs.Staged.{Grows}
use Rattle.op_log.specs.Verified.{digests_of}
use Rattle.op_log.proofs.recording.record_between.Given as goal

-- Those before the index were recorded, and the next were read.
abbrev pub invariant-groups : goal.invariant-groups
invariant-groups g l =
    let d = g.B.Disk in
    record {
      grows : Grows d l.fn.bodies l.bodies;
      seen : d.seen (disk_of l.bodies) ≡ d.seen (disk_of l.fn.bodies);
      usable : d.is_usable (disk_of l.bodies) ≡ d.is_usable (disk_of l.fn.bodies);
      calm : d.faults (disk_of l.bodies) ≡ d.faults (disk_of l.fn.bodies);
      told : map digest_of l.fn.recorded.items ≡ digests_of (take l.from l.places)
          → map digest_of l.recorded.items ≡ digests_of (take l.index l.places);
      all : IsTrue (d.is_clean (disk_of l.bodies)) → (told : List ContentParts)
          → AreRecordedAs (d.seen (disk_of l.fn.bodies)) told (take l.from l.places) l.fn.recorded.items
          → AreRecordedAs (d.seen (disk_of l.fn.bodies)) told (take l.index l.places) l.recorded.items;
      read : IsTrue (d.is_clean (disk_of l.bodies)) → AreRead (d.seen (disk_of l.fn.bodies)) l.ready.items (drop l.index l.places);
      within : l.index + length l.ready.items ≤ l.until;
      some : l.index < l.until → 0 < length l.ready.items;
    }

-- With each group fewer are left.
abbrev pub decreases-groups : goal.decreases-groups
decreases-groups g l = l.until - l.index
