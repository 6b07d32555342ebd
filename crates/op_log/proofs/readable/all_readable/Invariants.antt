use Rattle.std.proofs.Common.{◌≡◌, IsTrue, take}
use Rattle.body_log.specs.Log.{disk_of}
use Rattle.op_log.specs.Readable.{AreParted, IsAmiss, IsNamed, IsUntold, ReachesAll}
use Rattle.op_log.specs.Recorded.{IsRecordedAs}
use Rattle.op_log.specs.Staged.{Grows, StaysOrRises}
use Rattle.op_log.proofs.readable.all_readable.Given as goal

-- So many were recorded, or are listed.
abbrev pub invariant-places : goal.invariant-places
invariant-places g l =
    let d = g.B.Disk in
    record {
      grows : Grows d l.fn.bodies l.bodies;
      seen : d.seen (disk_of l.bodies) ≡ d.seen (disk_of l.fn.bodies);
      usable : d.is_usable (disk_of l.bodies) ≡ d.is_usable (disk_of l.fn.bodies);
      counts : ReachesAll d l.fn.bodies l.places → StaysOrRises (d.faults (disk_of l.fn.bodies)) (d.faults (disk_of l.bodies));
      told : AreParted IsNamed (IsUntold l.told) 0 (take l.index l.places) l.readable.recorded.items l.readable.unreadable.items;
      all : IsTrue (d.is_clean (disk_of l.bodies)) → ReachesAll d l.fn.bodies l.places
          → AreParted (IsRecordedAs (d.seen (disk_of l.fn.bodies)) l.told)
          (IsAmiss (d.seen (disk_of l.fn.bodies)) (d.faults (disk_of l.fn.bodies)) (d.faults (disk_of l.bodies))) 0
          (take l.index l.places) l.readable.recorded.items l.readable.unreadable.items;
    }
