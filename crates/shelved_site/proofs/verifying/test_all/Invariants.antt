use Rattle.std.proofs.Common.{◌≡◌, take}
use Rattle.sqlite_disk.specs.Disk.{MoreFaults}
use Rattle.op_log.specs.Log.{Looks}
use Rattle.shelved_site.specs.Keeping.{IsUp}
use Rattle.shelved_site.specs.Stores.{IsSame}
use Rattle.op_log.specs.Staged.{StaysOrRises}
use Rattle.shelved_site.specs.Verifying.{AreTold}
use Rattle.shelved_site.proofs.verifying.test_all.Given as goal

-- So many were tested, and nothing has changed.
abbrev pub invariant-loop-index : goal.invariant-loop-index
invariant-loop-index g l =
    let gh = g.H.Disk in
    let gb = g.B.Disk in
    let old = gb.faults l.fn.log.bodies in
    let new = gb.faults l.log.bodies in
    record {
      looks : Looks l.fn.log l.log;
      seen : gb.seen l.log.bodies ≡ gb.seen l.fn.log.bodies;
      usable : gb.is_usable l.log.bodies ≡ gb.is_usable l.fn.log.bodies;
      rises : StaysOrRises old new;
      up : IsUp gh gb l.log → IsUp gh gb l.fn.log;
      same : IsUp gh gb l.log → IsSame gb l.fn.log l.log;
      told : IsUp gh gb l.log
          → AreTold (gb.seen l.fn.log.bodies) (MoreFaults old new) (take l.index l.fn.log.places) l.damaged.items;
    }
