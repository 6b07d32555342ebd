use Rattle.std.proofs.Common.{List, ℕ, take, subst, sym, ◌+◌, ◌∙◌}
use Rattle.body_log.specs.Log.{disk_of}
use Rattle.op_log.specs.Readable.{AreParted, IsAmiss}
use Rattle.op_log.specs.Recorded.{IsRecordedAs}
use Rattle.op_log.proofs.Growing.{grows_twice}
use Rattle.op_log.proofs.Faults.{rises_twice}
use Rattle.op_log.proofs.Parted.{reaches_still}
use Rattle.op_log.proofs.readable.all_readable.Goals as goal

-- Reads write nothing.
pub returns-in_err-sort_one-clause-grows : goal.returns-in_err-sort_one-clause-grows
returns-in_err-sort_one-clause-grows g c =
    grows_twice g.B.Disk c.args.bodies.now c.places.bodies c.sort_one.new.bodies c.places.invariant.grows c.sort_one.ensures.grows

-- One operation more was recorded, or is listed.
pub places-preserved : goal.places-preserved
places-preserved g c =
    let inv = c.places.invariant in
    let d = g.B.Disk in
    let old = c.args.bodies.now in
    let mid = c.places.bodies in
    let new = c.sort_one.new.bodies in
    let heads = c.args.places.now in
    let told = c.args.told.now in
    let table = c.in_ok-contents.ensures in
    let was = c.places.readable in
    let is = c.sort_one.new.readable in
    let first = d.faults (disk_of old) in
    record {
      grows = grows_twice d old mid new inv.grows c.sort_one.ensures.grows;
      seen = c.sort_one.ensures.seen ∙ inv.seen;
      usable = c.sort_one.ensures.uses.usable ∙ inv.usable;
      counts = λ reach.
          rises_twice first (d.faults (disk_of mid)) (d.faults (disk_of new)) (inv.counts reach)
          (c.in_ok-sort_one.ensures.counts (reaches_still d old mid heads inv.grows reach));
      told = c.in_ok-sort_one.ensures.told told table inv.told;
      all = λ clean reach.
          let before = inv.all (c.sort_one.ensures.grows.spared.clean clean) reach in
          subst (λ (f : List ℕ). AreParted (IsRecordedAs f told) (IsAmiss f first (d.faults (disk_of new))) 0 (take (c.places.index + 1) heads)
          is.recorded.items is.unreadable.items) inv.seen
          (c.in_ok-sort_one.ensures.all told table clean (reaches_still d old mid heads inv.grows reach) first (inv.counts reach)
          (subst (λ (f : List ℕ). AreParted (IsRecordedAs f told) (IsAmiss f first (d.faults (disk_of mid))) 0 (take c.places.index heads)
          was.recorded.items was.unreadable.items) (sym inv.seen) before));
    }
