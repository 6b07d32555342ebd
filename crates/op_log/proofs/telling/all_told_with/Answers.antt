use Rattle.std.proofs.Common.{ℕ, List, take, subst, sym, ◌∙◌}
use Rattle.sqlite_disk.specs.Disk.{MoreFaults}
use Rattle.body_log.specs.Log.{disk_of, end_of}
use Rattle.octets.specs.Members.{Has}
use Rattle.operation.specs.Parts.{ContentParts}
use Rattle.op_log.specs.Recorded.{AreRecordedAs}
use Rattle.op_log.proofs.Faults.{counts_on}
use Rattle.op_log.proofs.Growing.{below_on, grows_twice, reaches_on}
use Rattle.op_log.proofs.Told.{has_at}
use Rattle.op_log.proofs.telling.all_told_with.Goals as goal

-- Reads write nothing.
pub returns-in_err-from-clause-grows : goal.returns-in_err-from-clause-grows
returns-in_err-from-clause-grows g c =
    grows_twice g.B.Disk c.args.bodies.now c.contents.bodies c.record_up_to.new.bodies c.contents.invariant.grows c.record_up_to.ensures.grows

-- Reads write nothing.
pub returns-in_err-record_between-clause-grows : goal.returns-in_err-record_between-clause-grows
returns-in_err-record_between-clause-grows g c =
    grows_twice g.B.Disk c.args.bodies.now c.contents.bodies c.record_between.new.bodies c.contents.invariant.grows c.record_between.ensures.grows

-- And so all together write nothing.
pub returns-clause-grows : goal.returns-clause-grows
returns-clause-grows g c =
    grows_twice g.B.Disk c.args.bodies.now c.contents.bodies c.record_between.new.bodies c.contents.invariant.grows c.record_between.ensures.grows

-- So far no call was refused.
pub returns-in_err-record_between-clause-disk : goal.returns-in_err-record_between-clause-disk
returns-in_err-record_between-clause-disk g c below =
    let inv = c.contents.invariant in
    let old = c.args.bodies.now in
    let mid = c.contents.bodies in
    let new = c.record_between.new.bodies in
    let low = below_on (end_of old) (end_of mid) c.args.places.now inv.grows.longer below in
    counts_on c.from_residual-in_err-record_between.result c.in_err-record_between.field-0.0 (g.B.Disk.faults (disk_of old)) (g.B.Disk.faults (disk_of new))
    c.from_residual-in_err-record_between.ensures.1 λ told reach.
    subst (λ (n : ℕ). MoreFaults n (g.B.Disk.faults (disk_of new))) inv.calm
    (c.in_err-record_between.ensures.disk low told (reaches_on g.B.Disk old mid inv.grows reach))

-- One told content more was recorded, or passed over.
pub contents-preserved : goal.contents-preserved
contents-preserved g c =
    let inv = c.contents.invariant in
    let told = c.args.told.now in
    let heads = c.args.places.now in
    let among = subst (λ (x : ContentParts). Has told x) (sym c.content-item.is)
    (has_at told c.contents.content-index c.content-item.result c.contents-test.true) in
    record {
      grows = grows_twice g.B.Disk c.args.bodies.now c.contents.bodies c.record_up_to.new.bodies inv.grows c.record_up_to.ensures.grows;
      seen = c.record_up_to.ensures.seen ∙ inv.seen;
      usable = c.record_up_to.ensures.uses.usable ∙ inv.usable;
      calm = c.in_ok-from.ensures.calm ∙ inv.calm;
      within = c.in_ok-from.ensures.within;
      told = c.in_ok-from.ensures.told inv.told;
      all = λ clean.
          let before = inv.all (c.record_up_to.ensures.grows.spared.clean clean) in
          subst (λ (f : List ℕ). AreRecordedAs f told (take c.in_ok-from.from heads) c.record_up_to.new.recorded.items) inv.seen
          (c.in_ok-from.ensures.all clean told among
          (subst (λ (f : List ℕ). AreRecordedAs f told (take c.contents.from heads) c.contents.recorded.items) (sym inv.seen) before));
    }
