use Rattle.std.proofs.Common.{◌≡◌, ◌+◌, ℕ, List, length, map, take, drop, subst, sym, ap, ◌∙◌, arith}
use Rattle.std.specs.Vec.{with_items}
use Rattle.std.proofs.lemmas.List.{with_items_is}
use Rattle.body_log.specs.Log.{disk_of}
use Rattle.operation.specs.declared.op.Op.{Op}
use Rattle.operation.specs.Spelling.{digest_of}
use Rattle.op_log.specs.Fetched.{AreRead}
use Rattle.op_log.specs.Recorded.{AreRecordedAs}
use Rattle.op_log.specs.Verified.{digests_of}
use Rattle.op_log.proofs.Growing.{grows_twice}
use Rattle.op_log.proofs.recording.record_between.Goals as goal

-- Reads write nothing.
pub returns-in_err-ready-2-clause-grows : goal.returns-in_err-ready-2-clause-grows
returns-in_err-ready-2-clause-grows g c =
    grows_twice g.B.Disk c.args.bodies.now c.groups.bodies c.hash_and_fetch.new.bodies c.groups.invariant.grows c.hash_and_fetch.ensures.grows

-- Nor does what is recorded in between.
pub returns-in_err-record_some-clause-grows : goal.returns-in_err-record_some-clause-grows
returns-in_err-record_some-clause-grows g c =
    grows_twice g.B.Disk c.args.bodies.now c.groups.bodies c.hash_and_fetch.new.bodies c.groups.invariant.grows c.hash_and_fetch.ensures.grows

-- One group more was recorded, and the next one was read.
pub groups-preserved : goal.groups-preserved
groups-preserved g c =
    let inv = c.groups.invariant in
    let file = g.B.Disk.seen (disk_of c.args.bodies.now) in
    let heads = c.args.places.now in
    let all = c.hash_and_fetch.auto.ops ∙ c.as_mut_slice.ensures.len in
    let same : (with_items c.groups.ready c.hash_and_fetch.new.ops).items ≡ c.groups.ready.items =
    with_items_is c.groups.ready c.hash_and_fetch.new.ops all ∙ c.hash_and_fetch.ensures.same ∙ c.as_mut_slice.ensures.value in
    let next : c.groups.index + length (with_items c.groups.ready c.hash_and_fetch.new.ops).items ≡ c.groups.index + c.len.result =
    omega (arith, ap length same, c.len.ensures, c.groups.ready.ok) in
    record {
      grows = grows_twice g.B.Disk c.args.bodies.now c.groups.bodies c.hash_and_fetch.new.bodies inv.grows c.hash_and_fetch.ensures.grows;
      seen = c.hash_and_fetch.ensures.seen ∙ inv.seen;
      usable = c.hash_and_fetch.ensures.uses.usable ∙ inv.usable;
      calm = c.in_ok-ready-2.ensures.calm ∙ inv.calm;
      told = λ was. subst (λ (n : ℕ). map digest_of c.record_some.new.recorded.items ≡ digests_of (take n heads)) next
          (c.in_ok-record_some.ensures.told (inv.told was));
      all = λ clean told was.
          let before = c.hash_and_fetch.ensures.grows.spared.clean clean in
          subst (λ (n : ℕ). AreRecordedAs file told (take n heads) c.record_some.new.recorded.items) next
          (c.in_ok-record_some.ensures.all file told (inv.all before told was)
          (subst (λ (ops : List Op). AreRead file ops (drop c.groups.index heads)) (sym same) (inv.read before)));
      read = λ clean.
          subst (λ (f : List ℕ). AreRead f c.in_ok-ready-2.ready.items (drop (c.groups.index + c.len.result) heads)) inv.seen
          (c.in_ok-ready-2.ensures.read clean);
      within = c.in_ok-ready-2.ensures.within;
      some = c.in_ok-ready-2.ensures.some;
    }

-- All were.
pub returns-clause-told : goal.returns-clause-told
returns-clause-told g c was =
    let inv = c.groups.invariant in
    let last : c.groups.index ≡ c.args.until = omega (arith, inv.within, c.groups-test.false) in
    subst (λ (n : ℕ). map digest_of c.groups.recorded.items ≡ digests_of (take n c.args.places.now)) last (inv.told was)

-- Each is of its head, or was told so.
pub returns-clause-all : goal.returns-clause-all
returns-clause-all g c clean told was =
    let inv = c.groups.invariant in
    let last : c.groups.index ≡ c.args.until = omega (arith, inv.within, c.groups-test.false) in
    subst (λ (n : ℕ). AreRecordedAs (g.B.Disk.seen (disk_of c.args.bodies.now)) told (take n c.args.places.now) c.groups.recorded.items)
    last (inv.all clean told was)
