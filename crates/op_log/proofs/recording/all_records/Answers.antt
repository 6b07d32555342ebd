use Rattle.std.proofs.Common.{rules, ◌+◌, ◌++◌, ◌∷◌, [], ℕ, List, map, take, subst, sym, ap, ◌∙◌}
use Rattle.std.proofs.lemmas.List.Elements.{All-contains}
use Rattle.sqlite_disk.specs.Disk.{MoreFaults}
use Rattle.body_log.specs.Log.{disk_of, end_of}
use Rattle.operation.specs.declared.op.Op.{Op}
use Rattle.operation.specs.Spelling.{digest_of}
use Rattle.records.specs.StandIn.{op_in}
use Rattle.op_log.specs.Heads.{Head}
use Rattle.op_log.specs.Kept.{HasBody, IsBelow}
use Rattle.op_log.specs.Loaded.{IsOf}
use Rattle.op_log.specs.Recorded.{Records}
use Rattle.op_log.specs.Places.{head_by}
use Rattle.op_log.specs.Verified.{digests_of}
use Rattle.op_log.proofs.Faults.{counts_on}
use Rattle.op_log.proofs.Growing.{grows_twice, reaches_head}
use Rattle.op_log.proofs.Lists.{at_among, told_more}
use Rattle.op_log.proofs.Recordings.{records_more}
use Rattle.op_log.proofs.TestedBodies.{take_more}
use Rattle.op_log.proofs.recording.all_records.Goals as goal

-- No operation is that of the head.
pub returns-in_err-op-clause-damaged : goal.returns-in_err-op-clause-damaged
returns-in_err-op-clause-damaged g c clean n told =
    let seen = c.places.invariant.seen in
    let place = c.in-Some.place.now in
    record {
      head = head_by c.in-Some.bytes.now place;
      among = at_among c.args.places.now c.places.index (head_by c.in-Some.bytes.now place) c.in-Some.ensures.found;
      place = sym (c.load_at.ensures.place n (search rules));
      none = λ op it. c.load_at.ensures.damaged clean op it.lawful (ap (λ (d : List ℕ). head_by d place) c.of.ensures ∙ it.head)
          (subst (λ (f : List ℕ). HasBody f (op, place.at)) (sym seen) it.held) n (search rules);
    }

-- The data set lies below the end, and so far no call was refused.
pub returns-in_err-op-clause-disk : goal.returns-in_err-op-clause-disk
returns-in_err-op-clause-disk g c below =
    let inv = c.places.invariant in
    let old = c.args.bodies.now in
    let mid = c.places.bodies in
    let new = c.load_at.new.bodies in
    let heads = c.args.places.now in
    let h = head_by c.in-Some.bytes.now c.in-Some.place.now in
    let low = All-contains (IsBelow (end_of old)) heads h below (at_among heads c.places.index h c.in-Some.ensures.found) in
    counts_on c.from_residual-in_err-op.result c.in_err-op.field-0.0 (g.B.Disk.faults (disk_of old)) (g.B.Disk.faults (disk_of new)) c.from_residual-in_err-op.ensures.1 λ told reach.
    subst (λ (n : ℕ). MoreFaults n (g.B.Disk.faults (disk_of new))) inv.calm
    (c.in_err-op.ensures.disk told (reaches_head g.B.Disk old mid inv.grows (h.at + h.size) low reach))

-- A read writes nothing.
pub returns-in_err-op-clause-grows : goal.returns-in_err-op-clause-grows
returns-in_err-op-clause-grows g c =
    grows_twice g.B.Disk c.args.bodies.now c.places.bodies c.load_at.new.bodies c.places.invariant.grows c.load_at.ensures.grows

-- Nor does one whose record found no room in memory.
pub returns-in_err-made-clause-grows : goal.returns-in_err-made-clause-grows
returns-in_err-made-clause-grows g c =
    grows_twice g.B.Disk c.args.bodies.now c.places.bodies c.load_at.new.bodies c.places.invariant.grows c.load_at.ensures.grows

-- Nor where there is no room for one more.
pub returns-in_err-push-clause-grows : goal.returns-in_err-push-clause-grows
returns-in_err-push-clause-grows g c =
    grows_twice g.B.Disk c.args.bodies.now c.places.bodies c.load_at.new.bodies c.places.invariant.grows c.load_at.ensures.grows

-- One operation more was loaded, and recorded.
pub places-preserved : goal.places-preserved
places-preserved g c =
    let inv = c.places.invariant in
    let file = g.B.Disk.seen (disk_of c.args.bodies.now) in
    let heads = c.args.places.now in
    let place = c.in-Some.place.now in
    let op = c.in_ok-op.op in
    let h = head_by c.in-Some.bytes.now place in
    let more = take_more heads c.places.index h c.in-Some.ensures.found in
    let items = c.in_ok-push.ensures.items ∙ ap (λ (o : Op). c.places.recorded.items ++ o ∷ []) c.in_ok-made.ensures.stands in
    record {
      grows = grows_twice g.B.Disk c.args.bodies.now c.places.bodies c.load_at.new.bodies inv.grows c.load_at.ensures.grows;
      seen = c.load_at.ensures.seen ∙ inv.seen;
      usable = c.load_at.ensures.uses.usable ∙ inv.usable;
      calm = c.in_ok-op.ensures.disk ∙ inv.calm;
      told = ap (λ (ops : List Op). map digest_of ops) items
          ∙ told_more (take c.places.index heads) c.places.recorded.items h (op_in op) inv.told
          (c.of-in-places.ensures.digest ∙ c.in_ok-op.ensures.told ∙ c.of.ensures)
          ∙ ap digests_of (sym more);
      all = λ clean.
          let mine = subst (λ (d : List ℕ). IsOf (g.B.Disk.seen (disk_of c.places.bodies)) (head_by d place) op) c.of.ensures (c.in_ok-op.ensures.found clean) in
          let more_of = records_more file (take c.places.index heads) c.places.recorded.items h op
          (inv.all (c.load_at.ensures.grows.spared.clean clean)) (subst (λ (f : List ℕ). IsOf f h op) inv.seen mine) in
          subst (λ (hs : List Head). Records file hs c.push.new.self.items) (sym more)
          (subst (λ (ops : List Op). Records file (take c.places.index heads ++ h ∷ []) ops) (sym items) more_of);
    }
