use Rattle.std.proofs.Common.{rules, ◌≡◌, ◌+◌, ◌++◌, ◌∷◌, [], ℕ, List, drop, length, slice_get, Some, subst, sym, ap, ◌∙◌}
use Rattle.std.proofs.lemmas.List.Elements.{All-contains}
use Rattle.sqlite_disk.specs.Disk.{MoreFaults}
use Rattle.body_log.specs.Log.{disk_of, end_of}
use Rattle.operation.specs.declared.op.Op.{Op}
use Rattle.op_log.specs.Fetched.{AreRead}
use Rattle.op_log.specs.Heads.{Head}
use Rattle.op_log.specs.Kept.{HasBody, IsBelow}
use Rattle.op_log.specs.Places.{head_by}
use Rattle.op_log.proofs.Faults.{counts_on}
use Rattle.op_log.proofs.Fetches.{drop_get, is_read, read_more}
use Rattle.op_log.proofs.Growing.{grows_twice, reaches_head}
use Rattle.op_log.proofs.Lists.{at_among}
use Rattle.op_log.proofs.fetching.fetch.Goals as goal

-- No operation is that of the head.
pub returns-in_err-op-clause-damaged : goal.returns-in_err-op-clause-damaged
returns-in_err-op-clause-damaged g c clean n told =
    let seen = c.places.invariant.seen in
    let place = c.in-Some.place.now in
    record {
      head = head_by c.in-Some._bytes.now place;
      among = at_among c.args.places.now c.places.index (head_by c.in-Some._bytes.now place) c.in-Some.ensures.found;
      place = sym (c.read_at.ensures.place n (search rules));
      none = λ op it. c.read_at.ensures.damaged clean op it.lawful
          (ap (λ (d : List ℕ). head_by d place) (sym (ap (λ (h : Head). h.digest) it.head)) ∙ it.head)
          (subst (λ (f : List ℕ). HasBody f (op, place.at)) (sym seen) it.held) n (search rules);
    }

-- The data set lies below the end, and so far no call was refused.
pub returns-in_err-op-clause-disk : goal.returns-in_err-op-clause-disk
returns-in_err-op-clause-disk g c below =
    let inv = c.places.invariant in
    let old = c.args.bodies.now in
    let mid = c.places.bodies in
    let new = c.read_at.new.bodies in
    let heads = c.args.places.now in
    let h = head_by c.in-Some._bytes.now c.in-Some.place.now in
    let low = All-contains (IsBelow (end_of old)) heads h below (at_among heads c.places.index h c.in-Some.ensures.found) in
    counts_on c.from_residual.result c.in_err-op.field-0.0 (g.B.Disk.faults (disk_of old)) (g.B.Disk.faults (disk_of new)) c.from_residual.ensures.1 λ told reach.
    subst (λ (n : ℕ). MoreFaults n (g.B.Disk.faults (disk_of new))) inv.calm
    (c.in_err-op.ensures.disk told (reaches_head g.B.Disk old mid inv.grows (h.at + h.size) low reach))

-- A read writes nothing.
pub returns-in_err-op-clause-grows : goal.returns-in_err-op-clause-grows
returns-in_err-op-clause-grows g c =
    grows_twice g.B.Disk c.args.bodies.now c.places.bodies c.read_at.new.bodies c.places.invariant.grows c.read_at.ensures.grows

-- Nor does one that found no room in memory.
pub returns-in_err-push-clause-grows : goal.returns-in_err-push-clause-grows
returns-in_err-push-clause-grows g c =
    grows_twice g.B.Disk c.args.bodies.now c.places.bodies c.read_at.new.bodies c.places.invariant.grows c.read_at.ensures.grows

-- One more was read.
pub places-preserved : goal.places-preserved
places-preserved g c =
    let inv = c.places.invariant in
    let file = g.B.Disk.seen (disk_of c.args.bodies.now) in
    let mid = g.B.Disk.seen (disk_of c.places.bodies) in
    let heads = c.args.places.now in
    let place = c.in-Some.place.now in
    let op = c.in_ok-op.op in
    let h = head_by c.in-Some._bytes.now place in
    let items : c.push.new.self.items ≡ c.places.ops.items ++ op ∷ [] = c.in_ok-push.ensures.items ∙ ap (λ (o : Op). c.places.ops.items ++ o ∷ []) c.of.ensures in
    record {
      grows = grows_twice g.B.Disk c.args.bodies.now c.places.bodies c.read_at.new.bodies inv.grows c.read_at.ensures.grows;
      seen = c.read_at.ensures.seen ∙ inv.seen;
      usable = c.read_at.ensures.uses.usable ∙ inv.usable;
      calm = c.in_ok-op.ensures.disk ∙ inv.calm;
      count = search rules;
      read = λ clean.
          let it = is_read mid place c.in-Some._bytes.now op (c.in_ok-op.ensures.found clean) (c.in_ok-op.ensures.exact clean) in
          let at : slice_get (drop c.args.from heads) (length c.places.ops.items) ≡ Some h =
          drop_get heads c.args.from (length c.places.ops.items) ∙ ap (slice_get heads) inv.count ∙ c.in-Some.ensures.found in
          let more = read_more mid c.places.ops.items (drop c.args.from heads) h op
          (subst (λ (f : List ℕ). AreRead f c.places.ops.items (drop c.args.from heads)) (sym inv.seen) (inv.read (c.read_at.ensures.grows.spared.clean clean))) at it in
          subst (λ (f : List ℕ). AreRead f c.push.new.self.items (drop c.args.from heads)) inv.seen
          (subst (λ (ops : List Op). AreRead mid ops (drop c.args.from heads)) (sym items) more);
    }
