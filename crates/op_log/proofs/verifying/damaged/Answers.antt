use Rattle.std.proofs.Common.{◌+◌, ◌++◌, ◌∷◌, [], List, ℕ, Bool, cond, take, sym, subst, ap, ◌∙◌}
use Rattle.std.proofs.lemmas.List.{append-nil}
use Rattle.std.proofs.lemmas.List.Elements.{All-contains}
use Rattle.sqlite_disk.specs.Disk.{MoreFaults}
use Rattle.body_log.specs.Log.{disk_of, end_of}
use Rattle.op_log.specs.Kept.{IsBelow}
use Rattle.op_log.specs.Places.{head_by}
use Rattle.op_log.specs.Verified.{damaged_in, digests_of, is_whole}
use Rattle.op_log.proofs.Faults.{counts_on}
use Rattle.op_log.proofs.Growing.{grows_twice, reaches_head}
use Rattle.op_log.proofs.Lists.{at_among}
use Rattle.op_log.proofs.TestedBodies.{tested_more}
use Rattle.op_log.proofs.verifying.damaged.Goals.{then-not-branch+in_ok-push, else-not-branch}
use Rattle.op_log.proofs.verifying.damaged.Goals as goal

-- The data set lies below the end, and so far no call was refused.
pub returns-in_err-is_whole-clause-disk : goal.returns-in_err-is_whole-clause-disk
returns-in_err-is_whole-clause-disk g c below =
    let inv = c.places.invariant in
    let old = c.args.bodies.now in
    let mid = c.places.bodies in
    let new = c.is_whole.new.bodies in
    let heads = c.args.places.now in
    let h = head_by c.in-Some.bytes.now c.in-Some.place.now in
    let low = All-contains (IsBelow (end_of old)) heads h below (at_among heads c.places.index h c.in-Some.ensures.found) in
    counts_on c.from_residual.result c.in_err-is_whole.field-0.0 (g.B.Disk.faults (disk_of old)) (g.B.Disk.faults (disk_of new)) c.from_residual.ensures.1 λ told reach.
    subst (λ (n : ℕ). MoreFaults n (g.B.Disk.faults (disk_of new))) inv.calm
    (c.in_err-is_whole.ensures.disk told (reaches_head g.B.Disk old mid inv.grows (h.at + h.size) low reach))

-- A read writes nothing.
pub returns-in_err-is_whole-clause-grows : goal.returns-in_err-is_whole-clause-grows
returns-in_err-is_whole-clause-grows g c =
    grows_twice g.B.Disk c.args.bodies.now c.places.bodies c.is_whole.new.bodies c.places.invariant.grows c.is_whole.ensures.grows

-- Nor does one whose place found no room in memory.
pub returns-in_err-push-clause-grows : goal.returns-in_err-push-clause-grows
returns-in_err-push-clause-grows g c =
    grows_twice g.B.Disk c.args.bodies.now c.places.bodies c.is_whole.new.bodies c.places.invariant.grows c.is_whole.ensures.grows

-- One head more was tested.
pub places-preserved : goal.places-preserved
places-preserved g c =
    let inv = c.places.invariant in
    let file = g.B.Disk.seen (disk_of c.args.bodies.now) in
    let heads = c.args.places.now in
    let place = c.in-Some.place.now in
    let h = head_by c.in-Some.bytes.now place in
    record {
      grows = grows_twice g.B.Disk c.args.bodies.now c.places.bodies c.is_whole.new.bodies inv.grows c.is_whole.ensures.grows;
      seen = c.is_whole.ensures.seen ∙ inv.seen;
      usable = c.is_whole.ensures.uses.usable ∙ inv.usable;
      calm = c.in_ok-is_whole.ensures.disk ∙ inv.calm;
      tested = λ clean.
          let before = inv.tested (c.is_whole.ensures.grows.spared.clean clean) in
          let more = tested_more file heads c.places.index h c.in-Some.ensures.found in
          let whole = c.in_ok-is_whole.ensures.exact clean
          ∙ ap (λ (d : List ℕ). is_whole (g.B.Disk.seen (disk_of c.places.bodies)) (head_by d place)) c.of-digest.ensures
          ∙ ap (λ (f : List ℕ). is_whole f h) inv.seen in
          let so_far = digests_of (damaged_in file (take c.places.index heads)) in
          elim c.if-not-branch.branch [
            | then-not-branch+in_ok-push w ↦
                let off = sym whole ∙ w.if-not-branch.true in
                ap (λ v. v.items) w.damaged-is ∙ w.in_ok-push.ensures.items ∙ ap (λ (d : List ℕ). c.places.damaged.items ++ d ∷ []) c.of-digest.ensures
                ∙ ap (λ (ds : List (List ℕ)). ds ++ h.digest ∷ []) before
                ∙ sym (more ∙ ap (λ (b : Bool). so_far ++ cond b [] (h.digest ∷ [])) off)
            | else-not-branch w ↦
                let on = sym whole ∙ w.if-not-branch.false in
                ap (λ v. v.items) w.damaged-is ∙ before
                ∙ sym (more ∙ ap (λ (b : Bool). so_far ++ cond b [] (h.digest ∷ [])) on ∙ append-nil so_far)
          ];
    }
