use Rattle.std.proofs.Common.{All, IsTrue, [], ℕ, List, Err, map, subst, sym, ap, ◌∙◌, arith}
use Rattle.head_log.specs.declared.gate.Gate.{Gate}
use Rattle.head_log.specs.Log.{disk_of as heads_of, gate_of as heads_end}
use Rattle.head_log.specs.Groups.{joined}
use Rattle.head_log.proofs.Gates.{groups_not_cut}
use Rattle.op_log.specs.Filling.{AreFit}
use Rattle.op_log.specs.Heads.{body_of, group_text}
use Rattle.op_log.specs.Kept.{IsBelow, IsKept, KeepsHeads}
use Rattle.op_log.specs.Walking.{AreLaid}
use Rattle.op_log.proofs.Faults.{damaged_is}
use Rattle.op_log.proofs.Opening.{found_all, heads_kept, kept_through, laid_of, some_long, walked_kept, whole_of}
use Rattle.op_log.proofs.log.OpLog.open.Goals as goal

-- The file that came back keeps its groups, and so their heads.
pub returns-in-Err-clause-kept : goal.returns-in-Err-clause-kept
returns-in-Err-clause-kept g c clean =
    let first = c.args.heads in
    let same = c.refused_heads.ensures.heads in
    let kept = c.in-Err.ensures.kept (subst (λ (f : g.row.H.Denot). IsTrue (g.H.Disk.is_clean f)) same clean) in
    subst (λ (f : g.row.H.Denot). KeepsHeads g.H.Disk first f) (sym same) (heads_kept g.H.Disk first c.in-Err.refused.disk kept)

-- A file that is cut is none of groups.
pub returns-in-Err-clause-damaged : goal.returns-in-Err-clause-damaged
returns-in-Err-clause-damaged g c n told clean whole them are =
    let is = damaged_is c.in-Err.refused.fault n (sym c.refused_heads.ensures.fault ∙ told) in
    let cut = c.in-Err.ensures.damaged n is (subst (λ (f : g.row.H.Denot). IsTrue (g.H.Disk.is_clean f)) c.refused_heads.ensures.heads clean) in
    groups_not_cut (g.H.Disk.seen c.args.heads) (map group_text are.stands.groups) n are.stands.laid cut

-- The file of heads was opened, and comes back as it was then.
pub returns-in-Err-over-clause-kept : goal.returns-in-Err-over-clause-kept
returns-in-Err-over-clause-kept g c clean =
    let first = c.args.heads in
    let same = c.refused_bodies.ensures.heads ∙ c.into_disk.ensures in
    let kept = c.in-Ok.ensures.kept (subst (λ (f : g.row.H.Denot). IsTrue (g.H.Disk.is_clean f)) same clean) in
    subst (λ (f : g.row.H.Denot). KeepsHeads g.H.Disk first f) (sym same) (heads_kept g.H.Disk first (heads_of c.in-Ok.heads) kept)

-- What was walked is what the file stands for.
pub invariant_of-result : goal.invariant_of-result
invariant_of-result g c =
    let heads = c.in-Ok.heads in
    let walked = c.walk.new.heads in
    let places = c.in-Ok-walk.places in
    let same = c.walk.ensures.same in
    record {
      below = subst (λ (n : ℕ). All (IsBelow n) places) c.end.ensures c.in-Ok-walk.ensures.below;
      reach = c.in-Ok-over.ensures.reach;
      kept = λ clean opens.
          subst (λ (n : Gate). IsKept g.H.Disk (heads_of walked) n places) (sym same.same)
          (walked_kept g.H.Disk (heads_of heads) (heads_of walked) c.end.result (heads_end heads) places same.disk
          (c.in-Ok.ensures.ended (same.disk.clean clean))
          (c.in-Ok-walk.ensures.laid clean (c.in-Ok.ensures.gates (same.disk.clean clean))));
    }

-- It is what the log shows.
pub returns-in-Ok-walk-clause-sound : goal.returns-in-Ok-walk-clause-sound
returns-in-Ok-walk-clause-sound g c =
    let heads = c.in-Ok.heads in
    let walked = c.walk.new.heads in
    let places = c.in-Ok-walk.places in
    let same = c.walk.ensures.same in
    record {
      below = subst (λ (n : ℕ). All (IsBelow n) places) c.end.ensures c.in-Ok-walk.ensures.below;
      reach = c.in-Ok-over.ensures.reach;
      kept = λ clean opens.
          subst (λ (n : Gate). IsKept g.H.Disk (heads_of walked) n places) (sym same.same)
          (walked_kept g.H.Disk (heads_of heads) (heads_of walked) c.end.result (heads_end heads) places same.disk
          (c.in-Ok.ensures.ended (same.disk.clean clean))
          (c.in-Ok-walk.ensures.laid clean (c.in-Ok.ensures.gates (same.disk.clean clean))));
    }

-- All that the file stands for lies up to the end of its groups, and was walked.
pub returns-in-Ok-walk-clause-found : goal.returns-in-Ok-walk-clause-found
returns-in-Ok-walk-clause-found g c clean them stands =
    let heads = c.in-Ok.heads in
    let was = c.walk.ensures.same.disk.clean clean in
    found_all g.H.Disk c.args.heads (heads_of heads) (λ f. g.met.H.Disk.seen_may_stay f) (heads_end heads) (c.in-Ok.ensures.found was) c.end.result
    c.in-Ok-walk.places them (c.in-Ok-walk.ensures.laid clean (c.in-Ok.ensures.gates was)) stands

-- What the file had lasts.
pub returns-in-Ok-walk-clause-lasting : goal.returns-in-Ok-walk-clause-lasting
returns-in-Ok-walk-clause-lasting g c clean e has some =
    (c.in-Ok-over.ensures.settled e.1 (body_of e.0) (has some), omega (arith, (has some).within, c.in-Ok-over.ensures.end clean))

-- The walk only read.
pub returns-in-Ok-walk-clause-kept : goal.returns-in-Ok-walk-clause-kept
returns-in-Ok-walk-clause-kept g c clean =
    let first = c.args.heads in
    let walked = heads_of c.walk.new.heads in
    let same = c.walk.ensures.same in
    heads_kept g.H.Disk first walked
    (kept_through g.H.Disk first (heads_of c.in-Ok.heads) walked (c.in-Ok.ensures.kept (same.disk.clean clean)) same.disk)

-- So did a walk that was refused.
pub returns-in-Err-walk-clause-kept : goal.returns-in-Err-walk-clause-kept
returns-in-Err-walk-clause-kept g c clean =
    let first = c.args.heads in
    let walked = heads_of c.walk.new.heads in
    let same = c.walk.ensures.same in
    let is = c.into_disk-in-Err-walk.ensures in
    let was = same.disk.clean (subst (λ (f : g.row.H.Denot). IsTrue (g.H.Disk.is_clean f)) is clean) in
    subst (λ (f : g.row.H.Denot). KeepsHeads g.H.Disk first f) (sym is)
    (heads_kept g.H.Disk first walked (kept_through g.H.Disk first (heads_of c.in-Ok.heads) walked (c.in-Ok.ensures.kept was) same.disk))

-- All heads that lie in the file were walked, and each fits.
pub returns-in-Ok-walk-clause-whole : goal.returns-in-Ok-walk-clause-whole
returns-in-Ok-walk-clause-whole g c clean whole =
    let heads = c.in-Ok.heads in
    let was = c.walk.ensures.same.disk.clean clean in
    let laid = c.in-Ok-walk.ensures.laid clean (c.in-Ok.ensures.gates was) in
    let (stands, fit) = whole_of g.H.Disk c.args.heads (heads_of heads) (λ f. g.met.H.Disk.seen_may_stay f) (heads_end heads)
    (c.in-Ok.ensures.found was) c.end.result c.in-Ok-walk.places (c.in-Ok.ensures.kept was) (c.in-Ok.ensures.ended was) laid in
    record {
      stands = stands;
      fit = subst (λ (n : ℕ). AreFit n [] (joined stands.groups)) (c.end.ensures ∙ c.in-Ok-over.ensures.end whole) fit;
    }

-- Heads that fit would have been walked.
pub returns-in-Err-walk-clause-damaged : goal.returns-in-Err-walk-clause-damaged
returns-in-Err-walk-clause-damaged g c n told clean whole them are =
    let heads = c.in-Ok.heads in
    let now = subst (λ (f : g.row.H.Denot). IsTrue (g.H.Disk.is_clean f)) c.into_disk-in-Err-walk.ensures clean in
    let found = c.in-Ok.ensures.found (c.walk.ensures.same.disk.clean now) in
    let many = c.end.ensures
    ∙ c.in-Ok-over.ensures.end (subst (λ (f : g.row.B.Denot). IsTrue (g.B.Disk.is_clean f)) c.into_disk-in-Err-walk-2.ensures whole) in
    let fit = subst (λ (m : ℕ). AreFit m [] (joined are.stands.groups)) (sym many) are.fit in
    c.in-Err-walk.ensures.damaged n (ap Err told) now them
    (laid_of g.H.Disk c.args.heads (heads_of heads) (λ f. g.met.H.Disk.seen_may_stay f) (heads_end heads) found c.end.result them are.stands fit)

-- Memory was wanted for a group.
pub returns-in-Err-walk-clause-memory : goal.returns-in-Err-walk-clause-memory
returns-in-Err-walk-clause-memory g c told clean =
    let heads = c.in-Ok.heads in
    let now = subst (λ (f : g.row.H.Denot). IsTrue (g.H.Disk.is_clean f)) c.into_disk-in-Err-walk.ensures clean in
    let found = c.in-Ok.ensures.found (c.walk.ensures.same.disk.clean now) in
    some_long g.H.Disk c.args.heads (heads_of heads) (λ f. g.met.H.Disk.seen_may_stay f) (heads_end heads) found
    (c.in-Err-walk.ensures.memory (ap Err told))

-- They lie in the file as it came back.
pub returns-in-Ok-walk-clause-laid : goal.returns-in-Ok-walk-clause-laid
returns-in-Ok-walk-clause-laid g c clean =
    let heads = c.in-Ok.heads in
    let same = c.walk.ensures.same in
    let places = c.in-Ok-walk.places in
    let laid = c.in-Ok-walk.ensures.laid clean (c.in-Ok.ensures.gates (same.disk.clean clean)) in
    subst (λ (n : ℕ). AreLaid (g.H.Disk.seen (heads_of c.walk.new.heads)) (heads_end c.walk.new.heads) n places) c.end.ensures
    (subst (λ (n : Gate). AreLaid (g.H.Disk.seen (heads_of c.walk.new.heads)) n c.end.result places) (sym same.same)
    (subst (λ (f : List ℕ). AreLaid f (heads_end heads) c.end.result places) (sym same.disk.seen) laid))
