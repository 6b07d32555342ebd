use Rattle.std.proofs.Common.{◌↔◌, Err, IsTrue, List, ℕ, [], inl, ap, ◌∙◌, subst}
use Rattle.head_log.specs.Log.{gate_of}
use Rattle.older_heads.specs.Groups.{HidesGroup, Laid}
use Rattle.older_heads.specs.Log.{end_of}
use Rattle.older_heads.proofs.Gates.{groups_not_cut}
use Rattle.op_log.proofs.Older.{one_end}
use Rattle.op_log.proofs.renewing.renewed.Goals as goal

-- A file that is cut is none of groups.
pub returns-in-Err-over-clause-damaged : goal.returns-in-Err-over-clause-damaged
returns-in-Err-over-clause-damaged g c n told clean groups stands =
    groups_not_cut (g.O.Disk.seen c.args.older) groups n stands (c.in-Err-over.ensures.damaged n told clean)

-- Its groups would have been copied.
pub returns-in-Err-copy-clause-damaged : goal.returns-in-Err-copy-clause-damaged
returns-in-Err-copy-clause-damaged g c n told clean groups stands =
    let was = subst (λ (f : g.row.O.Denot). IsTrue (g.O.Disk.is_clean f)) c.into_disk.ensures clean in
    c.in-Err-copy.ensures.damaged n (ap Err told) was groups
    (c.in-Ok-over.ensures.found (c.copy.ensures.same.disk.clean was) groups stands)

-- All that the older file stood for was copied into a log that had none.
pub returns-in-Ok-hides_a_group-clause-all : goal.returns-in-Ok-hides_a_group-clause-all
returns-in-Ok-hides_a_group-clause-all g c clean whole groups stands none =
    let last = subst (λ (f : g.row.O.Denot). IsTrue (g.O.Disk.is_clean f)) c.into_disk-in-Ok-hides_a_group.ensures clean in
    let was = c.hides_a_group.ensures.same.disk.clean last in
    let new = c.into_disk-in-Ok-hides_a_group-2.ensures in
    let now = subst (λ (f : g.row.N.Denot). IsTrue (g.N.Disk.is_clean f)) new whole in
    let laid = c.in-Ok-over.ensures.found (c.copy.ensures.same.disk.clean was) groups stands in
    let ready = c.in-Ok.ensures.found (c.copy.ensures.clean now) [] none in (
      gate_of c.copy.new.log,
      λ left may.
          c.in_default.ensures.all was groups laid ready left
          (subst (λ (f : g.row.N.Denot). g.N.Disk.may_leave f left) new may),
    )

-- It was looked for where the groups end.
pub returns-in-Ok-hides_a_group-clause-hides : goal.returns-in-Ok-hides_a_group-clause-hides
returns-in-Ok-hides_a_group-clause-hides g c clean end groups ready =
    let last = subst (λ (f : g.row.O.Denot). IsTrue (g.O.Disk.is_clean f)) c.into_disk-in-Ok-hides_a_group.ensures clean in
    let was = c.hides_a_group.ensures.same.disk.clean last in
    let first = c.in-Ok-over.ensures.same.seen in
    let seen = c.copy.ensures.same.disk.seen ∙ first in
    let laid = c.in-Ok-over.ensures.found (c.copy.ensures.same.disk.clean was) groups (inl (end, ready)) in
    let place = one_end (g.O.Disk.seen c.args.older) 0 groups (end_of c.in-Ok-over.older) end
    (subst (λ (f : List ℕ). Laid f 0 groups (end_of c.in-Ok-over.older)) first laid) ready.laid in
    let is = c.in-Ok-hides_a_group.hides in
    subst (λ (n : ℕ). IsTrue is ↔ HidesGroup (g.O.Disk.seen c.args.older) n) (c.copy.ensures.same.same ∙ place)
    (subst (λ (f : List ℕ). IsTrue is ↔ HidesGroup f (end_of c.copy.new.older)) seen (c.in-Ok-hides_a_group.ensures.hides last))
