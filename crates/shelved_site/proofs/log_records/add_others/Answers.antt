use Rattle.std.proofs.Common.{sym}
use Rattle.shelved_site.proofs.Adding.{content_is, correction_passed, none_added, other_added, others_added}
use Rattle.shelved_site.proofs.Adding.{told_passed}
use Rattle.shelved_site.proofs.log_records.add_others.Goals as goal
use Rattle.shelved_site.proofs.log_records.add_others.Goals.{in-Some+in-Some-behind_told, in-Some+in_default-behind_told, in_default}

-- None was added at first.
pub loop-op-init : goal.loop-op-init
loop-op-init g c cs tells = none_added g.D.Disk c.args.told.now c.args.recorded.now cs c.args.records.now tells

-- The record of one content more was added, unless it was told.
pub loop-op-preserved : goal.loop-op-preserved
loop-op-preserved g c = elim c.match-content.branch [
  | in-Some+in-Some-behind_told w ↦ λ cs tells.
      let is = content_is c.op-item.result w.in-Some.content.now (sym w.in-Some.ensures) in
      rw (w.records-is, w.rest-is) (told_passed g.D.Disk c.args.told.now c.args.recorded.now cs c.loop-op.rest.now
      c.loop-op.op-index c.op-item.result c.loop-op-test.true c.op-item.is c.loop-op.records w.in-Some.content.now
      w.in-Some-behind_told.behind.now is w.in-Some-behind_told.ensures.some (c.loop-op.invariant cs tells))
  | in-Some+in_default-behind_told w ↦ λ cs tells.
      let is = content_is c.op-item.result w.in-Some.content.now (sym w.in-Some.ensures) in
      rw (w.records-is, w.rest-is) (other_added g.D.Disk c.args.told.now c.args.recorded.now cs c.loop-op.rest.now
      c.loop-op.op-index c.op-item.result c.loop-op-test.true c.op-item.is c.loop-op.records w.add.new.self
      w.in-Some.content.now is (w.behind_told.ensures.none w.in_default-behind_told.is) w.add.ensures
      (c.loop-op.invariant cs tells))
  | in_default w ↦ λ cs tells.
      rw (w.records-is, w.rest-is) (correction_passed g.D.Disk c.args.told.now c.args.recorded.now cs c.loop-op.rest.now
      c.loop-op.op-index c.op-item.result c.loop-op-test.true c.op-item.is c.loop-op.records (sym w.in_default.ensures)
      (c.loop-op.invariant cs tells))
]

-- All were added that are not told.
pub returns-clause-added : goal.returns-clause-added
returns-clause-added g c true cs tells =
    others_added g.D.Disk c.args.told.now c.args.recorded.now cs c.loop-op.records c.loop-op.rest.now c.loop-op.op-index
    c.loop-op-test.false (c.are_in_order.ensures.0 c.if-not-are_in_order.false) (c.loop-op.invariant cs tells)
