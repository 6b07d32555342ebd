use Rattle.std.proofs.Common.{◌++◌, List, ap, subst, sym, ◌∙◌}
use Rattle.operation.specs.Parts.{ContentParts}
use Rattle.record_log.specs.Entries.{without_notes}
use Rattle.record_log.specs.Log.{KeepsIn}
use Rattle.record_log.proofs.Waiting.{given_up_tells, none_waits}
use Rattle.record_log.proofs.log.RecordLog.settle.Goals as goal

-- The file was given up.
pub returns-then-not-add_to-clause-told : goal.returns-then-not-add_to-clause-told
returns-then-not-add_to-clause-told g c cs told =
    given_up_tells g.D.Disk c.give_up.new.self cs c.give_up.ensures.given_up c.give_up.ensures.none

-- The file keeps those that waited, too, and none waits.
pub returns-clause-told : goal.returns-clause-told
returns-clause-told g c cs told =
    let all = told.are ∙ ap (λ (xs : List ContentParts). told.before ++ without_notes xs) (sym c.as_slice.ensures.value) in
    record {
      before = cs;
      are = none_waits cs c.clear.new.self.items c.clear.ensures.items;
      kept = subst (λ (xs : List ContentParts). KeepsIn g.D.Disk c.add_to.new.file xs) (sym all)
          (c.add_to.ensures c.if-not-add_to.false told.before told.kept);
    }
