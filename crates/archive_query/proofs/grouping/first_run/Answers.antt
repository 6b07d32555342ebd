use Rattle.std.proofs.Common.{Bor}
use Rattle.records.specs.declared.recorded_content.RecordedContent.{RecordedContent}
use Rattle.archive_model.specs.Rows.{uid_at}
use Rattle.archive_query.proofs.GroupingLaws.{group_step, run_from_step}
use Rattle.archive_query.proofs.grouping.first_run.Goals as goal

-- The contents at the front with the first one's UID are all that have it, so they are the first group.
pub returns : goal.returns
returns c =
    let key = λ (x : Bor RecordedContent). uid_at c.args.level x.now in
    record {
      run = run_from_step key c.run_length-length.result c.args.sorted.now c.run_length-length.ensures.within
          (group_step key c.uid_at-uid.result.now c.index-sorted-0.result c.args.sorted.now c.run_length-length.result
          c.requires.some c.index-sorted-0.is c.uid_at-uid.ensures c.run_length-length.ensures.counted
          c.requires.ascends);
    }
