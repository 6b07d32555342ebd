use Rattle.std.proofs.Common.{◌++◌, ◌∷◌, [], ◌+◌, List, Bor, arith, map, ap, ◌∙◌, subst, length, drop}
use Rattle.std.proofs.Common.{length-drop}
use Rattle.std.proofs.lemmas.List.{map-append, drop-drop}
use Rattle.records.specs.declared.recorded_content.RecordedContent.{RecordedContent}
use Rattle.archive_query.specs.Grouping.{groups_by, Ascends, IsRun}
use Rattle.archive_model.specs.Rows.{uid_at}
use Rattle.archive_query.proofs.GroupingLaws.{next_group, rest_run}
use Rattle.archive_query.proofs.grouping.groups_of.Goals as goal

-- The run is the first group of what was left, and what stands behind the run still ascends.
pub loop-start-preserved : goal.loop-start-preserved
loop-start-preserved c =
    let key = λ (x : Bor RecordedContent). uid_at c.args.level x.now in
    let all = c.args.sorted.now in
    let at = c.loop-start.start in
    let run = c.first_run-run.result.now in
    let is : IsRun key run (drop at all) = rest_run key at run all c.loop-start.invariant.within
    c.first_run-run.ensures.run in
    record {
      within = omega (arith, is.within, length-drop at all, c.loop-start.invariant.within);
      up = subst (λ (ys : List (Bor RecordedContent)). Ascends key ys) (drop-drop (length run) at all) is.up;
      so_far =
          ap (λ (gs : List (List (Bor RecordedContent))). gs ++ groups_by key (drop (at + length run) all))
          (ap (map (λ g. g.now)) c.in_ok-push.ensures.items ∙ map-append (λ g. g.now) c.loop-start.groups.items
          (c.first_run-run.result ∷ []))
          ∙ next_group key (map (λ g. g.now) c.loop-start.groups.items) (groups_by key all) at run all
          c.loop-start.invariant.so_far is;
    }
