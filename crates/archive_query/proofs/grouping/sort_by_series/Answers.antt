use Rattle.std.proofs.Common.{rules, Bor}
use Rattle.std.proofs.lemmas.List.Sorted.{answers_always}
use Rattle.records.specs.declared.recorded_content.RecordedContent.{RecordedContent}
use Rattle.archive_model.specs.Rows.{uid_at}
use Rattle.archive_model.specs.declared.key.Level.TheVariants.{Series}
use Rattle.archive_query.proofs.GroupingLaws.{key_lt, key_lt_order, sorted_ascends, sorted_groups}
use Rattle.archive_query.proofs.grouping.sort_by_series.Goals as goal

-- The contents ascend by Series Instance UID.
pub returns-clause-ascends : goal.returns-clause-ascends
returns-clause-ascends c =
    let key = λ (x : Bor RecordedContent). uid_at Series x.now in
    sorted_ascends key c.sort_by.new.self.items (c.in_ok-sort_by.ensures.sorted (key_lt key) (key_lt_order key)
    (answers_always _ _ _ (λ f a r g called. search rules)))

-- The contents of each series stay in their order.
pub returns-clause-groups : goal.returns-clause-groups
returns-clause-groups c =
    let key = λ (x : Bor RecordedContent). uid_at Series x.now in
    sorted_groups key c.args.contents.now.items c.sort_by.new.self.items (c.in_ok-sort_by.ensures.stable (key_lt key)
    (key_lt_order key) (answers_always _ _ _ (λ f a r g called. search rules)))
