use Rattle.std.proofs.Common.{sym, subst}
use Rattle.archive_query.specs.Grouping.{Ascends}
use Rattle.archive_model.specs.Rows.{uid_at}
use Rattle.archive_model.specs.declared.key.Level.{Level}
use Rattle.archive_query.proofs.grouping.by_uid.Goals as goal

-- At the level Study, the contents ascend by Study Instance UID.
pub returns-in_ok-sort_by_study-in-Study-clause-ascends : goal.returns-in_ok-sort_by_study-in-Study-clause-ascends
returns-in_ok-sort_by_study-in-Study-clause-ascends c = subst (λ (l : Level). Ascends (λ x. uid_at l x.now)
    c.sort_by_study.new.contents.items) (sym c.in-Study.is) c.in_ok-sort_by_study-in-Study.ensures.ascends

-- At the level Series, the contents ascend by Series Instance UID.
pub returns-in_ok-sort_by_series-in-Series-clause-ascends : goal.returns-in_ok-sort_by_series-in-Series-clause-ascends
returns-in_ok-sort_by_series-in-Series-clause-ascends c = subst (λ (l : Level). Ascends (λ x. uid_at l x.now)
    c.sort_by_series.new.contents.items) (sym c.in-Series.is) c.in_ok-sort_by_series-in-Series.ensures.ascends

-- At the level Image, the contents ascend by SOP Instance UID.
pub returns-in_ok-sort_by_instance-in-Image-clause-ascends : goal.returns-in_ok-sort_by_instance-in-Image-clause-ascends
returns-in_ok-sort_by_instance-in-Image-clause-ascends c = subst (λ (l : Level). Ascends (λ x. uid_at l x.now)
    c.sort_by_instance.new.contents.items) (sym c.in-Image.is) c.in_ok-sort_by_instance-in-Image.ensures.ascends
