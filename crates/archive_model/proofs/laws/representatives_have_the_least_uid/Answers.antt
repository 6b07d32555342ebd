use Rattle.archive_model.proofs.ModelLaws.{shown_ascend, study_is_least, series_is_least}
use Rattle.archive_model.proofs.laws.representatives_have_the_least_uid.Goals as goal

-- What is shown is picked from UIDs that ascend.
pub returns-clause-shown : goal.returns-clause-shown
returns-clause-shown c = shown_ascend

-- The representative is the first of a study, and the others stand behind it.
pub returns-clause-study : goal.returns-clause-study
returns-clause-study c = study_is_least

-- The same within a series.
pub returns-clause-series : goal.returns-clause-series
returns-clause-series c = series_is_least
