use Rattle.archive_model.proofs.Alike.{same_studies, same_series, same_study_representatives}
use Rattle.archive_model.proofs.Alike.{same_series_representatives, same_study_counts, same_series_counts}
use Rattle.archive_model.proofs.record_laws.what_stands_for_others_needs_no_bytes.Goals as goal

-- The study is a value that is kept.
pub returns-clause-studies : goal.returns-clause-studies
returns-clause-studies c = same_studies

-- So is the series.
pub returns-clause-series : goal.returns-clause-series
returns-clause-series c = same_series

-- The representative is the first of what is shown of a study.
pub returns-clause-study_representatives : goal.returns-clause-study_representatives
returns-clause-study_representatives c = same_study_representatives

-- The same within a series.
pub returns-clause-series_representatives : goal.returns-clause-series_representatives
returns-clause-series_representatives c = same_series_representatives

-- As much is kept of each study.
pub returns-clause-instance_counts : goal.returns-clause-instance_counts
returns-clause-instance_counts c = same_study_counts

-- And of as many series.
pub returns-clause-series_counts : goal.returns-clause-series_counts
returns-clause-series_counts c = same_series_counts
