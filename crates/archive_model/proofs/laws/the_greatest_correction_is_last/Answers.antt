use Rattle.archive_model.proofs.ModelLaws.{greatest_is_last, some_have_greatest, last_have_one_value}
use Rattle.archive_model.proofs.laws.the_greatest_correction_is_last.Goals as goal

-- A later one takes the place of what is held, so none comes after what is held at the end.
pub returns-clause-last : goal.returns-clause-last
returns-clause-last c = greatest_is_last

-- The first correction is held at once, and something is held from then on.
pub returns-clause-there : goal.returns-clause-there
returns-clause-there c = some_have_greatest

-- Two that neither comes after have one counter, one site and one value.
pub returns-clause-one_value : goal.returns-clause-one_value
returns-clause-one_value c = last_have_one_value
