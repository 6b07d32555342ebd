use Rattle.std.proofs.Common.{List, ap}
use Rattle.std.specs.Prelude.{codes}
use Rattle.data_set.specs.Set.{Set}
use Rattle.site_tables.specs.StudyFacts.{facts_among}
use Rattle.site_tables.proofs.laws.a_study_is_told_as_it_is_found.Goals as goal

-- The same is told of equal answers.
pub returns : goal.returns
returns c = λ uid ops found is. ap (λ (sets : List Set). facts_among uid sets) (is (codes "AUDIT"))
