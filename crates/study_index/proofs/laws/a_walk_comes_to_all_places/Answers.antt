use Rattle.study_index.proofs.Visits.{all_places, a_walk, places_up}
use Rattle.study_index.proofs.laws.a_walk_comes_to_all_places.Goals as goal

-- A walk comes to the places of the picks.
pub returns-clause-all : goal.returns-clause-all
returns-clause-all c = all_places

-- There is one.
pub returns-clause-one : goal.returns-clause-one
returns-clause-one c = a_walk

-- The places ascend.
pub returns-clause-ascend : goal.returns-clause-ascend
returns-clause-ascend c = places_up
