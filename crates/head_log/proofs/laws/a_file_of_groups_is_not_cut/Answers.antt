use Rattle.head_log.proofs.Gates.{groups_not_cut, not_cut}
use Rattle.head_log.proofs.laws.a_file_of_groups_is_not_cut.Goals as goal

-- From the front, gates lead to one place.
pub returns-clause-ended : goal.returns-clause-ended
returns-clause-ended c file end at ends cut = not_cut file end at ends cut

-- Behind the groups stands a gate that is shut.
pub returns-clause-groups : goal.returns-clause-groups
returns-clause-groups c file groups at stands cut = groups_not_cut file groups at stands cut
