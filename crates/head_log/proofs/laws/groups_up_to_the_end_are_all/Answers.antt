use Rattle.head_log.proofs.Gates.{all_ready, one_gate}
use Rattle.head_log.proofs.laws.groups_up_to_the_end_are_all.Goals as goal

-- From the front, gates lead to one that is shut.
pub returns-clause-gate : goal.returns-clause-gate
returns-clause-gate c file end last groups ends laid place = one_gate file end last groups ends laid place

pub returns-clause-ready : goal.returns-clause-ready
returns-clause-ready c file end last groups ends laid place = all_ready file end last groups ends laid place
