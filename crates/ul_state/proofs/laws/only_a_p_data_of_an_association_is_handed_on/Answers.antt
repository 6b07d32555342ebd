use Rattle.ul_state.proofs.Handing.{handed_in_an_association, handed_what_came}
use Rattle.ul_state.proofs.laws.only_a_p_data_of_an_association_is_handed_on.Goals as goal

-- Only the row of an association hands on.
pub returns-clause-open : goal.returns-clause-open
returns-clause-open g c = handed_in_an_association

-- The values are those of the event.
pub returns-clause-data : goal.returns-clause-data
returns-clause-data g c = handed_what_came
