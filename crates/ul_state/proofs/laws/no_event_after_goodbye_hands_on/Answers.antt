use Rattle.ul_state.proofs.Handing.{nothing_handed_after_goodbye}
use Rattle.ul_state.proofs.laws.no_event_after_goodbye_hands_on.Goals as goal

-- No row that goodbye leads to hands on.
pub returns : goal.returns
returns g c = nothing_handed_after_goodbye
