-- What a request is answered (PS3.8, 9.3.3 and 9.3.4).
use Rattle.std.specs.Prelude.{List, Result, Ok, Err}
use Rattle.pdu.specs.declared.request.Request.{Request}
use Rattle.pdu.specs.declared.value.Pdu.{Pdu}
use Rattle.pdu.specs.declared.value.Pdu.TheVariants.{AssociateAc, AssociateRj}
use Rattle.pdu.specs.declared.reject.Reject.{Reject}
use Rattle.ul_state.specs.declared.titles.Title.{Title}
use Rattle.ul_state.specs.declared.decision.Decision.{Decision}
use Rattle.ul_state.specs.declared.decision.Decision.TheVariants.{Accepted, Rejected}
use Rattle.ul_state.specs.Titles.{without_spaces, title_of}
use Rattle.ul_state.specs.Admission.{admitted}
use Rattle.ul_state.specs.Answer.{accept_for, contexts_for}

-- what the called title stands for, or the first refusal
unfoldable pub value_for : {V : Type 0} → List (Title V) → Request → Result V Reject
value_for titles request = admitted request (title_of titles (without_spaces request.opening.called))

abbrev pub decided : {V : Type 0} → Request → Result V Reject → Decision V
decided request (Ok value) = Accepted (accept_for request) (contexts_for request) value
decided request (Err reject) = Rejected reject

abbrev pub decision_of : {V : Type 0} → List (Title V) → Request → Decision V
decision_of titles request = decided request (value_for titles request)

-- the PDU that is sent
abbrev pub pdu_of : {V : Type 0} → Decision V → Pdu
pdu_of (Accepted accept contexts value) = AssociateAc accept
pdu_of (Rejected reject) = AssociateRj reject
