-- What the acceptor's table asks, and what an acceptance agrees (PS3.8, 9.2).
use Rattle.std.specs.Prelude.{ℕ, Bool, true, false, List, [], ◌∷◌, Option, Some, None, if◌then◌else◌, nat_lt, ◌==◌}
use Rattle.pdu.specs.declared.context.Context.{Context}
use Rattle.pdu.specs.declared.pdv.Pdv.{Pdv}
use Rattle.pdu.specs.declared.value.Pdu.TheVariants as pdus
use Rattle.ul_state.specs.declared.event.Event.{Event}
use Rattle.ul_state.specs.declared.event.Event.TheVariants as events
use Rattle.ul_state.specs.declared.event.Action.{Action}
use Rattle.ul_state.specs.declared.event.Action.TheVariants as actions
use Rattle.ul_state.specs.declared.table.State.{State}
use Rattle.ul_state.specs.declared.table.State.TheVariants.{Sta2}
use Rattle.ul_state.specs.declared.titles.Title.{Title}
use Rattle.ul_state.specs.declared.acceptor.Settled.{Settled}
use Rattle.ul_state.specs.Table.{next_of, opens}
use Rattle.ul_state.specs.Acceptor.{kind_for, action_on, settled_by}
use Rattle.association_session.specs.declared.deed.Deed.{Deed}
use Rattle.association_session.specs.declared.deed.Deed.TheVariants.{Send, Close}
use Rattle.association_session.specs.declared.limit.TheConstants.{MOST_SENT, SENT_WITHOUT_LIMIT}
use Rattle.archive_model.specs.declared.view.View.{View}

-- what both sides agreed: the accepted contexts, and the most bytes of a P-DATA-TF's body that are sent
pub record Link : Type 0 where
  pub contexts : List Context
  pub limit : ℕ

-- where an association is: the acceptor's state; the called title and what it stands for, and what was agreed, from the
-- acceptance on
pub record Within : Type 0 where
  pub state : State
  pub settled : Option (Settled View)
  pub link : Link

-- nothing is agreed yet
abbrev pub NO_LINK : Link
NO_LINK = record { contexts = []; limit = SENT_WITHOUT_LIMIT }

-- a connection is open, and a request is awaited
abbrev pub opening : Within
opening = record { state = Sta2; settled = None; link = NO_LINK }

-- ---- the table's row for an event

-- Values that are handed on are heard, and nothing is done yet.
abbrev pub deeds_of : Option Action → List Deed
deeds_of (Some (actions.Send pdu)) = Send pdu ∷ []
deeds_of (Some actions.Close) = Close ∷ []
deeds_of (Some (actions.Hand values)) = []
deeds_of None = []

abbrev pub values_of : Option Action → List Pdv
values_of (Some (actions.Send pdu)) = []
values_of (Some actions.Close) = []
values_of (Some (actions.Hand values)) = values
values_of None = []

-- what is done on an event
abbrev pub row : List (Title View) → State → Event → List Deed
row titles state event = deeds_of (action_on state titles event)

-- the values that are handed on
abbrev pub handed_on : List (Title View) → State → Event → List Pdv
handed_on titles state event = values_of (action_on state titles event)

-- ---- what an acceptance agrees

-- the most bytes of a P-DATA-TF's body that are sent to a peer with this maximum length; 0 is no limit (PS3.8, D.1)
unfoldable pub sending_limit : ℕ → ℕ
sending_limit maximum =
    if maximum == 0 then SENT_WITHOUT_LIMIT
    else if nat_lt MOST_SENT maximum then MOST_SENT
    else maximum

abbrev pub limit_in : Event → ℕ
limit_in (events.Got (pdus.AssociateRq request)) = sending_limit request.user.maximum_length
limit_in event = 0

-- What is agreed where the association is established; else it stays.
abbrev pub agreed_by : Bool → ℕ → Option (Settled View) → Link → Link
agreed_by true limit (Some settled) link = record { contexts = settled.contexts; limit = limit }
agreed_by true limit None link = link
agreed_by false limit settled link = link

-- where an event leads
abbrev pub met : List (Title View) → Within → Event → Within
met titles w event = record {
  state = next_of w.state (kind_for titles event);
  settled = settled_by w.state titles event w.settled;
  link = agreed_by (opens w.state (next_of w.state (kind_for titles event))) (limit_in event)
      (settled_by w.state titles event w.settled) w.link;
}
