-- Where an association is, and what it leaves to be told, as its private functions say it.
use Rattle.std.specs.Prelude.{◌≡◌, ◌⊎◌, List, [], ◌∷◌, Option, Some, None}
use Rattle.ul_state.specs.declared.acceptor.Acceptor.{Acceptor}
use Rattle.ul_state.specs.declared.acceptor.Settled.{Settled}
use Rattle.ul_state.specs.declared.table.State.{State}
use Rattle.ul_state.specs.declared.table.State.TheVariants.{Sta1}
use Rattle.ul_state.specs.declared.titles.Title.{Title}
use Rattle.ul_state.specs.Table.{IsLeft}
use Rattle.dimse.specs.declared.assembler.Stage.{Stage}
use Rattle.dimse.specs.declared.message.Message.{Message}
use Rattle.dimse.specs.Assembly.{Assembly}
use Rattle.association_session.specs.declared.pending_response.PendingResponse.{PendingResponse}
use Rattle.association_session.specs.declared.pending_response.PendingResponse.TheVariants as pendings
use Rattle.association_session.specs.declared.deed.Deed.{Deed}
use Rattle.association_session.specs.PendingResponse.{Fits}
use Rattle.association_session.specs.Projections.{state_after}
use Rattle.association_session.specs.Row.{Link}
use Rattle.association_session.specs.Talks.{Said}
use Rattle.association_session.specs.Talks.{Leads}
use Rattle.archive_model.specs.declared.view.View.{View}
use Rattle.association_session.specs.Session.{AssociationState, Takes, Stops, IsOpenFor}
use Rattle.association_services.specs.SubOperation.{Retrieval, SubOperation}
use Rattle.association_services.specs.Retrieval.{cancelling}

-- what was agreed, and what came since the last message
pub record Linked : Type 0 where
  pub link : Link
  pub stage : Stage

abbrev pub state_of : Option (Acceptor View) → State
state_of None = Sta1
state_of (Some acceptor) = acceptor.state

abbrev pub settled_of : Option (Acceptor View) → Option (Settled View)
settled_of None = None
settled_of (Some acceptor) = acceptor.settled

abbrev pub assembly_in : Linked → Assembly
assembly_in l = record { contexts = l.link.contexts; stage = l.stage }

-- Of a request that was served this is still to be told.
abbrev pub owing : AssociationState → PendingResponse → AssociationState
owing s pending = record {
  within = s.within;
  sub = s.sub;
  stage = s.stage;
  awaited = Some pending;
  queue = s.queue;
}

-- the deeds for a message, in order
pub record Answered (titles : List (Title View)) (old : AssociationState) (m : Message) (deeds : List Deed)
    (new : AssociationState) : Type 0 where
  pub leads : Leads titles old.within (Said m ∷ []) new.within
  pub takes : Takes titles old (Said m ∷ []) [] deeds new
  pub stops : Stops deeds new.awaited
  pub state : new.within.state ≡ state_after old.within.state deeds
  pub link : new.within.link ≡ old.within.link
  pub stage : new.stage ≡ old.stage
  pub kept : (new.queue ≡ old.queue) ⊎ IsLeft new.within.state
  pub fits : Fits new.awaited
  pub opened : IsOpenFor new

-- what goes on of a C-GET
abbrev pub pending_of : Option Retrieval → Option PendingResponse
pending_of None = None
pending_of (Some retrieval) = Some (pendings.Sending retrieval)

-- a sub-operation behind which no other is begun
abbrev pub cancelled_in : Option SubOperation → Option SubOperation
cancelled_in None = None
cancelled_in (Some sub) = Some (cancelling sub)
