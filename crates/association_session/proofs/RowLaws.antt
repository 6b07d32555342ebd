-- Where a row's deeds lead, and what an event comes to.
use Rattle.std.proofs.Common.{◌≡◌, true, List, [], ◌∷◌, ◌++◌, Option, Some, None, Result, Ok, Err, refl, sym, ap, subst}
use Rattle.std.proofs.Common.{◌∙◌, inl}
use Rattle.pdu.specs.declared.request.Request.{Request}
use Rattle.pdu.specs.declared.reject.Reject.{Reject}
use Rattle.pdu.specs.declared.value.Pdu.TheVariants as pdus
use Rattle.pdu.specs.declared.fault.PduFault.TheVariants as faults
use Rattle.ul_state.specs.declared.event.Action.{Action}
use Rattle.ul_state.specs.declared.event.Action.TheVariants as actions
use Rattle.ul_state.specs.declared.event.Event.{Event}
use Rattle.ul_state.specs.declared.event.Event.TheVariants as events
use Rattle.ul_state.specs.declared.table.State.{State}
use Rattle.ul_state.specs.declared.table.State.TheVariants.{Sta1, Sta2, Sta6, Sta13}
use Rattle.ul_state.specs.declared.titles.Title.{Title}
use Rattle.ul_state.specs.Decision.{value_for}
use Rattle.ul_state.specs.Table.{next_of}
use Rattle.ul_state.specs.Acceptor.{action_on, kind_for}
use Rattle.association_session.specs.declared.deed.Deed.{Deed}
use Rattle.association_session.specs.declared.event.SessionEvent.TheVariants.{Heard as IsHeard, GoesOn}
use Rattle.association_session.specs.Projections.{state_after}
use Rattle.association_session.specs.declared.pending_response.PendingResponse.{PendingResponse}
use Rattle.association_session.specs.Row.{row, deeds_of, values_of}
use Rattle.association_session.specs.Session.{AssociationState, HearsValues, Turned, Takes, Owes, Stops, entered}
use Rattle.association_session.specs.Session.{is_left}
use Rattle.association_session.specs.Talks.{Met, Leads}
use Rattle.association_session.proofs.HearLaws.{takes_row, idle_owed, owed_idle, none_pending, none_fits}
use Rattle.archive_model.specs.declared.view.View.{View}

-- ---- where a row leads

request_state : (s : State) (titles : List (Title View)) (request : Request) (r : Result View Reject)
    → value_for titles request ≡ r
    → state_after s (row titles s (events.Got (pdus.AssociateRq request))) ≡ next_of
    s (kind_for titles (events.Got (pdus.AssociateRq request)))
request_state Sta1 titles request r e = refl
request_state Sta2 titles request (Ok v) e = rw e refl
request_state Sta2 titles request (Err reject) e = rw e (rw e refl)
request_state Sta6 titles request (Ok v) e = rw e refl
request_state Sta6 titles request (Err reject) e = rw e refl
request_state Sta13 titles request (Ok v) e = rw e refl
request_state Sta13 titles request (Err reject) e = rw e refl

-- The deeds of a row lead where the row does.
pub row_state : (titles : List (Title View)) (s : State) (event : Event)
    → state_after s (row titles s event) ≡ next_of s (kind_for titles event)
row_state titles Sta1 event = refl
row_state titles Sta2 (events.Got (pdus.AssociateRq request)) = request_state Sta2 titles
    request (value_for titles request) refl
row_state titles Sta2 (events.Got (pdus.AssociateAc accept)) = refl
row_state titles Sta2 (events.Got (pdus.AssociateRj reject)) = refl
row_state titles Sta2 (events.Got (pdus.PData values)) = refl
row_state titles Sta2 (events.Got pdus.ReleaseRq) = refl
row_state titles Sta2 (events.Got pdus.ReleaseRp) = refl
row_state titles Sta2 (events.Got (pdus.Abort source reason)) = refl
row_state titles Sta2 (events.Bad faults.UnknownType) = refl
row_state titles Sta2 (events.Bad faults.BadLength) = refl
row_state titles Sta2 (events.Bad faults.BadItem) = refl
row_state titles Sta2 (events.Bad faults.TooLong) = refl
row_state titles Sta2 (events.Bad faults.Memory) = refl
row_state titles Sta2 events.Ended = refl
row_state titles Sta2 events.LocalAbort = refl
row_state titles Sta6 (events.Got (pdus.AssociateRq request)) = request_state Sta6 titles
    request (value_for titles request) refl
row_state titles Sta6 (events.Got (pdus.AssociateAc accept)) = refl
row_state titles Sta6 (events.Got (pdus.AssociateRj reject)) = refl
row_state titles Sta6 (events.Got (pdus.PData values)) = refl
row_state titles Sta6 (events.Got pdus.ReleaseRq) = refl
row_state titles Sta6 (events.Got pdus.ReleaseRp) = refl
row_state titles Sta6 (events.Got (pdus.Abort source reason)) = refl
row_state titles Sta6 (events.Bad faults.UnknownType) = refl
row_state titles Sta6 (events.Bad faults.BadLength) = refl
row_state titles Sta6 (events.Bad faults.BadItem) = refl
row_state titles Sta6 (events.Bad faults.TooLong) = refl
row_state titles Sta6 (events.Bad faults.Memory) = refl
row_state titles Sta6 events.Ended = refl
row_state titles Sta6 events.LocalAbort = refl
row_state titles Sta13 (events.Got (pdus.AssociateRq request)) = request_state Sta13 titles
    request (value_for titles request) refl
row_state titles Sta13 (events.Got (pdus.AssociateAc accept)) = refl
row_state titles Sta13 (events.Got (pdus.AssociateRj reject)) = refl
row_state titles Sta13 (events.Got (pdus.PData values)) = refl
row_state titles Sta13 (events.Got pdus.ReleaseRq) = refl
row_state titles Sta13 (events.Got pdus.ReleaseRp) = refl
row_state titles Sta13 (events.Got (pdus.Abort source reason)) = refl
row_state titles Sta13 (events.Bad faults.UnknownType) = refl
row_state titles Sta13 (events.Bad faults.BadLength) = refl
row_state titles Sta13 (events.Bad faults.BadItem) = refl
row_state titles Sta13 (events.Bad faults.TooLong) = refl
row_state titles Sta13 (events.Bad faults.Memory) = refl
row_state titles Sta13 events.Ended = refl
row_state titles Sta13 events.LocalAbort = refl

row_stops : (action : Option Action) (a : Option PendingResponse) → a ≡ None → Stops (deeds_of action) a
row_stops None a none = subst (λ (o : Option PendingResponse). Stops [] o) (sym none) tt
row_stops (Some (actions.Send pdu)) a none = subst (λ (o : Option PendingResponse). Stops [] o) (sym none) tt
row_stops (Some (actions.Hand values)) a none = subst (λ (o : Option PendingResponse). Stops [] o) (sym none) tt
row_stops (Some actions.Close) a none = (refl, none)

nothing_left : (s : State) → is_left s [] ≡ true → ⊥
nothing_left Sta1 e = absurd cc
nothing_left Sta2 e = absurd cc
nothing_left Sta6 e = absurd cc
nothing_left Sta13 e = absurd cc

-- A row that hands values on does nothing else.
left_row : (action : Option Action) (s : State) → is_left s (values_of action) ≡ true → deeds_of action ≡ []
left_row None s e = refl
left_row (Some (actions.Send pdu)) s e = absurd (nothing_left s e)
left_row (Some (actions.Hand values)) s e = refl
left_row (Some actions.Close) s e = absurd (nothing_left s e)

-- ---- what an event comes to

-- an event whose values are none, or are dropped
pub met_only : (titles : List (Title View)) (now new : AssociationState) (event : Event) (deeds : List Deed)
    → now.awaited ≡ None → new ≡ entered titles now event → deeds ≡ row titles now.within.state event
    → Turned titles now (IsHeard event) deeds new
met_only titles now new event deeds idle is row_is = record {
  said = [];
  values = subst (λ (t : AssociationState). HearsValues (entered titles now event) [] t) (sym is)
      (record {
        fed = [];
        left = (entered titles now event).queue;
        answers = [];
        parts = refl;
        kept = inl refl;
        run =
            refl;
        memory = tt;
        says = refl;
      });
  leads = ap (λ (t : AssociationState). t.within) is;
  takes = subst (λ (t : List Deed). Takes titles now (Met event ∷ []) [] t new) (sym row_is)
      (takes_row titles now new event idle is);
  stops = subst (λ (t : List Deed). Stops t new.awaited) (sym row_is)
      (row_stops (action_on now.within.state titles event) new.awaited (ap (λ (t : AssociationState). t.awaited) is
      ∙ idle));
  state = ap (λ (t : AssociationState). t.within.state) is ∙ sym (row_state titles now.within.state event)
      ∙ sym (ap (λ (t : List Deed). state_after now.within.state t) row_is);
  told = tt;
  opened = λ before some. absurd (none_pending new.awaited (ap (λ (t : AssociationState). t.awaited) is ∙ idle) some);
  fits = none_fits new.awaited (ap (λ (t : AssociationState). t.awaited) is ∙ idle);
}

-- an event whose values are heard
pub heard_on : (titles : List (Title View)) (now mid new : AssociationState) (event : Event)
    (deeds : List Deed) → now.awaited ≡ None → mid ≡ entered titles now event
    → is_left mid.within.state mid.queue ≡ true → Turned titles mid GoesOn deeds new → Turned titles now (IsHeard event)
    deeds new
heard_on titles now mid new event deeds idle is left turned =
    let none : row titles now.within.state event ≡ [] =
    left_row (action_on now.within.state titles event) (entered titles now event).within.state
    (ap (λ (t : AssociationState). is_left t.within.state t.queue) (sym is) ∙ left) in
    let mid_idle : mid.awaited ≡ None = ap (λ (t : AssociationState). t.awaited) is ∙ idle in
    record {
      said = turned.said;
      values = subst (λ (t : AssociationState). HearsValues t turned.said new) is turned.values;
      leads = subst (λ (t : AssociationState). Leads titles t.within turned.said new.within) is turned.leads;
      takes = λ us rs rest owed.
          idle_owed titles now (Met event ∷ (turned.said ++ us)) rs (deeds ++ rest) idle (
            deeds ++ rest,
            ap (λ (t : List Deed). t ++ (deeds ++ rest)) (sym none),
            owed_idle titles (entered titles now event) (turned.said ++ us) rs (deeds ++ rest) idle
                (subst (λ (t : AssociationState). Owes titles t (turned.said ++ us) rs (deeds ++ rest))
                is (turned.takes us rs rest owed)),
          );
      stops = turned.stops;
      state = turned.state
          ∙ ap (λ (s : State). state_after s deeds) (ap (λ (t : AssociationState). t.within.state) is
          ∙ sym (row_state titles now.within.state event) ∙ ap (λ (t : List Deed). state_after now.within.state t)
          none);
      told = tt;
      opened = λ before. turned.opened (λ some. absurd (none_pending mid.awaited mid_idle some));
      fits = turned.fits;
    }
