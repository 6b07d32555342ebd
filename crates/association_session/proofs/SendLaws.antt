-- Sub-operations that are begun, one in each turn, what is loaded for them, and what is heard within a C-GET.
use Rattle.std.proofs.Common.{◌≡◌, ℕ, ◌≤◌, Bool, true, false, List, [], ◌∷◌, ◌++◌, map, length}
use Rattle.std.proofs.Common.{Option, Some, Result}
use Rattle.std.proofs.Common.{None, refl, sym, ap, subst, ◌∙◌}
use Rattle.std.specs.Prelude.{IsSome}
use Rattle.archive_model.specs.declared.view.View.{View}
use Rattle.dimse.specs.declared.message.Message.{Message}
use Rattle.dimse.specs.declared.status.Status.TheVariants.{Pending}
use Rattle.dimse.specs.Sending.{IsSending}
use Rattle.pdu.specs.declared.context.Context.{Context}
use Rattle.pdu.specs.declared.value.Pdu.{Pdu}
use Rattle.archive_model.specs.declared.listed.Listed.{Listed}
use Rattle.archive_model.specs.declared.prepared.Prepared.{Prepared}
use Rattle.operation.specs.RecordParts.{ContentRecordParts}
use Rattle.ul_state.specs.declared.event.Event.TheVariants.{LocalAbort}
use Rattle.ul_state.specs.declared.table.State.TheVariants.{Sta6}
use Rattle.ul_state.specs.declared.titles.Title.{Title}
use Rattle.association_services.specs.declared.counts.Outcome.{Outcome}
use Rattle.association_session.specs.declared.deed.Deed.{Deed}
use Rattle.association_services.specs.declared.call.Call.TheVariants.{Store, Find, Get, Load}
use Rattle.association_session.specs.declared.deed.Deed.TheVariants.{Send, Reach, Ask}
use Rattle.association_services.specs.declared.call.Finding.{Finding}
use Rattle.association_services.specs.declared.call.Getting.{Getting}
use Rattle.data_set.specs.declared.syntax.Syntax.{Syntax}
use Rattle.association_session.specs.declared.deed.Moment.TheVariants.{InStore}
use Rattle.association_services.specs.declared.service.RowKind.{RowKind}
use Rattle.association_services.specs.declared.service.Service.{Service}
use Rattle.association_services.specs.declared.service.Service.TheVariants.{Asked, Queried, Fetched}
use Rattle.association_services.specs.Context.{context_in}
use Rattle.association_services.specs.Service.{ServesOn}
use Rattle.operation.specs.Parts.{ContentParts}
use Rattle.dimse.specs.declared.assembler.Stage.{Stage}
use Rattle.pdu.specs.declared.pdv.Pdv.{Pdv}
use Rattle.ul_state.specs.declared.acceptor.Settled.{Settled}
use Rattle.association_session.specs.declared.pending_response.PendingResponse.{PendingResponse}
use Rattle.association_session.specs.declared.pending_response.PendingResponse.TheVariants as pendings
use Rattle.association_session.specs.declared.event.SessionEvent.TheVariants.{GoesOn, Replied}
use Rattle.association_services.specs.declared.reply.PortFault.{PortFault}
use Rattle.association_services.specs.declared.reply.Reply.{Reply}
use Rattle.association_services.specs.declared.reply.Reply.TheVariants.{Loaded}
use Rattle.ul_state.specs.declared.table.State.{State}
use Rattle.association_services.specs.declared.retrieval.Meaning.{Meaning}
use Rattle.association_services.specs.declared.retrieval.Meaning.TheVariants.{Cancelled, Performed, Unawaited}
use Rattle.association_services.specs.declared.retrieval.Progress.{Progress}
use Rattle.association_services.specs.declared.way.Way.{Way}
use Rattle.association_session.specs.PendingResponse.{IsAnswered, IsAnsweredOrLoads, Fits}
use Rattle.association_session.specs.inner.Association.{pending_of}
use Rattle.association_services.specs.Get.{final_status, failed_set}
use Rattle.association_session.specs.Projections.{state_after}
use Rattle.association_services.specs.Response.{FitsLimit}
use Rattle.association_services.specs.Retrieval.{counting, sub_operation, failing, sending, way_for, loaded_for}
use Rattle.association_services.specs.Retrieval.{RespondsIfLeft, RespondsEnd, RespondsBy, meaning_of}
use Rattle.association_services.specs.Retrieval.{performed, cancelling}
use Rattle.association_session.specs.Row.{Within, row}
use Rattle.association_session.specs.Session.{AssociationState, Turned, FollowsLoading, OwedFor, OwedAt, Stops}
use Rattle.association_session.specs.Session.{IsToldBy, started}
use Rattle.association_session.specs.inner.Association.{Answered}
use Rattle.association_session.specs.Session.{entered}
use Rattle.association_services.specs.SubOperation.{Retrieval, Loading, SubOperation}
use Rattle.association_session.specs.Talks.{Goes, GoesBy, SendsLoaded, Fails, LoadsBy, Begins, GoesOnBy, Performs}
use Rattle.association_session.specs.Talks.{Attends, Talks, awaiting}
use Rattle.association_services.proofs.DataLaws.{AreData, sending_data, if_left_data, responds_by_data}
use Rattle.association_session.proofs.DataLaws.{data_state}
use Rattle.association_session.proofs.HearLaws.{still, owed_at, sends_halt, answered_broken, answered_sent}
use Rattle.association_session.proofs.HearLaws.{answered_asked, answered_or_loads}
use Rattle.association_services.proofs.ResponseLaws.{sending_goes}

-- ---- what is left can be sent

if_left_goes : (g : Progress) (left : List Listed) → 8 ≤ g.awaited.limit → (ps : List Pdu) × RespondsIfLeft g left ps
if_left_goes g [] least = ([], refl)
if_left_goes g (x ∷ left) least =
    sending_goes (counting g Pending (Some (length (x ∷ left))) None) g.awaited.limit least

fails_go : (g : Progress) (left : List Listed) (R : Goes) → 8 ≤ g.awaited.limit → (rest : List Deed) × R [] rest
    → (rest : List Deed) × Fails g left R [] rest
fails_go g left R least goes =
    let p = if_left_goes g left least in
    (map Send p.0 ++ goes.0, (p.0, p.1, (goes.0, refl, goes.1)))

loads_go : (way : Option Way) (g : Progress) (x : Listed) (R R' : Goes) → (rest : List Deed) × R' [] rest
    → (rest : List Deed) × LoadsBy way g x R R' [] rest
loads_go None g x R R' goes = goes
loads_go (Some way) g x R R' goes = (Ask (Load x.content) ∷ [], ([], refl, refl))

pub begins_go : (contexts : List Context) (g : Progress) (left : List Listed) (R : GoesBy) → FitsLimit g.awaited.limit
    → ((next : Option SubOperation) → R next [] []) → (rest : List Deed) × Begins contexts g left R [] rest
begins_go contexts g [] R fits goes =
    let p = sending_goes (counting g (final_status g.counts) None (failed_set g.syntax g.counts.failed)) g.awaited.limit
    fits.0 in
    (map Send p.0 ++ [], (p.0, p.1, ([], refl, goes None)))
begins_go contexts g (x ∷ left) R fits goes =
    loads_go (way_for contexts x) g x (R (Some (sending g x left)))
    (Fails (failing g x) left (Begins contexts (failing g x) left R))
    (fails_go (failing g x) left (Begins contexts (failing g x) left R) fits.0
    (begins_go contexts (failing g x) left R fits goes))

-- ---- turns

-- what is done in a turn of a C-GET, and leaves the values
goes_turn : (titles : List (Title View)) (now new : AssociationState) (r : Retrieval) (ds deeds : List Deed)
    (sub : Option SubOperation) (pending : Option PendingResponse) → now.awaited ≡ Some (pendings.Sending r)
    → new ≡ record { within = now.within; sub = sub; stage = now.stage; awaited = pending; queue = now.queue }
    → deeds ≡ ds → Stops ds pending → ((s : State) → state_after s ds ≡ s) → IsAnsweredOrLoads pending → Fits pending
    → ((R : GoesBy) (rs : List Reply) (rest : List Deed) → OwedFor now.within.link.contexts pending R (R sub) rs rest
    → Begins now.within.link.contexts r.progress r.left R rs (ds ++ rest))
    → Turned titles now GoesOn deeds new
goes_turn titles now new r ds deeds sub pending has is done stops stays answered fits begins =
    let within : new.within ≡ now.within = ap (λ (t : AssociationState). t.within) is in
    let awaited : new.awaited ≡ pending = ap (λ (t : AssociationState). t.awaited) is in
    record {
      said = [];
      values = still now new within (ap (λ (t : AssociationState). t.stage) is) (ap (λ (t : AssociationState). t.queue)
          is);
      leads = within;
      takes = λ us rs rest owed.
          subst (λ (o : Option PendingResponse). OwedAt titles now.within now.sub o us rs (deeds ++ rest)) (sym has)
          (subst (λ (t : List Deed). Begins now.within.link.contexts r.progress r.left
          (λ next. Talks titles now.within next us) rs (t ++ rest)) (sym done)
          (begins (λ next. Talks titles now.within next us) rs rest
          (owed_at titles new now.within sub pending us rs rest within (ap (λ (t : AssociationState). t.sub) is) awaited
          owed)));
      stops = subst (λ (t : List Deed). Stops t new.awaited) (sym done)
          (subst (λ (a : Option PendingResponse). Stops ds a) (sym awaited) stops);
      state = ap (λ (w : Within). w.state) within
          ∙ sym (ap (λ (t : List Deed). state_after now.within.state t) done ∙ stays now.within.state);
      told = subst (λ (o : Option PendingResponse). IsToldBy GoesOn o new.awaited) (sym has)
          (subst (λ (o : Option PendingResponse). IsAnsweredOrLoads o) (sym awaited) answered);
      opened = λ before some. ap (λ (w : Within). w.state) within
          ∙ before (subst (λ (o : Option PendingResponse). IsSome o) (sym has) refl);
      fits = subst (λ (a : Option PendingResponse). Fits a) (sym awaited) fits;
    }

-- PDUs that are sent in it
sends_turn : (titles : List (Title View)) (now new : AssociationState) (r : Retrieval) (ps : List Pdu)
    (deeds : List Deed) (sub : Option SubOperation) (pending : Option PendingResponse)
    → now.awaited ≡ Some (pendings.Sending r)
    → new ≡ record { within = now.within; sub = sub; stage = now.stage; awaited = pending; queue = now.queue }
    → deeds ≡ map Send ps → AreData ps → IsAnswered pending → Fits pending
    → ((R : GoesBy) (rs : List Reply) (rest : List Deed) → OwedFor now.within.link.contexts pending R (R sub) rs rest
    → Begins now.within.link.contexts r.progress r.left R rs (map Send ps ++ rest))
    → Turned titles now GoesOn deeds new
sends_turn titles now new r ps deeds sub pending has is sent are_data answered fits begins =
    goes_turn titles now new r (map Send ps) deeds sub pending has is sent (sends_halt ps pending answered)
    (λ s. data_state s ps are_data) (answered_or_loads pending answered) fits begins

pub ended_turn : (titles : List (Title View)) (now new : AssociationState) (r : Retrieval) (ps : List Pdu)
    (deeds : List Deed) → now.awaited ≡ Some (pendings.Sending r)
    → new ≡ record { within = now.within; sub = None; stage = now.stage; awaited = None; queue = now.queue }
    → deeds ≡ map Send ps → r.left ≡ [] → RespondsEnd r.progress ps → Turned titles now GoesOn deeds new
ended_turn titles now new r ps deeds has is sent none told =
    sends_turn titles now new r ps deeds None None has is sent (sending_data _ _ ps told) tt tt
    (λ R rs rest owed. subst (λ (t : List Listed). Begins now.within.link.contexts r.progress t R rs
    (map Send ps ++ rest)) (sym none) (ps, told, (rest, refl, owed)))

-- The port is asked to load the next one.
pub loads_turn : (titles : List (Title View)) (now new : AssociationState) (r : Retrieval) (contexts : List Context)
    (x : Listed) (left : List Listed) (way : Way) (asked : ContentRecordParts) (loading : Loading) (deeds : List Deed)
    → now.awaited ≡ Some (pendings.Sending r)
    → new ≡ record {
      within = now.within;
      sub = now.sub;
      stage = now.stage;
      awaited = Some (pendings.Load loading);
      queue = now.queue;
    }
    → deeds ≡ Ask (Load asked) ∷ [] → contexts ≡ now.within.link.contexts → r.left ≡ x ∷ left
    → way_for contexts x ≡ Some way → asked ≡ x.content
    → loading ≡ record { progress = r.progress; listed = x; left = left; way = way }
    → FitsLimit r.progress.awaited.limit → Turned titles now GoesOn deeds new
loads_turn titles now new r contexts x left way asked loading deeds has is asks same some there of loads fits =
    let cs = now.within.link.contexts in
    let there_now : way_for cs x ≡ Some way = ap (λ (k : List Context). way_for k x) (sym same) ∙ there in
    let g = r.progress in
    let l : Loading = record { progress = g; listed = x; left = left; way = way } in
    let pending : Option PendingResponse = Some (pendings.Load l) in
    goes_turn titles now new r (Ask (Load x.content) ∷ []) deeds now.sub pending has
    (is ∙ ap (λ (k : Loading). record {
      within = now.within;
      sub = now.sub;
      stage = now.stage;
      awaited = Some (pendings.Load k);
      queue = now.queue;
    }) loads)
    (asks ∙ ap (λ (k : ContentRecordParts). Ask (Load k) ∷ []) of) (refl, tt) (λ s. refl) tt fits
    (λ R rs rest owed. subst (λ (t : List Listed). Begins cs g t R rs (Ask (Load x.content) ∷ rest)) (sym some)
    (subst (λ (w : Option Way). LoadsBy w g x (R (Some (sending g x left)))
    (Fails (failing g x) left (Begins cs (failing g x) left R)) rs (Ask (Load x.content) ∷ rest)) (sym there_now)
    (rest, refl, owed)))

pub unsent_turn : (titles : List (Title View)) (now new : AssociationState) (r : Retrieval) (contexts : List Context)
    (x : Listed) (left : List Listed) (ps : List Pdu) (next : Retrieval) (deeds : List Deed)
    → now.awaited ≡ Some (pendings.Sending r)
    → new ≡ record {
      within = now.within;
      sub = now.sub;
      stage = now.stage;
      awaited = Some (pendings.Sending next);
      queue = now.queue;
    }
    → deeds ≡ map Send ps → contexts ≡ now.within.link.contexts → r.left ≡ x ∷ left → way_for contexts x ≡ None
    → RespondsIfLeft (failing r.progress x) left ps
    → next ≡ record { progress = failing r.progress x; left = left } → FitsLimit r.progress.awaited.limit
    → Turned titles now GoesOn deeds new
unsent_turn titles now new r contexts x left ps next deeds has is sent same some there told next_is fits =
    let cs = now.within.link.contexts in
    let there_now : way_for cs x ≡ None = ap (λ (k : List Context). way_for k x) (sym same) ∙ there in
    let g = r.progress in
    sends_turn titles now new r ps deeds now.sub (Some (pendings.Sending next)) has is sent
    (if_left_data (failing g x) left ps told) tt
    (subst (λ (n : Retrieval). FitsLimit n.progress.awaited.limit) (sym next_is) fits)
    (λ R rs rest owed. subst (λ (t : List Listed). Begins cs g t R rs (map Send ps ++ rest)) (sym some)
    (subst (λ (w : Option Way). LoadsBy w g x (R (Some (sending g x left)))
    (Fails (failing g x) left (Begins cs (failing g x) left R)) rs (map Send ps ++ rest)) (sym there_now) (
      ps,
      told,
      (
        rest,
        refl,
        subst (λ (n : Retrieval). Begins cs n.progress n.left R rs rest) next_is owed,
      ),
    )))

-- ---- the reply to a load

-- PDUs that are sent for it
loaded_turn : (titles : List (Title View)) (now new : AssociationState) (l : Loading)
    (reply : Result ContentParts PortFault) (ps : List Pdu) (deeds : List Deed) (sub : Option SubOperation)
    (pending : Option PendingResponse) → now.awaited ≡ Some (pendings.Load l)
    → new ≡ record { within = now.within; sub = sub; stage = now.stage; awaited = pending; queue = now.queue }
    → deeds ≡ map Send ps → AreData ps → IsAnswered pending → Fits pending
    → ((R : GoesBy) (rs : List Reply) (rest : List Deed) → OwedFor now.within.link.contexts pending R (R sub) rs rest
    → FollowsLoading now.within.link.contexts l R (Loaded reply ∷ rs) (map Send ps ++ rest))
    → Turned titles now (Replied (Loaded reply)) deeds new
loaded_turn titles now new l reply ps deeds sub pending has is sent are_data answered fits follows =
    let within : new.within ≡ now.within = ap (λ (t : AssociationState). t.within) is in
    let awaited : new.awaited ≡ pending = ap (λ (t : AssociationState). t.awaited) is in
    record {
      said = [];
      values = still (started titles now (Replied (Loaded reply))) new within
          (ap (λ (t : AssociationState). t.stage) is) (ap (λ (t : AssociationState). t.queue) is);
      leads = within;
      takes = λ us rs rest owed.
          subst (λ (o : Option PendingResponse). OwedAt titles now.within now.sub o us (Loaded reply ∷ rs)
          (deeds ++ rest)) (sym has)
          (subst (λ (t : List Deed). FollowsLoading now.within.link.contexts l (λ next. Talks titles now.within next us)
          (Loaded reply ∷ rs) (t ++ rest)) (sym sent)
          (follows (λ next. Talks titles now.within next us) rs rest
          (owed_at titles new now.within sub pending us rs rest within (ap (λ (t : AssociationState). t.sub) is) awaited
          owed)));
      stops = subst (λ (t : List Deed). Stops t new.awaited) (sym sent)
          (subst (λ (a : Option PendingResponse). Stops (map Send ps) a) (sym awaited)
          (sends_halt ps pending answered));
      state = ap (λ (w : Within). w.state) within
          ∙ sym (ap (λ (t : List Deed). state_after now.within.state t) sent ∙ data_state now.within.state ps are_data);
      told = subst (λ (o : Option PendingResponse). IsAnswered o) (sym awaited) answered;
      opened = λ before some. ap (λ (w : Within). w.state) within
          ∙ before (subst (λ (o : Option PendingResponse). IsSome o) (sym has) refl);
      fits = subst (λ (a : Option PendingResponse). Fits a) (sym awaited) fits;
    }

-- what was loaded is sent
pub brought_sent : (titles : List (Title View)) (now new : AssociationState) (l : Loading)
    (reply : Result ContentParts PortFault) (x : Prepared) (ps : List Pdu) (sub : SubOperation) (deeds : List Deed)
    → now.awaited ≡ Some (pendings.Load l)
    → new ≡ record { within = now.within; sub = Some sub; stage = now.stage; awaited = None; queue = now.queue }
    → deeds ≡ map Send ps → loaded_for l.listed reply ≡ Some x
    → IsSending (sub_operation l.progress l.way x) l.progress.awaited.limit ps
    → sub ≡ sending l.progress l.listed l.left → Turned titles now (Replied (Loaded reply)) deeds new
brought_sent titles now new l reply x ps sub deeds has is sent loaded told sub_is =
    let g = failing l.progress l.listed in
    loaded_turn titles now new l reply ps deeds (Some sub) None has is sent (sending_data _ _ ps told) tt tt
    (λ R rs rest owed. subst (λ (o : Option Prepared). SendsLoaded o l.progress l.way
    (R (Some (sending l.progress l.listed l.left)) rs)
    (Fails g l.left (Begins now.within.link.contexts g l.left R) rs) (map Send ps ++ rest)) (sym loaded)
    (ps, told, (rest, refl, subst (λ (s : SubOperation). R (Some s) rs rest) sub_is owed)))

-- nothing was loaded: it fails unsent
pub brought_unsent : (titles : List (Title View)) (now new : AssociationState) (l : Loading)
    (reply : Result ContentParts PortFault) (ps : List Pdu) (next : Retrieval) (deeds : List Deed)
    → now.awaited ≡ Some (pendings.Load l)
    → new ≡ record {
      within = now.within;
      sub = now.sub;
      stage = now.stage;
      awaited = Some (pendings.Sending next);
      queue = now.queue;
    }
    → deeds ≡ map Send ps → loaded_for l.listed reply ≡ None
    → RespondsIfLeft (failing l.progress l.listed) l.left ps
    → next ≡ record { progress = failing l.progress l.listed; left = l.left } → FitsLimit l.progress.awaited.limit
    → Turned titles now (Replied (Loaded reply)) deeds new
brought_unsent titles now new l reply ps next deeds has is sent none told next_is fits =
    let g = failing l.progress l.listed in
    let cs = now.within.link.contexts in
    loaded_turn titles now new l reply ps deeds now.sub (Some (pendings.Sending next)) has is sent
    (if_left_data g l.left ps told) tt
    (subst (λ (n : Retrieval). FitsLimit n.progress.awaited.limit) (sym next_is) fits)
    (λ R rs rest owed. subst (λ (o : Option Prepared). SendsLoaded o l.progress l.way
    (R (Some (sending l.progress l.listed l.left)) rs) (Fails g l.left (Begins cs g l.left R) rs)
    (map Send ps ++ rest)) (sym none) (
      ps,
      told,
      (
        rest,
        refl,
        subst (λ (n : Retrieval). Begins cs n.progress n.left R rs rest) next_is owed,
      ),
    ))

-- ---- what is heard within a C-GET

attends_as : (held : Option SubOperation) (sub : SubOperation) (meaning : Meaning) (w : Within) (m : Message)
    (abort : List Deed) (gets : GoesBy) (gone : Goes) (rs : List Reply) (deeds : List Deed) → held ≡ Some sub
    → meaning_of sub.progress m.command ≡ meaning
    → Performs meaning sub w.link.contexts abort gets gone rs deeds → Attends held w m abort gets gone rs deeds
attends_as held sub meaning w m abort gets gone rs deeds is means p =
    subst (λ (k : Option SubOperation). Attends k w m abort gets gone rs deeds) (sym is)
    (subst (λ (k : Meaning). Performs k sub w.link.contexts abort gets gone rs deeds) (sym means) p)

-- its C-CANCEL
pub attended_cancel : (titles : List (Title View)) (now new : AssociationState) (m : Message) (sub : SubOperation)
    (deeds : List Deed) → now.within.state ≡ Sta6 → now.awaited ≡ None → now.sub ≡ Some sub
    → meaning_of sub.progress m.command ≡ Cancelled
    → new ≡ record {
      within = now.within;
      sub = Some (cancelling sub);
      stage = now.stage;
      awaited = now.awaited;
      queue = now.queue;
    }
    → deeds ≡ [] → Answered titles now m deeds new
attended_cancel titles now new m sub deeds opened idle has means is none =
    answered_sent titles now new m deeds [] (Some (cancelling sub)) None opened idle
    (is ∙ ap (λ (o : Option PendingResponse). record {
      within = now.within;
      sub = Some (cancelling sub);
      stage = now.stage;
      awaited = o;
      queue = now.queue;
    }) idle) none tt tt tt
    (λ abort gets gone rs rest owed. attends_as now.sub sub Cancelled now.within m abort gets gone rs rest has means
    owed)

-- a message that is not awaited
pub attended_broken : (titles : List (Title View)) (now mid new : AssociationState) (m : Message) (sub : SubOperation)
    (deeds : List Deed) → now.within.state ≡ Sta6 → now.awaited ≡ None → now.sub ≡ Some sub
    → meaning_of sub.progress m.command ≡ Unawaited
    → mid ≡ record {
      within = now.within;
      sub = None;
      stage = now.stage;
      awaited = now.awaited;
      queue = now.queue;
    }
    → deeds ≡ row titles Sta6 LocalAbort → new ≡ entered titles mid LocalAbort → Answered titles now m deeds new
attended_broken titles now mid new m sub deeds opened idle has means is sent next =
    answered_broken titles now mid new m deeds opened idle is sent next
    (λ abort gets gone rs rest p. attends_as now.sub sub Unawaited now.within m abort gets gone rs rest has means p)

pub same_sub : (o : Option SubOperation) (a b : SubOperation) → o ≡ Some a → o ≡ Some b → a ≡ b
same_sub o a b p q = cc

goes_on_by : (next : Option Retrieval) (contexts : List Context) (gets : GoesBy) (rs : List Reply) (rest : List Deed)
    → OwedFor contexts (pending_of next) gets (gets None) rs rest → GoesOnBy next contexts gets rs rest
goes_on_by None contexts gets rs rest owed = owed
goes_on_by (Some r) contexts gets rs rest owed = owed

pending_answered : (next : Option Retrieval) → IsAnswered (pending_of next)
pending_answered None = tt
pending_answered (Some r) = tt

pending_fits : (cancelled : Bool) (g : Progress) (left : List Listed) (ps : List Pdu) (next : Option Retrieval)
    → RespondsBy cancelled g left ps next → FitsLimit g.awaited.limit → Fits (pending_of next)
pending_fits true g left ps next p fits = subst (λ (n : Option Retrieval). Fits (pending_of n)) (sym p.1) tt
pending_fits false g left ps next p fits = subst (λ (n : Option Retrieval). Fits (pending_of n)) (sym p.1) fits

-- the response that is awaited
pub attended_performed : (titles : List (Title View)) (now new : AssociationState) (m : Message) (sub : SubOperation)
    (outcome : Outcome) (ps : List Pdu) (next : Option Retrieval) (deeds : List Deed)
    → now.within.state ≡ Sta6 → now.awaited ≡ None → now.sub ≡ Some sub
    → meaning_of sub.progress m.command ≡ Performed outcome
    → new ≡ record {
      within = now.within;
      sub = None;
      stage = now.stage;
      awaited = pending_of next;
      queue = now.queue;
    }
    → deeds ≡ map Send ps → RespondsBy sub.cancelled (performed sub outcome) sub.left ps next
    → FitsLimit sub.progress.awaited.limit → Answered titles now m deeds new
attended_performed titles now new m sub outcome ps next deeds opened idle has means is sent told fits =
    answered_sent titles now new m deeds ps None (pending_of next) opened idle is sent
    (responds_by_data sub.cancelled (performed sub outcome) sub.left ps next told) (pending_answered next)
    (pending_fits sub.cancelled (performed sub outcome) sub.left ps next told fits)
    (λ abort gets gone rs rest owed. attends_as now.sub sub (Performed outcome) now.within m abort gets gone rs
    (map Send ps ++ rest) has means
    (ps, next, told, (rest, refl, goes_on_by next now.within.link.contexts gets rs rest owed)))

-- ---- the state behind a turn, part by part

pub state_is : (a now : AssociationState) (sub : Option SubOperation) (pending : Option PendingResponse)
    → a.within ≡ now.within
    → a.stage ≡ now.stage → a.queue ≡ now.queue → a.sub ≡ sub → a.awaited ≡ pending
    → a ≡ record { within = now.within; sub = sub; stage = now.stage; awaited = pending; queue = now.queue }
state_is a now sub pending within stage queue same awaited =
    ap (λ (w : Within). record { within = w; sub = a.sub; stage = a.stage; awaited = a.awaited; queue = a.queue })
    within
    ∙ ap (λ (k : Stage). record { within = now.within; sub = a.sub; stage = k; awaited = a.awaited; queue = a.queue })
    stage
    ∙ ap (λ (q : List Pdv). record {
      within = now.within;
      sub = a.sub;
      stage = now.stage;
      awaited = a.awaited;
      queue = q;
    }) queue
    ∙ ap (λ (k : Option SubOperation). record {
      within = now.within;
      sub = k;
      stage = now.stage;
      awaited = a.awaited;
      queue = now.queue;
    }) same
    ∙ ap (λ (o : Option PendingResponse). record {
      within = now.within;
      sub = sub;
      stage = now.stage;
      awaited = o;
      queue = now.queue;
    }) awaited

-- ---- messages for which the port is asked

-- a C-STORE whose content is asked
pub answered_store : (titles : List (Title View)) (now new : AssociationState) (m : Message) (content : ContentParts)
    (service : Service) (settled : Option (Settled View)) (contexts : List Context) (limit : ℕ) (deeds : List Deed)
    → now.within.state ≡ Sta6 → now.awaited ≡ None → now.sub ≡ None
    → new ≡ record {
      within = now.within;
      sub = now.sub;
      stage = now.stage;
      awaited = Some (pendings.Store (record { context = m.context; limit = limit; command = m.command }));
      queue = now.queue;
    }
    → settled ≡ now.within.settled → contexts ≡ now.within.link.contexts → limit ≡ now.within.link.limit
    → service ≡ Asked content → ServesOn settled (context_in contexts m.context) m.command m.body service
    → deeds ≡ Reach InStore ∷ Ask (Store content) ∷ [] → Answered titles now m deeds new
answered_store titles now new m content service settled contexts limit deeds opened idle none is se cs lim of serves
    asks =
    answered_asked titles now new m (Asked content) (Reach InStore ∷ []) (Store content) (pendings.Store (awaiting
    now.within.link m)) settled contexts deeds opened idle none
    (is ∙ ap (λ (n : ℕ). record {
      within = now.within;
      sub = now.sub;
      stage = now.stage;
      awaited = Some (pendings.Store (record { context = m.context; limit = n; command = m.command }));
      queue = now.queue;
    }) lim) se cs
    (subst (λ (s : Service). ServesOn settled (context_in contexts m.context) m.command m.body s) of serves) asks
    (refl, tt) (λ s. refl) tt (λ abort gets gone rs rest owed. (rest, refl, owed))

-- a C-FIND that is asked
pub answered_find : (titles : List (Title View)) (now new : AssociationState) (m : Message) (finding : Finding)
    (kind : RowKind) (service : Service) (settled : Option (Settled View)) (contexts : List Context) (limit : ℕ)
    (deeds : List Deed) → now.within.state ≡ Sta6 → now.awaited ≡ None → now.sub ≡ None
    → new ≡ record {
      within = now.within;
      sub = now.sub;
      stage = now.stage;
      awaited = Some (pendings.Find (record { context = m.context; limit = limit; command = m.command }) kind);
      queue = now.queue;
    }
    → settled ≡ now.within.settled → contexts ≡ now.within.link.contexts → limit ≡ now.within.link.limit
    → service ≡ Queried finding kind → ServesOn settled (context_in contexts m.context) m.command m.body service
    → deeds ≡ Ask (Find finding) ∷ [] → Answered titles now m deeds new
answered_find titles now new m finding kind service settled contexts limit deeds opened idle none is se cs lim of serves
    asks =
    answered_asked titles now new m (Queried finding kind) [] (Find finding) (pendings.Find (awaiting now.within.link m)
    kind) settled contexts deeds opened idle none
    (is ∙ ap (λ (n : ℕ). record {
      within = now.within;
      sub = now.sub;
      stage = now.stage;
      awaited = Some (pendings.Find (record { context = m.context; limit = n; command = m.command }) kind);
      queue = now.queue;
    }) lim) se cs
    (subst (λ (s : Service). ServesOn settled (context_in contexts m.context) m.command m.body s) of serves) asks
    (refl, tt) (λ s. refl) tt (λ abort gets gone rs rest owed. (rest, refl, owed))

-- a C-GET that is asked
pub answered_get : (titles : List (Title View)) (now new : AssociationState) (m : Message) (getting : Getting)
    (syntax : Syntax) (service : Service) (settled : Option (Settled View)) (contexts : List Context) (limit : ℕ)
    (deeds : List Deed) → now.within.state ≡ Sta6 → now.awaited ≡ None → now.sub ≡ None
    → new ≡ record {
      within = now.within;
      sub = now.sub;
      stage = now.stage;
      awaited = Some (pendings.Get (record { context = m.context; limit = limit; command = m.command }) syntax);
      queue = now.queue;
    }
    → settled ≡ now.within.settled → contexts ≡ now.within.link.contexts → limit ≡ now.within.link.limit
    → service ≡ Fetched getting syntax → ServesOn settled (context_in contexts m.context) m.command m.body service
    → deeds ≡ Ask (Get getting) ∷ [] → Answered titles now m deeds new
answered_get titles now new m getting syntax service settled contexts limit deeds opened idle none is se cs lim of
    serves asks =
    answered_asked titles now new m (Fetched getting syntax) [] (Get getting) (pendings.Get (awaiting now.within.link m)
    syntax) settled contexts deeds opened idle none
    (is ∙ ap (λ (n : ℕ). record {
      within = now.within;
      sub = now.sub;
      stage = now.stage;
      awaited = Some (pendings.Get (record { context = m.context; limit = n; command = m.command }) syntax);
      queue = now.queue;
    }) lim) se cs
    (subst (λ (s : Service). ServesOn settled (context_in contexts m.context) m.command m.body s) of serves) asks
    (refl, tt) (λ s. refl) tt (λ abort gets gone rs rest owed. (rest, refl, owed))
