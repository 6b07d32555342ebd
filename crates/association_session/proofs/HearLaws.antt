-- What hearing values comes to.
use Rattle.std.proofs.Common.{◌≡◌, ◌≢◌, ◌<◌, ℕ, List, [], ◌∷◌, ◌++◌, map, Option, Some, None, Result, Ok, Err}
use Rattle.std.proofs.Common.{refl, sym, ap, subst, ◌∙◌, append_assoc, append-nil, inl, inr, length}
use Rattle.std.specs.Prelude.{IfOk, OnOk, All, IsSome}
use Rattle.std.proofs.lemmas.List.Elements.{All-map}
use Rattle.pdu.specs.Spelling.{IsPdu}
use Rattle.pdu.specs.declared.context.Context.{Context}
use Rattle.pdu.specs.declared.pdv.Pdv.{Pdv}
use Rattle.pdu.specs.declared.value.Pdu.{Pdu}
use Rattle.ul_state.specs.declared.event.Event.{Event}
use Rattle.ul_state.specs.declared.event.Event.TheVariants.{LocalAbort}
use Rattle.ul_state.specs.declared.table.State.{State}
use Rattle.ul_state.specs.declared.table.State.TheVariants.{Sta6, Sta13}
use Rattle.ul_state.specs.declared.titles.Title.{Title}
use Rattle.ul_state.specs.Table.{IsLeft, next_of, opens}
use Rattle.ul_state.specs.Acceptor.{kind_for, settled_by}
use Rattle.dimse.specs.declared.message.Message.{Message}
use Rattle.dimse.specs.declared.assembler.Stage.{Stage}
use Rattle.dimse.specs.declared.status.Status.{Status}
use Rattle.data_set.specs.Set.{Set}
use Rattle.operation.specs.declared.taken.Taken.{Taken}
use Rattle.ul_state.specs.declared.acceptor.Settled.{Settled}
use Rattle.association_services.specs.declared.call.Call.{Call}
use Rattle.association_session.specs.declared.pending_response.PendingResponse.{PendingResponse}
use Rattle.association_session.specs.declared.pending_response.PendingResponse.TheVariants as pendings
use Rattle.association_services.specs.declared.service.RowKind.{RowKind}
use Rattle.association_session.specs.declared.pending_response.Telling.{Telling}
use Rattle.association_session.specs.declared.event.SessionEvent.{SessionEvent}
use Rattle.association_services.specs.declared.reply.PortFault.{PortFault}
use Rattle.association_session.specs.PendingResponse.{IsAnswered, IsAnsweredOrLoads, Fits}
use Rattle.association_services.specs.Find.{rows_in, status_of_found}
use Rattle.association_services.proofs.DataLaws.{AreData, sending_data}
use Rattle.association_session.proofs.DataLaws.{data_state}
use Rattle.dimse.specs.declared.fault.DimseFault.{DimseFault}
use Rattle.dimse.specs.declared.fault.DimseFault.TheVariants.{Memory}
use Rattle.dimse.specs.Assembly.{Assembly, Feeds}
use Rattle.dimse.specs.Messages.{Run, HadMemory}
use Rattle.association_session.specs.declared.deed.Deed.{Deed}
use Rattle.association_session.specs.declared.deed.Deed.TheVariants.{Send, Ask}
use Rattle.association_session.specs.declared.event.SessionEvent.TheVariants.{GoesOn, Replied, Heard as IsHeard}
use Rattle.association_services.specs.declared.reply.Reply.{Reply}
use Rattle.association_services.specs.declared.reply.Reply.TheVariants.{Stored, Found, Gotten}
use Rattle.association_services.specs.declared.service.Service.{Service}
use Rattle.association_services.specs.declared.service.Service.TheVariants.{Responded}
use Rattle.association_session.specs.Projections.{state_after}
use Rattle.association_services.specs.Response.{Awaited, FitsLimit}
use Rattle.association_services.specs.Retrieval.{few_in, setting_out}
use Rattle.association_services.specs.SubOperation.{Retrieval, SubOperation}
use Rattle.archive_model.specs.declared.listed.Listed.{Listed}
use Rattle.data_set.specs.declared.syntax.Syntax.{Syntax}
use Rattle.dimse.specs.declared.status.Status.TheVariants.{UnableToPerformSubOperations}
use Rattle.association_session.specs.Row.{Within, Link, row, met, agreed_by, limit_in, handed_on}
use Rattle.association_services.specs.Context.{context_in}
use Rattle.association_services.specs.Service.{ServesOn}
use Rattle.association_services.specs.Store.{status_of_reply}
use Rattle.association_session.specs.Session.{AssociationState, assembly_of, heard_in, Turned}
use Rattle.association_session.specs.inner.Association.{Linked, assembly_in}
use Rattle.association_session.specs.Session.{Takes, Owes, OwedFor, OwedAt, Stops, entered, stage_by}
use Rattle.association_session.specs.inner.Telling.{IsTold}
use Rattle.association_session.specs.inner.Association.{Answered}
use Rattle.association_session.specs.Session.{IsWritable, IsToldBy, HearsValues, started}
use Rattle.association_session.specs.Talks.{Heard, Met, Said, Goes, GoesBy, Then, Tells, FollowsFind, FollowsGet}
use Rattle.association_session.specs.Talks.{BeginsFew, Does, InState, Answers, Attends, Talks, Leads, Serves, awaiting}
use Rattle.archive_model.specs.declared.view.View.{View}

-- ---- one value more

run_push : (a : Assembly) (ps : List Pdv) (rs : List (Result (Option Message) DimseFault)) (b : Assembly) (p : Pdv)
    (r : Result (Option Message) DimseFault) (c : Assembly)
    → Run a ps rs b → Feeds b p r c → Run a (ps ++ p ∷ []) (rs ++ r ∷ []) c
run_push a [] [] b p r c run feeds = (c, subst (λ (x : Assembly). Feeds x p r c) run feeds, refl)
run_push a [] (s ∷ rs) b p r c run feeds = absurd run
run_push a (q ∷ ps) [] b p r c run feeds = absurd run
run_push a (q ∷ ps) (s ∷ rs) b p r c run feeds = (run.0, run.1, run_push run.0 ps rs b p r c run.2 feeds)

memory_push : (rs : List (Result (Option Message) DimseFault)) (r : Result (Option Message) DimseFault) → HadMemory rs
    → r ≢ Err Memory → HadMemory (rs ++ r ∷ [])
memory_push [] r had is = (is, tt)
memory_push (s ∷ rs) r had is = (had.0, memory_push rs r had.1 is)

heard_push : (rs : List (Result (Option Message) DimseFault)) (r : Result (Option Message) DimseFault)
    → heard_in (rs ++ r ∷ []) ≡ heard_in rs ++ heard_in (r ∷ [])
heard_push [] r = refl
heard_push (Ok None ∷ rs) r = heard_push rs r
heard_push (Ok (Some m) ∷ rs) r = ap (λ (t : List Heard). Said m ∷ t) (heard_push rs r)
heard_push (Err f ∷ rs) r = ap (λ (t : List Heard). Met LocalAbort ∷ t) (heard_push rs r)

-- ---- values so far

-- The first values were put together and ended no message.
pub record Fed (old now : AssociationState) : Type 0 where
  pub fed : List Pdv
  pub answers : List (Result (Option Message) DimseFault)
  pub parts : old.queue ≡ fed ++ now.queue
  pub run : Run (assembly_of old) fed answers (assembly_of now)
  pub memory : HadMemory answers
  pub none : heard_in answers ≡ []
  pub within : now.within ≡ old.within
  pub sub : now.sub ≡ old.sub
  pub awaited : now.awaited ≡ old.awaited

pub fed_start : (s now : AssociationState) → now ≡ s → Fed s now
fed_start s now same = subst (λ (t : AssociationState). Fed s t) (sym same)
    (record {
      fed = [];
      answers = [];
      parts = refl;
      run = refl;
      memory = tt;
      none = refl;
      within = refl;
      sub = refl;
      awaited =
          refl;
    })

link_same : (a b : Link) → a.contexts ≡ b.contexts → a.limit ≡ b.limit → a ≡ b
link_same a b p q =
    let first : a ≡ record { contexts = b.contexts; limit = a.limit } =
    ap (λ (cs : List Context). record { contexts = cs; limit = a.limit }) p in
    let second : record { contexts = b.contexts; limit = a.limit } ≡ b =
    ap (λ (n : ℕ). record { contexts = b.contexts; limit = n }) q in
    first ∙ second

-- what a value that was put to the others leaves
abbrev pub fed_state : AssociationState → Linked → List Pdv → AssociationState
fed_state now l q = record {
  within = record { state = now.within.state; settled = now.within.settled; link = l.link };
  sub = now.sub;
  stage = l.stage;
  awaited = now.awaited;
  queue = q;
}

same_within : (now : AssociationState) (l : Linked) (q : List Pdv)
    → l.link.contexts ≡ now.within.link.contexts → l.link.limit ≡ now.within.link.limit
    → (fed_state now l q).within ≡ now.within
same_within now l q contexts limit =
    let again : Link → Within = λ k. record { state = now.within.state; settled = now.within.settled; link = k } in
    ap again (link_same l.link now.within.link contexts limit)

-- a value that ends no message
pub fed_on : (old now stood : AssociationState) (v : Pdv) (q : List Pdv) (l : Linked) → now ≡ stood
    → Fed old stood → now.queue ≡ v ∷ q → Feeds (assembly_of now) v (Ok None) (assembly_in l)
    → l.link.limit ≡ now.within.link.limit → Fed old (fed_state now l q)
fed_on old now stood v q l same held first feeds limit = let so : Fed old now =
    subst (λ (t : AssociationState). Fed old t) (sym same) held in record {
      fed = so.fed ++ v ∷ [];
      answers = so.answers ++ Ok None ∷ [];
      parts = so.parts ∙ ap (λ (t : List Pdv). so.fed ++ t) first ∙ sym (append_assoc so.fed (v ∷ []) q);
      run = run_push (assembly_of old) so.fed so.answers (assembly_of now) v (Ok None) (assembly_in l) so.run feeds;
      memory = memory_push so.answers (Ok None) so.memory (λ e. absurd cc);
      none = heard_push so.answers (Ok None) ∙ append-nil (heard_in so.answers) ∙ so.none;
      within = same_within now l q feeds.contexts limit ∙ so.within;
      sub = so.sub;
      awaited = so.awaited;
    }

-- ---- what is owed

pub owed_idle : (titles : List (Title View)) (s : AssociationState) (us : List Heard) (rs : List Reply)
    (deeds : List Deed) → s.awaited ≡ None → Owes titles s us rs deeds → Talks titles s.within s.sub us rs deeds
owed_idle titles s us rs deeds idle owed = subst
    (λ (a : Option PendingResponse). OwedAt titles s.within s.sub a us rs deeds) idle
    owed

pub idle_owed : (titles : List (Title View)) (s : AssociationState) (us : List Heard) (rs : List Reply)
    (deeds : List Deed) → s.awaited ≡ None → Talks titles s.within s.sub us rs deeds → Owes titles s us rs deeds
idle_owed titles s us rs deeds idle talks = subst
    (λ (a : Option PendingResponse). OwedAt titles s.within s.sub a us rs deeds)
    (sym idle) talks

-- What is owed depends on where the association is, and on what is awaited.
pub owed_at : (titles : List (Title View)) (new : AssociationState) (w : Within) (sub : Option SubOperation)
    (pending : Option PendingResponse) (us : List Heard) (rs : List Reply) (rest : List Deed) → new.within ≡ w
    → new.sub ≡ sub
    → new.awaited ≡ pending → Owes titles new us rs rest → OwedAt titles w sub pending us rs rest
owed_at titles new w sub pending us rs rest within same awaited owed =
    subst (λ (k : Option PendingResponse). OwedAt titles w sub k us rs rest) awaited
    (subst (λ (k : Option SubOperation). OwedAt titles w k new.awaited us rs rest) same
    (subst (λ (k : Within). OwedAt titles k new.sub new.awaited us rs rest) within owed))

-- What brings it from one state brings it from any other that is at the same place.
takes_from : (titles : List (Title View)) (a b : AssociationState) (heard : List Heard)
    (replied : List Reply) (deeds : List Deed) (new : AssociationState) → a.within ≡ b.within → a.sub ≡ b.sub
    → a.awaited ≡ b.awaited → Takes titles a heard replied deeds new → Takes titles b heard replied deeds new
takes_from titles a b heard replied deeds new within same awaited takes = λ us rs rest owed.
    owed_at titles a b.within b.sub b.awaited (heard ++ us) (replied ++ rs) (deeds ++ rest) within same awaited
    (takes us rs rest owed)

-- an event's row
pub takes_row : (titles : List (Title View)) (s new : AssociationState) (event : Event) → s.awaited ≡ None
    → new ≡ entered titles s event → Takes titles s (Met event ∷ []) [] (row titles s.within.state event) new
takes_row titles s new event idle is = λ us rs rest owed.
    idle_owed titles s (Met event ∷ us) rs (row titles s.within.state event ++ rest) idle (
      rest,
      refl,
      owed_idle titles (entered titles s event) us rs rest
          idle (subst (λ (t : AssociationState). Owes titles t us rs rest) is owed),
    )

-- the local user's abort says goodbye, and changes nothing that was agreed
gone_left : (titles : List (Title View)) (state : State) → state ≡ Sta6
    → IsLeft (next_of state (kind_for titles LocalAbort))
gone_left titles state opened = subst (λ (s : State). IsLeft (next_of s (kind_for titles LocalAbort))) (sym opened) tt

gone_state : (titles : List (Title View)) (state : State) → state ≡ Sta6
    → next_of state (kind_for titles LocalAbort) ≡ Sta13
gone_state titles state opened = ap (λ (s : State). next_of s (kind_for titles LocalAbort)) opened

gone_link : (titles : List (Title View)) (w : Within) → w.state ≡ Sta6
    → (met titles w LocalAbort).link ≡ w.link
gone_link titles w opened = ap (λ (s : State). agreed_by (opens s (next_of s (kind_for titles LocalAbort)))
    (limit_in LocalAbort) (settled_by s titles LocalAbort w.settled) w.link) opened

gone_stage : (titles : List (Title View)) (state : State) (stage : Stage) → state ≡ Sta6
    → stage_by (opens state (next_of state (kind_for titles LocalAbort))) stage ≡ stage
gone_stage titles state stage opened = ap (λ (s : State). stage_by (opens s (next_of s (kind_for titles LocalAbort)))
    stage) opened

gone_assembly : (titles : List (Title View)) (s : AssociationState) → s.within.state ≡ Sta6
    → assembly_of (entered titles s LocalAbort) ≡ assembly_of s
gone_assembly titles s opened =
    let e : (met titles s.within LocalAbort).link.contexts ≡ s.within.link.contexts = ap (λ (l : Link). l.contexts)
    (gone_link titles s.within opened) in
    let f = gone_stage titles s.within.state s.stage opened in
    let first : assembly_of (entered titles s LocalAbort) ≡ record {
      contexts = s.within.link.contexts;
      stage =
          (entered titles s LocalAbort).stage;
    } = ap (λ (cs : List Context). record
    { contexts = cs; stage = (entered titles s LocalAbort).stage }) e in
    let second : record { contexts = s.within.link.contexts; stage = (entered titles s LocalAbort).stage } ≡ assembly_of
    s = ap (λ (t : Stage). record { contexts = s.within.link.contexts; stage = t }) f in
    first ∙ second

abbrev answer_of : DimseFault → Result (Option Message) DimseFault
answer_of f = Err f

err_once : (f g : DimseFault) → answer_of f ≡ answer_of g → f ≡ g
err_once f g e = cc

-- ---- what is still to be told

pub none_pending : (a : Option PendingResponse) → a ≡ None → IsSome a → ⊥
none_pending a none some = cc

pub none_fits : (a : Option PendingResponse) → a ≡ None → Fits a
none_fits a none = subst (λ (o : Option PendingResponse). Fits o) (sym none) tt

pub none_answered : (a : Option PendingResponse) → a ≡ None → IsAnswered a
none_answered a none = subst (λ (o : Option PendingResponse). IsAnswered o) (sym none) tt

pub answered_or_loads : (a : Option PendingResponse) → IsAnswered a → IsAnsweredOrLoads a
answered_or_loads None answered = tt
answered_or_loads (Some (pendings.Store awaited)) answered = absurd answered
answered_or_loads (Some (pendings.Find awaited kind)) answered = absurd answered
answered_or_loads (Some (pendings.Rows telling)) answered = tt
answered_or_loads (Some (pendings.Get awaited syntax)) answered = absurd answered
answered_or_loads (Some (pendings.Sending r)) answered = tt
answered_or_loads (Some (pendings.Load l)) answered = absurd answered

told_from : (event : SessionEvent) (old : Option PendingResponse) → IsToldBy event old None
told_from (Replied reply) old = tt
told_from (IsHeard event) old = tt
told_from GoesOn None = tt
told_from GoesOn (Some pending) = tt

pub told_none : (event : SessionEvent) (old new : Option PendingResponse) → new ≡ None → IsToldBy event old new
told_none event old new none = subst (λ (o : Option PendingResponse). IsToldBy event old o) (sym none)
    (told_from event old)

serves_at : (w : Within) (m : Message) (service : Service) (settled : Option (Settled View)) (contexts : List Context)
    → settled ≡ w.settled → contexts ≡ w.link.contexts
    → ServesOn settled (context_in contexts m.context) m.command m.body service → Serves w m service
serves_at w m service settled contexts se cs serves =
    subst (λ (t : Option (Settled View)). ServesOn t (context_in w.link.contexts m.context) m.command m.body service) se
    (subst (λ (k : List Context). ServesOn settled (context_in k m.context) m.command m.body service) cs serves)

-- ---- what values come to

-- a value that ends a message
pub took : (titles : List (Title View)) (old now stood : AssociationState) (v : Pdv) (q : List Pdv)
    (l : Linked) (m : Message) (deeds : List Deed) (new : AssociationState)
    → now ≡ stood → Fed old stood → now.queue ≡ v ∷ q → Feeds (assembly_of now) v (Ok (Some m)) (assembly_in l)
    → l.link.limit ≡ now.within.link.limit
    → old.awaited ≡ None → Answered titles (fed_state now l q) m deeds new → Turned titles old GoesOn deeds new
took titles old now stood v q l m deeds new same held first feeds limit idle answered = let so : Fed old now =
    subst (λ (t : AssociationState). Fed old t) (sym same) held in record {
      said = Said m ∷ [];
      values = record {
        fed = so.fed ++ v ∷ [];
        left = q;
        answers = so.answers ++ Ok (Some m) ∷ [];
        parts = so.parts ∙ ap (λ (t : List Pdv). so.fed ++ t) first ∙ sym (append_assoc so.fed (v ∷ []) q);
        kept = answered.kept;
        run = run_push (assembly_of old) so.fed so.answers (assembly_of now) v (Ok (Some m)) (assembly_of new) so.run
            (subst (λ (a : Assembly). Feeds (assembly_of now) v (Ok (Some m)) a)
            (let e : l.link.contexts ≡ new.within.link.contexts = ap (λ (k : Link). k.contexts) (sym answered.link) in
            let f = answered.stage in cc) feeds);
        memory = memory_push so.answers (Ok (Some m)) so.memory (λ e. absurd cc);
        says = sym (heard_push so.answers (Ok (Some m)) ∙ ap (λ (t : List Heard). t ++ Said m ∷ []) so.none);
      };
      leads = subst (λ (w : Within). Leads titles w (Said m ∷ []) new.within) (same_within now l q feeds.contexts limit
          ∙ so.within) answered.leads;
      takes = takes_from titles (fed_state now l q) old (Said m ∷ []) [] deeds new (same_within now l q
          feeds.contexts limit
          ∙ so.within) so.sub so.awaited answered.takes;
      stops = answered.stops;
      state = answered.state ∙ ap (λ (w : Within). state_after w.state deeds) so.within;
      told = subst (λ (a : Option PendingResponse). IsToldBy GoesOn a new.awaited) (sym idle) tt;
      opened = λ before. answered.opened;
      fits = answered.fits;
    }

-- a value that is refused: the local user aborts
pub broke : (titles : List (Title View)) (old now stood : AssociationState) (v : Pdv) (q : List Pdv)
    (l : Linked) (f : DimseFault) (deeds : List Deed) (new : AssociationState)
    → now ≡ stood → Fed old stood → now.queue ≡ v ∷ q → Feeds (assembly_of now) v (Err f) (assembly_in l) → f ≢ Memory
    → l.link.limit ≡ now.within.link.limit
    → now.within.state ≡ Sta6 → now.awaited ≡ None → deeds ≡ row titles Sta6 LocalAbort
    → new ≡ entered titles (fed_state now l q) LocalAbort → Turned titles old GoesOn deeds new
broke titles old now stood v q l f deeds new same held first feeds not_memory limit opened idle sent next =
    let so : Fed old now = subst (λ (t : AssociationState). Fed old t) (sym same) held in
    let mid = fed_state now l q in
    let none_here : new.awaited ≡ None = ap (λ (t : AssociationState). t.awaited) next ∙ idle in
    let row_here : deeds ≡ row titles mid.within.state LocalAbort = sent ∙ ap (λ (t : State). row titles t LocalAbort)
    (sym opened) in
    record {
      said = Met LocalAbort ∷ [];
      values = record {
        fed = so.fed ++ v ∷ [];
        left = q;
        answers = so.answers ++ Err f ∷ [];
        parts = so.parts ∙ ap (λ (t : List Pdv). so.fed ++ t) first ∙ sym (append_assoc so.fed (v ∷ []) q);
        kept = inr (subst (λ (t : AssociationState). IsLeft t.within.state) (sym next)
            (gone_left titles now.within.state opened));
        run = run_push (assembly_of old) so.fed so.answers (assembly_of now) v (Err f) (assembly_of new) so.run
            (subst (λ (a : Assembly). Feeds (assembly_of now) v (Err f) a)
            (sym (ap (λ (t : AssociationState). assembly_of t) next ∙ gone_assembly titles mid opened)) feeds);
        memory = memory_push so.answers (Err f) so.memory (λ e. not_memory (err_once f Memory e));
        says = sym (heard_push so.answers (Err f) ∙ ap (λ (t : List Heard). t ++ Met LocalAbort ∷ []) so.none);
      };
      leads = ap (λ (t : AssociationState). t.within) next ∙ ap (λ (w : Within). met titles w LocalAbort)
          (same_within now l q feeds.contexts limit ∙ so.within);
      takes = takes_from titles mid old (Met LocalAbort ∷ []) [] deeds new (same_within now l q feeds.contexts limit
          ∙ so.within) so.sub so.awaited
          (subst (λ (t : List Deed). Takes titles mid (Met LocalAbort ∷ []) [] t new) (sym row_here)
          (takes_row titles mid new LocalAbort idle next));
      stops = subst (λ (t : List Deed). Stops t new.awaited) (sym sent)
          (subst (λ (a : Option PendingResponse). Stops [] a)
          (sym (ap (λ (t : AssociationState). t.awaited) next ∙ idle)) tt);
      state = ap (λ (t : AssociationState). t.within.state) next ∙ gone_state titles now.within.state opened
          ∙ sym (ap (λ (t : List Deed). state_after old.within.state t) sent);
      told = told_none GoesOn old.awaited new.awaited none_here;
      opened = λ before some. absurd (none_pending new.awaited none_here some);
      fits = none_fits new.awaited none_here;
    }

-- no value is there any more
pub all_heard : (titles : List (Title View)) (old now stood : AssociationState) (q : List Pdv)
    (deeds : List Deed) → now ≡ stood → Fed old stood → old.awaited ≡ None → now.queue ≡ q → deeds ≡ []
    → Turned titles old GoesOn deeds (record {
      within = now.within;
      sub = now.sub;
      stage = now.stage;
      awaited = now.awaited;
      queue =
          q;
    })
all_heard titles old now stood q deeds same held idle rest none =
    let so : Fed old now = subst (λ (t : AssociationState). Fed old t) (sym same) held in
    let new : AssociationState = record {
      within = now.within;
      sub = now.sub;
      stage = now.stage;
      awaited = now.awaited;
      queue = q;
    } in
    record {
      said = [];
      values = record {
        fed = so.fed;
        left = q;
        answers = so.answers;
        parts = so.parts
            ∙ ap (λ (t : List Pdv). so.fed ++ t) rest;
        kept = inl refl;
        run = so.run;
        memory = so.memory;
        says =
            sym so.none;
      };
      leads = so.within;
      takes = takes_from titles new old [] [] deeds new so.within so.sub so.awaited
          (subst (λ (t : List Deed). Takes titles new [] [] t new) (sym none) (λ us rs more owed. owed));
      stops = subst (λ (t : List Deed). Stops t now.awaited) (sym none)
          (subst (λ (a : Option PendingResponse). Stops [] a)
          (sym (so.awaited ∙ idle)) tt);
      state = ap (λ (w : Within). w.state) so.within ∙ ap (λ (t : List Deed). state_after old.within.state t)
          (sym none);
      told = told_none GoesOn old.awaited now.awaited (so.awaited ∙ idle);
      opened = λ before some. absurd (none_pending now.awaited (so.awaited ∙ idle) some);
      fits = none_fits now.awaited (so.awaited ∙ idle);
    }

pub both_map : {X E : Type 0} (r : Result X E) (P Q : X → Type 0) (N : Type 0) → ((x : X) → P x → N → Q x) → IfOk r P
    → OnOk r N → IfOk r Q
both_map (Ok x) P Q N to p n = to x p n
both_map (Err e) P Q N to p n = tt

pub on_ok_map : {X E : Type 0} (r : Result X E) (A B : Type 0) → (A → B) → OnOk r A → OnOk r B
on_ok_map (Ok x) A B to p = to p
on_ok_map (Err e) A B to p = tt

-- After an abort no value is left.
pub broke_fewer : (titles : List (Title View)) (s : State) (after before : List Pdv) → s ≡ Sta6
    → after ≡ handed_on titles s LocalAbort → 0 < length before → length after < length before
broke_fewer titles s after before established left some =
    let none : after ≡ [] = left ∙ ap (λ (t : State). handed_on titles t LocalAbort) established in
    subst (λ (t : List Pdv). length t < length before) (sym none) some

pub at_queue : (a b : AssociationState) → a ≡ b → a.queue ≡ b.queue
at_queue a b same = ap (λ (t : AssociationState). t.queue) same

pub at_stage : (a b : AssociationState) → a ≡ b → a.stage ≡ b.stage
at_stage a b same = ap (λ (t : AssociationState). t.stage) same

pub at_place : (a b : AssociationState) → a ≡ b → a.within ≡ b.within
at_place a b same = ap (λ (t : AssociationState). t.within) same

pub at_within : (a b : Within) → a ≡ b → a.state ≡ b.state
at_within a b same = ap (λ (w : Within). w.state) same

-- ---- responses

pub ok_map : {X E : Type 0} (r : Result X E) (P Q : X → Type 0) → ((x : X) → P x → Q x) → IfOk r P → IfOk r Q
ok_map (Ok x) P Q to p = to x p
ok_map (Err e) P Q to p = tt

-- A response leads nowhere else.
told_state : (awaited : Awaited) (status : Status) (deeds : List Deed) (s : State) → IsTold awaited status deeds
    → state_after s deeds ≡ s
told_state awaited status deeds s told =
    ap (λ (t : List Deed). state_after s t) told.2 ∙ data_state s told.0 (sending_data _ _ told.0 told.1)

pub sends_halt : (ps : List Pdu) (a : Option PendingResponse) → IsAnswered a → Stops (map Send ps) a
sends_halt [] a answered = answered
sends_halt (p ∷ ps) a answered = sends_halt ps a answered

sends_stop : (pdus : List Pdu) → Stops (map Send pdus) None
sends_stop [] = tt
sends_stop (p ∷ pdus) = sends_stop pdus

told_stops : (awaited : Awaited) (status : Status) (deeds : List Deed) (a : Option PendingResponse) → a ≡ None
    → IsTold awaited status deeds → Stops deeds a
told_stops awaited status deeds a none told = subst (λ (t : List Deed). Stops t a) (sym told.2)
    (subst (λ (o : Option PendingResponse). Stops (map Send told.0) o) (sym none) (sends_stop told.0))

tells : (awaited : Awaited) (status : Status) (deeds rest : List Deed) (R : List Deed → Type 0) → IsTold awaited status
    deeds → R rest → Tells awaited status R (deeds ++ rest)
tells awaited status deeds rest R told goes = (told.0, told.1, (rest, ap (λ (t : List Deed). t ++ rest) told.2, goes))

-- A message that is answered, while the association is established and no sub-operation is awaited.
said_so : (titles : List (Title View)) (w : Within) (sub : Option SubOperation) (m : Message) (us : List Heard)
    (rs : List Reply) (deeds : List Deed) → w.state ≡ Sta6 → sub ≡ None
    → Answers w m (row titles w.state LocalAbort) (λ next. Talks titles w next us)
    (Talks titles (met titles w LocalAbort) None us) rs deeds → Talks titles w sub (Said m ∷ us) rs deeds
said_so titles w sub m us rs deeds opened none answers =
    subst (λ (k : Option SubOperation). Talks titles w k (Said m ∷ us) rs deeds) (sym none)
    (subst (λ (s : State). InState s (Answers w m (row titles w.state LocalAbort) (λ next. Talks titles w next us)
    (Talks titles (met titles w LocalAbort) None us)) (Talks titles w None us) rs deeds) (sym opened) answers)

-- a message that is responded
pub answered_told : (titles : List (Title View)) (now new : AssociationState) (m : Message)
    (status : Status) (service : Service) (settled : Option (Settled View)) (contexts : List Context) (limit : ℕ)
    (deeds : List Deed)
    → now.within.state ≡ Sta6 → now.awaited ≡ None → now.sub ≡ None → new ≡ now → settled ≡ now.within.settled
    → contexts ≡ now.within.link.contexts
    → limit ≡ now.within.link.limit → service ≡ Responded status
    → ServesOn settled (context_in contexts m.context) m.command m.body service
    → IsTold (record { context = m.context; limit = limit; command = m.command }) status deeds → Answered titles now m
    deeds new
answered_told titles now new m status service settled contexts limit deeds opened idle none same se cs lim is serves
    told =
    let told_here : IsTold (awaiting now.within.link m) status deeds =
    subst (λ (n : ℕ). IsTold (record { context = m.context; limit = n; command = m.command }) status deeds) lim told
    in
    let serves_here : Serves now.within m (Responded status) =
    subst (λ (s : Service). Serves now.within m s) is (serves_at now.within m service settled contexts se cs serves) in
    let idle_new : new.awaited ≡ None = ap (λ (t : AssociationState). t.awaited) same ∙ idle in
    record {
      leads = (opened, inl (ap (λ (t : AssociationState). t.within) same));
      takes = λ us rs rest owed.
          idle_owed titles now (Said m ∷ us) rs (deeds ++ rest) idle
          (said_so titles now.within now.sub m us rs (deeds ++ rest) opened none (
            Responded status,
            serves_here,
            tells (awaiting now.within.link m) status deeds rest (Talks titles now.within None us rs) told_here
                (owed_at titles new now.within None None us rs rest (ap (λ (t : AssociationState). t.within) same)
                (ap (λ (t : AssociationState). t.sub) same ∙ none) idle_new owed),
          ));
      stops = told_stops (awaiting now.within.link m) status deeds new.awaited idle_new told_here;
      state = ap (λ (t : AssociationState). t.within.state) same
          ∙ sym (told_state (awaiting now.within.link m) status deeds now.within.state told_here);
      link = ap (λ (t : AssociationState). t.within.link) same;
      stage = ap (λ (t : AssociationState). t.stage) same;
      kept = inl (ap (λ (t : AssociationState). t.queue) same);
      fits = none_fits new.awaited idle_new;
      opened = λ some. ap (λ (t : AssociationState). t.within.state) same ∙ opened;
    }

-- a message for which the port is asked
pub answered_asked : (titles : List (Title View)) (now new : AssociationState) (m : Message) (service : Service)
    (front : List Deed) (call : Call) (pending : PendingResponse) (settled : Option (Settled View))
    (contexts : List Context)
    (deeds : List Deed)
    → now.within.state ≡ Sta6 → now.awaited ≡ None → now.sub ≡ None
    → new ≡ record {
      within = now.within;
      sub = now.sub;
      stage = now.stage;
      awaited = Some pending;
      queue = now.queue;
    }
    → settled ≡ now.within.settled → contexts ≡ now.within.link.contexts
    → ServesOn settled (context_in contexts m.context) m.command m.body service
    → deeds ≡ front ++ Ask call ∷ [] → Stops (front ++ Ask call ∷ []) (Some pending)
    → ((s : State) → state_after s (front ++ Ask call ∷ []) ≡ s) → Fits (Some pending)
    → ((abort : List Deed) (gets : GoesBy) (gone : Goes) (rs : List Reply) (rest : List Deed)
    → OwedFor now.within.link.contexts (Some pending) gets (gets None) rs rest
    → Does service now.within.link.contexts (awaiting now.within.link m) abort gets gone rs
    ((front ++ Ask call ∷ []) ++ rest))
    → Answered titles now m deeds new
answered_asked titles now new m service front call pending settled contexts deeds opened idle none same se cs serves is
    stops stays fits does =
    let serves_here : Serves now.within m service = serves_at now.within m service settled contexts se cs serves in
    let gets : List Heard → GoesBy = λ us next. Talks titles now.within next us in
    let gone : List Heard → Goes = λ us. Talks titles (met titles now.within LocalAbort) None us in
    let abort = row titles now.within.state LocalAbort in
    record {
      leads = (opened, inl (ap (λ (t : AssociationState). t.within) same));
      takes = λ us rs rest owed.
          idle_owed titles now (Said m ∷ us) rs (deeds ++ rest) idle
          (said_so titles now.within now.sub m us rs (deeds ++ rest) opened none (
            service,
            serves_here,
            subst (λ (t : List Deed). Does service now.within.link.contexts (awaiting now.within.link m) abort
                (gets us) (gone us) rs (t ++ rest)) (sym is)
                (does abort (gets us) (gone us) rs rest
                (owed_at titles new now.within None (Some pending) us rs rest
                (ap (λ (t : AssociationState). t.within) same) (ap (λ (t : AssociationState). t.sub) same ∙ none)
                (ap (λ (t : AssociationState). t.awaited) same) owed)),
          ));
      stops = subst (λ (a : Option PendingResponse). Stops deeds a)
          (sym (ap (λ (t : AssociationState). t.awaited) same))
          (subst (λ (t : List Deed). Stops t (Some pending)) (sym is) stops);
      state = ap (λ (t : AssociationState). t.within.state) same
          ∙ sym (ap (λ (t : List Deed). state_after now.within.state t) is ∙ stays now.within.state);
      link = ap (λ (t : AssociationState). t.within.link) same;
      stage = ap (λ (t : AssociationState). t.stage) same;
      kept = inl (ap (λ (t : AssociationState). t.queue) same);
      fits = subst (λ (a : Option PendingResponse). Fits a) (sym (ap (λ (t : AssociationState). t.awaited) same)) fits;
      opened = λ some. ap (λ (t : AssociationState). t.within.state) same ∙ opened;
    }

-- a message that is answered by an abort, or that stands within a C-GET which it breaks
pub answered_broken : (titles : List (Title View)) (now mid new : AssociationState) (m : Message) (deeds : List Deed)
    → now.within.state ≡ Sta6 → now.awaited ≡ None
    → mid ≡ record {
      within = now.within;
      sub = None;
      stage = now.stage;
      awaited = now.awaited;
      queue = now.queue;
    }
    → deeds ≡ row titles Sta6 LocalAbort → new ≡ entered titles mid LocalAbort
    → ((abort : List Deed) (gets : GoesBy) (gone : Goes) (rs : List Reply) (rest : List Deed)
    → Then abort (gone rs) rest → Attends now.sub now.within m abort gets gone rs rest)
    → Answered titles now m deeds new
answered_broken titles now mid new m deeds opened idle is sent next attends =
    let within : new.within ≡ met titles now.within LocalAbort = ap (λ (t : AssociationState). t.within) next
    ∙ ap (λ (t : AssociationState). met titles t.within LocalAbort) is in
    let sub : new.sub ≡ None = ap (λ (t : AssociationState). t.sub) next ∙ ap (λ (t : AssociationState). t.sub) is in
    let none : new.awaited ≡ None = ap (λ (t : AssociationState). t.awaited) next
    ∙ ap (λ (t : AssociationState). t.awaited) is ∙ idle in
    let row_here : deeds ≡ row titles now.within.state LocalAbort = sent ∙ ap (λ (t : State). row titles t LocalAbort)
    (sym opened) in
    let stage : new.stage ≡ stage_by (opens now.within.state (next_of now.within.state (kind_for titles LocalAbort)))
    now.stage = ap (λ (t : AssociationState). t.stage) next
    ∙ ap (λ (t : AssociationState). stage_by (opens t.within.state (next_of t.within.state (kind_for titles
    LocalAbort))) t.stage) is in
    record {
      leads = (opened, inr within);
      takes = λ us rs rest owed.
          idle_owed titles now (Said m ∷ us) rs (deeds ++ rest) idle
          (subst (λ (s : State). InState s (Attends now.sub now.within m (row titles now.within.state LocalAbort)
          (λ next. Talks titles now.within next us) (Talks titles (met titles now.within LocalAbort) None us))
          (Talks titles now.within now.sub us) rs (deeds ++ rest)) (sym opened)
          (attends (row titles now.within.state LocalAbort) (λ next. Talks titles now.within next us)
          (Talks titles (met titles now.within LocalAbort) None us) rs (deeds ++ rest) (
            rest,
            ap (λ (t : List Deed). t ++ rest) row_here,
            owed_at titles new (met titles now.within LocalAbort) None None us rs rest within sub none owed,
          )));
      stops = subst (λ (t : List Deed). Stops t new.awaited) (sym sent)
          (subst (λ (a : Option PendingResponse). Stops [] a)
          (sym none) tt);
      state = ap (λ (w : Within). w.state) within ∙ gone_state titles now.within.state opened
          ∙ sym (ap (λ (t : List Deed). state_after now.within.state t) sent);
      link = ap (λ (w : Within). w.link) within ∙ gone_link titles now.within opened;
      stage = stage ∙ gone_stage titles now.within.state now.stage opened;
      kept = inr (subst (λ (w : Within). IsLeft w.state) (sym within) (gone_left titles now.within.state opened));
      fits = none_fits new.awaited none;
      opened = λ some. absurd (none_pending new.awaited none some);
    }

-- what sends these PDUs within a C-GET, which goes on
pub answered_sent : (titles : List (Title View)) (now new : AssociationState) (m : Message) (deeds : List Deed)
    (pdus : List Pdu) (sub : Option SubOperation) (pending : Option PendingResponse)
    → now.within.state ≡ Sta6 → now.awaited ≡ None
    → new ≡ record { within = now.within; sub = sub; stage = now.stage; awaited = pending; queue = now.queue }
    → deeds ≡ map Send pdus → AreData pdus → IsAnswered pending → Fits pending
    → ((abort : List Deed) (gets : GoesBy) (gone : Goes) (rs : List Reply) (rest : List Deed)
    → OwedFor now.within.link.contexts pending gets (gets sub) rs rest
    → Attends now.sub now.within m abort gets gone rs (map Send pdus ++ rest))
    → Answered titles now m deeds new
answered_sent titles now new m deeds pdus sub pending opened idle is sent are_data answered fits attends =
    let within : new.within ≡ now.within = ap (λ (t : AssociationState). t.within) is in
    let awaited : new.awaited ≡ pending = ap (λ (t : AssociationState). t.awaited) is in
    record {
      leads = (opened, inl within);
      takes = λ us rs rest owed.
          idle_owed titles now (Said m ∷ us) rs (deeds ++ rest) idle
          (subst (λ (s : State). InState s (Attends now.sub now.within m (row titles now.within.state LocalAbort)
          (λ next. Talks titles now.within next us) (Talks titles (met titles now.within LocalAbort) None us))
          (Talks titles now.within now.sub us) rs (deeds ++ rest)) (sym opened)
          (subst (λ (t : List Deed). Attends now.sub now.within m (row titles now.within.state LocalAbort)
          (λ next. Talks titles now.within next us) (Talks titles (met titles now.within LocalAbort) None us) rs
          (t ++ rest)) (sym sent)
          (attends (row titles now.within.state LocalAbort) (λ next. Talks titles now.within next us)
          (Talks titles (met titles now.within LocalAbort) None us) rs rest
          (owed_at titles new now.within sub pending us rs rest within (ap (λ (t : AssociationState). t.sub) is) awaited
          owed))));
      stops = subst (λ (t : List Deed). Stops t new.awaited) (sym sent)
          (subst (λ (a : Option PendingResponse). Stops (map Send pdus) a) (sym awaited)
          (sends_halt pdus pending answered));
      state = ap (λ (w : Within). w.state) within
          ∙ sym (ap (λ (t : List Deed). state_after now.within.state t) sent
          ∙ data_state now.within.state pdus are_data);
      link = ap (λ (w : Within). w.link) within;
      stage = ap (λ (t : AssociationState). t.stage) is;
      kept = inl (ap (λ (t : AssociationState). t.queue) is);
      fits = subst (λ (a : Option PendingResponse). Fits a) (sym awaited) fits;
      opened = λ some. ap (λ (w : Within). w.state) within ∙ opened;
    }

-- a turn in which no value is heard
pub still : (now new : AssociationState) → new.within ≡ now.within → new.stage ≡ now.stage → new.queue ≡ now.queue
    → HearsValues (record {
      within = now.within;
      sub = now.sub;
      stage = now.stage;
      awaited = now.awaited;
      queue = now.queue;
    }) [] new
still now new within stage queue = record {
  fed = [];
  left = new.queue;
  answers = [];
  parts = sym queue;
  kept = inl refl;
  run = let e : new.within.link.contexts ≡ now.within.link.contexts = ap (λ (w : Within). w.link.contexts) within in cc;
  memory = tt;
  says = refl;
}

-- a reply to a store
pub resumed : (titles : List (Title View)) (now new : AssociationState) (awaited shown : Awaited)
    (reply : Result Taken PortFault) (status : Status) (deeds : List Deed)
    → now.awaited ≡ Some (pendings.Store awaited) → new.within ≡ now.within → new.sub ≡ now.sub → new.stage ≡ now.stage
    → new.awaited ≡ None → new.queue ≡ now.queue → shown ≡ awaited → status ≡ status_of_reply reply
    → IsTold shown status deeds → Turned titles now (Replied (Stored reply)) deeds new
resumed titles now new awaited shown reply status deeds has within sub stage none queue same is told =
    let told_here : IsTold awaited (status_of_reply reply) deeds =
    subst (λ (s : Status). IsTold awaited s deeds) is (subst (λ (a : Awaited). IsTold a status deeds) same told) in
    record {
      said = [];
      values = still (started titles now (Replied (Stored reply))) new within stage queue;
      leads = within;
      takes = λ us rs rest owed.
          subst (λ (a : Option PendingResponse). OwedAt titles now.within now.sub a us (Stored reply ∷ rs)
          (deeds ++ rest))
          (sym has)
          (tells awaited (status_of_reply reply) deeds rest (Talks titles now.within now.sub us rs) told_here
          (owed_at titles new now.within now.sub None us rs rest within sub none owed));
      stops = told_stops awaited (status_of_reply reply) deeds new.awaited none told_here;
      state = ap (λ (w : Within). w.state) within
          ∙ sym (told_state awaited (status_of_reply reply) deeds now.within.state told_here);
      told = none_answered new.awaited none;
      opened = λ before some. absurd (none_pending new.awaited none some);
      fits = none_fits new.awaited none;
    }

-- a reply to a find: rows are left to be told
pub found_rows : (titles : List (Title View)) (now new : AssociationState) (awaited : Awaited) (kind : RowKind)
    (telling : Telling) (reply : Result (List Set) PortFault) (deeds : List Deed)
    → now.awaited ≡ Some (pendings.Find awaited kind) → new.within ≡ now.within → new.sub ≡ now.sub
    → new.stage ≡ now.stage → new.awaited ≡ Some (pendings.Rows telling) → new.queue ≡ now.queue
    → telling ≡ record {
      awaited = awaited;
      kind = kind;
      rows = rows_in reply;
      status = status_of_found reply;
    } → FitsLimit awaited.limit → deeds ≡ []
    → Turned titles now (Replied (Found reply)) deeds new
found_rows titles now new awaited kind telling reply deeds has within sub stage pending queue is fits none =
    let rows : PendingResponse = pendings.Rows (record {
      awaited = awaited;
      kind = kind;
      rows = rows_in reply;
      status = status_of_found reply;
    }) in
    let pending_is : new.awaited ≡ Some rows = pending ∙ ap (λ (t : Telling). Some (pendings.Rows t)) is in
    record {
      said = [];
      values = still (started titles now (Replied (Found reply))) new within stage queue;
      leads = within;
      takes = λ us rs rest owed.
          subst (λ (a : Option PendingResponse). OwedAt titles now.within now.sub a us (Found reply ∷ rs)
          (deeds ++ rest))
          (sym has)
          (subst (λ (t : List Deed). FollowsFind awaited kind (Talks titles now.within now.sub us) (Found reply ∷ rs)
          (t ++ rest)) (sym none)
          (owed_at titles new now.within now.sub (Some rows) us rs rest within sub pending_is owed));
      stops = subst (λ (t : List Deed). Stops t new.awaited) (sym none)
          (subst (λ (a : Option PendingResponse). IsAnswered a) (sym pending_is) tt);
      state = ap (λ (w : Within). w.state) within ∙ ap (λ (t : List Deed). state_after now.within.state t) (sym none);
      told = subst (λ (a : Option PendingResponse). IsAnswered a) (sym pending_is) tt;
      opened = λ before some. ap (λ (w : Within). w.state) within
          ∙ before (subst (λ (a : Option PendingResponse). IsSome a) (sym has) refl);
      fits = subst (λ (a : Option PendingResponse). Fits a) (sym pending_is) fits;
    }

-- a reply to a get: its sub-operations are left to be begun
pub gotten_left : (titles : List (Title View)) (now new : AssociationState) (awaited : Awaited) (syntax : Syntax)
    (reply : Result (List Listed) PortFault) (listed : List Listed) (retrieval : Retrieval) (deeds : List Deed)
    → now.awaited ≡ Some (pendings.Get awaited syntax) → new.within ≡ now.within → new.sub ≡ now.sub
    → new.stage ≡ now.stage → new.awaited ≡ Some (pendings.Sending retrieval) → new.queue ≡ now.queue
    → few_in reply ≡ Some listed → retrieval ≡ record { progress = setting_out awaited syntax; left = listed }
    → FitsLimit awaited.limit → deeds ≡ [] → Turned titles now (Replied (Gotten reply)) deeds new
gotten_left titles now new awaited syntax reply listed retrieval deeds has within sub stage pending queue few is fits
    none =
    let left : PendingResponse = pendings.Sending (record { progress = setting_out awaited syntax; left = listed }) in
    let pending_is : new.awaited ≡ Some left = pending ∙ ap (λ (t : Retrieval). Some (pendings.Sending t)) is in
    record {
      said = [];
      values = still (started titles now (Replied (Gotten reply))) new within stage queue;
      leads = within;
      takes = λ us rs rest owed.
          subst (λ (a : Option PendingResponse). OwedAt titles now.within now.sub a us (Gotten reply ∷ rs)
          (deeds ++ rest))
          (sym has)
          (subst (λ (t : List Deed). FollowsGet now.within.link.contexts awaited syntax
          (λ next. Talks titles now.within next us) (Talks titles now.within now.sub us) (Gotten reply ∷ rs)
          (t ++ rest)) (sym none)
          (subst (λ (o : Option (List Listed)). BeginsFew now.within.link.contexts awaited syntax o
          (λ next. Talks titles now.within next us) (Talks titles now.within now.sub us) rs rest) (sym few)
          (owed_at titles new now.within now.sub (Some left) us rs rest within sub pending_is owed)));
      stops = subst (λ (t : List Deed). Stops t new.awaited) (sym none)
          (subst (λ (a : Option PendingResponse). IsAnswered a) (sym pending_is) tt);
      state = ap (λ (w : Within). w.state) within ∙ ap (λ (t : List Deed). state_after now.within.state t) (sym none);
      told = subst (λ (a : Option PendingResponse). IsAnswered a) (sym pending_is) tt;
      opened = λ before some. ap (λ (w : Within). w.state) within
          ∙ before (subst (λ (a : Option PendingResponse). IsSome a) (sym has) refl);
      fits = subst (λ (a : Option PendingResponse). Fits a) (sym pending_is) fits;
    }

-- a reply to a get that is refused
pub gotten_none : (titles : List (Title View)) (now new : AssociationState) (awaited shown : Awaited) (syntax : Syntax)
    (reply : Result (List Listed) PortFault) (deeds : List Deed)
    → now.awaited ≡ Some (pendings.Get awaited syntax) → new.within ≡ now.within → new.sub ≡ now.sub
    → new.stage ≡ now.stage → new.awaited ≡ None → new.queue ≡ now.queue → shown ≡ awaited → few_in reply ≡ None
    → IsTold shown UnableToPerformSubOperations deeds → Turned titles now (Replied (Gotten reply)) deeds new
gotten_none titles now new awaited shown syntax reply deeds has within sub stage none queue same few told =
    let told_here : IsTold awaited UnableToPerformSubOperations deeds =
    subst (λ (a : Awaited). IsTold a UnableToPerformSubOperations deeds) same told in
    record {
      said = [];
      values = still (started titles now (Replied (Gotten reply))) new within stage queue;
      leads = within;
      takes = λ us rs rest owed.
          subst (λ (a : Option PendingResponse). OwedAt titles now.within now.sub a us (Gotten reply ∷ rs)
          (deeds ++ rest))
          (sym has)
          (subst (λ (o : Option (List Listed)). BeginsFew now.within.link.contexts awaited syntax o
          (λ next. Talks titles now.within next us) (Talks titles now.within now.sub us) rs (deeds ++ rest))
          (sym few)
          (tells awaited UnableToPerformSubOperations deeds rest (Talks titles now.within now.sub us rs) told_here
          (owed_at titles new now.within now.sub None us rs rest within sub none owed)));
      stops = told_stops awaited UnableToPerformSubOperations deeds new.awaited none told_here;
      state = ap (λ (w : Within). w.state) within
          ∙ sym (told_state awaited UnableToPerformSubOperations deeds now.within.state told_here);
      told = none_answered new.awaited none;
      opened = λ before some. absurd (none_pending new.awaited none some);
      fits = none_fits new.awaited none;
    }

pub all_is : (deeds : List Deed) (pdus : List Pdu) → deeds ≡ map Send pdus → All IsPdu pdus → All IsWritable deeds
all_is deeds pdus is lawful = subst (λ (t : List Deed). All IsWritable t) (sym is) (All-map IsWritable Send pdus lawful)

pub at_contexts : (a b : AssociationState) → a ≡ b → a.within.link.contexts ≡ b.within.link.contexts
at_contexts a b same = ap (λ (t : AssociationState). t.within.link.contexts) same

pub at_limit : (a b : AssociationState) → a ≡ b → a.within.link.limit ≡ b.within.link.limit
at_limit a b same = ap (λ (t : AssociationState). t.within.link.limit) same

pub at_state : (a b : AssociationState) → a ≡ b → a.within.state ≡ b.within.state
at_state a b same = ap (λ (t : AssociationState). t.within.state) same

pub at_awaited : (a b : AssociationState) → a ≡ b → a.awaited ≡ b.awaited
at_awaited a b same = ap (λ (t : AssociationState). t.awaited) same

pub at_sub : (a b : AssociationState) → a ≡ b → a.sub ≡ b.sub
at_sub a b same = ap (λ (t : AssociationState). t.sub) same
