-- What a session is told up to the end of a PDU, and what is done for it.
use Rattle.std.proofs.Common.{◌≡◌, ◌≢◌, ℕ, ◌+◌, ◌<◌, ◌≤◌, Bool, true, false, ◌||◌, List, [], ◌∷◌, ◌++◌, length, Option}
use Rattle.std.proofs.Common.{Some, None, Result, Ok, Err, inl, inr, ◌⊎◌, refl, sym, ap, subst, ◌∙◌, append_assoc, append-nil}
use Rattle.std.proofs.Common.{arith}
use Rattle.std.specs.Prelude.{IsSome, option_to_list}
use Rattle.std.specs.List.{list_any}
use Rattle.std.proofs.lemmas.List.Folds.{list_any-append}
use mathlib.Core.Bool.{or_assoc}
use Rattle.pdu.specs.declared.pdv.Pdv.{Pdv}
use Rattle.operation.specs.declared.op.Op.{Op}
use Rattle.ul_state.specs.declared.event.Event.{Event}
use Rattle.ul_state.specs.declared.table.State.{State}
use Rattle.ul_state.specs.declared.table.State.TheVariants.{Sta1, Sta2, Sta6, Sta13}
use Rattle.ul_state.specs.declared.titles.Title.{Title}
use Rattle.ul_state.specs.Table.{IsLeft}
use Rattle.dimse.specs.declared.fault.DimseFault.{DimseFault}
use Rattle.dimse.specs.declared.message.Message.{Message}
use Rattle.dimse.specs.Assembly.{Assembly}
use Rattle.dimse.specs.Messages.{Run, HadMemory}
use Rattle.association_session.specs.declared.deed.Deed.{Deed}
use Rattle.association_session.specs.declared.deed.Deed.TheVariants.{Send, Reach, Ask, Close}
use Rattle.association_session.specs.declared.event.SessionEvent.{SessionEvent}
use Rattle.association_session.specs.declared.event.SessionEvent.TheVariants as inputs
use Rattle.association_services.specs.declared.reply.Reply.{Reply}
use Rattle.association_session.specs.Projections.{calls_in}
use Rattle.association_services.specs.declared.call.Call.{Call}
use Rattle.association_services.specs.declared.call.Call.TheVariants.{Store, Find, Get, Load}
use Rattle.association_session.specs.declared.pending_response.PendingResponse.{PendingResponse}
use Rattle.association_session.specs.declared.pending_response.PendingResponse.TheVariants as pendings
use Rattle.association_services.specs.declared.reply.Reply.TheVariants.{Stored, Found, Gotten, Loaded}
use Rattle.association_session.specs.PendingResponse.{IsAnswered, IsAnsweredOrLoads, Fits, left_of, tells_rows}
use Rattle.association_session.specs.PendingResponse.{is_telling, takes_reply}
use Rattle.association_session.specs.Session.{Awaits, IsToldBy, IsFewer, FewerFor, FewerBehind}
use Rattle.association_session.proofs.TellLaws.{rows_go}
use Rattle.association_session.proofs.SendLaws.{begins_go}
use Rattle.association_run.specs.inner.Steps.{is_loaded, row_input, due, IsQuiet, Hearing, GoesOnWith, BreaksWith}
use Rattle.association_session.specs.Row.{Within, met}
use Rattle.association_session.specs.Session.{AssociationState, SessionState, Turned, Takes, Owes, OwedAt, Stops}
use Rattle.association_session.specs.Session.{heard_in, is_left, in_turn, is_in_turn, is_abort, is_release}
use Rattle.association_session.specs.Session.{is_abort_event, reads_abort, met_in, replies_in}
use Rattle.association_session.specs.Talks.{Heard, Met, Said, Leads, Talks}
use Rattle.association_services.specs.SubOperation.{SubOperation}
use Rattle.ul_state.specs.declared.event.Event.TheVariants.{LocalAbort}
use Rattle.association_session.specs.Projections.{state_after, state_by_pdu}
use Rattle.association_session.proofs.HearLaws.{none_answered, none_fits}
use Rattle.association_run.specs.Hearing.{Place, Says, HearsSome}
use Rattle.association_run.specs.Parts.{Sides, Performs}
use Rattle.association_run.specs.Port.{Replies, History}
use Rattle.association_run.specs.inner.Steps.{Halts, Pends, IsNext, DidTurn, BrokeTurn, HeardWhole, HeardFront}
use Rattle.association_run.specs.inner.Steps.{place_of}
use Rattle.association_run.proofs.Fronts.{all_front}
use Rattle.association_run.proofs.DeedLaws.{did_none, did_then, all_begun, begun_behind}
use Rattle.archive_model.specs.declared.view.View.{View}

-- ---- how deeds end

pub halts_of : (ds : List Deed) (a : Option PendingResponse) → Stops ds a → Halts ds
halts_of [] a s = tt
halts_of (Ask call ∷ ds) a s = s.0
halts_of (Close ∷ ds) a s = s.0
halts_of (Send pdu ∷ ds) a s = halts_of ds a s
halts_of (Reach moment ∷ ds) a s = halts_of ds a s

no_reply : {P : Type 0} (ops : P → List Op) (own : P → List (List ℕ)) (old new : P) (ds : List Deed) (r : Reply)
    → ds ≡ [] → History ops own old (calls_in ds) (r ∷ []) new → ⊥
no_reply ops own old new ds r none h = subst (λ (t : List Deed). History ops own old (calls_in t) (r ∷ []) new) none
    h

asked_pends : {P : Type 0} (ops : P → List Op) (own : P → List (List ℕ)) (old new : P) (call : Call)
    (a : Option PendingResponse)
    (r : Reply) → Awaits call a → Replies ops own old call r new → Pends a (Some r)
asked_pends ops own old new (Store content) None r w p = absurd w
asked_pends ops own old new (Store content) (Some (pendings.Store a)) (Stored reply) w p = refl
asked_pends ops own old new (Store content) (Some (pendings.Store a)) (Found reply) w p = absurd p
asked_pends ops own old new (Store content) (Some (pendings.Store a)) (Gotten reply) w p = absurd p
asked_pends ops own old new (Store content) (Some (pendings.Store a)) (Loaded reply) w p = absurd p
asked_pends ops own old new (Store content) (Some (pendings.Find a kind)) r w p = absurd w
asked_pends ops own old new (Store content) (Some (pendings.Rows telling)) r w p = absurd w
asked_pends ops own old new (Store content) (Some (pendings.Get a syntax)) r w p = absurd w
asked_pends ops own old new (Store content) (Some (pendings.Sending left)) r w p = absurd w
asked_pends ops own old new (Store content) (Some (pendings.Load loading)) r w p = absurd w
asked_pends ops own old new (Find finding) None r w p = absurd w
asked_pends ops own old new (Find finding) (Some (pendings.Store a)) r w p = absurd w
asked_pends ops own old new (Find finding) (Some (pendings.Find a kind)) (Found reply) w p = refl
asked_pends ops own old new (Find finding) (Some (pendings.Find a kind)) (Stored reply) w p = absurd p
asked_pends ops own old new (Find finding) (Some (pendings.Find a kind)) (Gotten reply) w p = absurd p
asked_pends ops own old new (Find finding) (Some (pendings.Find a kind)) (Loaded reply) w p = absurd p
asked_pends ops own old new (Find finding) (Some (pendings.Rows telling)) r w p = absurd w
asked_pends ops own old new (Find finding) (Some (pendings.Get a syntax)) r w p = absurd w
asked_pends ops own old new (Find finding) (Some (pendings.Sending left)) r w p = absurd w
asked_pends ops own old new (Find finding) (Some (pendings.Load loading)) r w p = absurd w
asked_pends ops own old new (Get getting) None r w p = absurd w
asked_pends ops own old new (Get getting) (Some (pendings.Store a)) r w p = absurd w
asked_pends ops own old new (Get getting) (Some (pendings.Find a kind)) r w p = absurd w
asked_pends ops own old new (Get getting) (Some (pendings.Rows telling)) r w p = absurd w
asked_pends ops own old new (Get getting) (Some (pendings.Get a syntax)) (Gotten reply) w p = refl
asked_pends ops own old new (Get getting) (Some (pendings.Get a syntax)) (Stored reply) w p = absurd p
asked_pends ops own old new (Get getting) (Some (pendings.Get a syntax)) (Found reply) w p = absurd p
asked_pends ops own old new (Get getting) (Some (pendings.Get a syntax)) (Loaded reply) w p = absurd p
asked_pends ops own old new (Get getting) (Some (pendings.Sending left)) r w p = absurd w
asked_pends ops own old new (Get getting) (Some (pendings.Load loading)) r w p = absurd w
asked_pends ops own old new (Load asked) None r w p = absurd w
asked_pends ops own old new (Load asked) (Some (pendings.Store a)) r w p = absurd w
asked_pends ops own old new (Load asked) (Some (pendings.Find a kind)) r w p = absurd w
asked_pends ops own old new (Load asked) (Some (pendings.Rows telling)) r w p = absurd w
asked_pends ops own old new (Load asked) (Some (pendings.Get a syntax)) r w p = absurd w
asked_pends ops own old new (Load asked) (Some (pendings.Sending left)) r w p = absurd w
asked_pends ops own old new (Load asked) (Some (pendings.Load loading)) (Loaded reply) w p = refl
asked_pends ops own old new (Load asked) (Some (pendings.Load loading)) (Stored reply) w p = absurd p
asked_pends ops own old new (Load asked) (Some (pendings.Load loading)) (Found reply) w p = absurd p
asked_pends ops own old new (Load asked) (Some (pendings.Load loading)) (Gotten reply) w p = absurd p

-- The reply of the call that ends them is that which is awaited.
pends_of : {P : Type 0} (ops : P → List Op) (own : P → List (List ℕ)) (old new : P) (ds : List Deed)
    (a : Option PendingResponse) (pending : Option Reply) → Stops ds a → History ops own old (calls_in ds)
    (option_to_list pending) new → Pends a pending
pends_of ops own old new [] a None s h = s
pends_of ops own old new [] a (Some r) s h = absurd h
pends_of ops own old new (Ask call ∷ ds) a None s h = absurd h
pends_of ops own old new (Ask call ∷ ds) a (Some r) s h = asked_pends ops own old h.0 call a r s.1 h.1
pends_of ops own old new (Close ∷ ds) a None s h = none_answered a s.1
pends_of ops own old new (Close ∷ ds) a (Some r) s h = absurd (no_reply ops own old new ds r s.0 h)
pends_of ops own old new (Send pdu ∷ ds) a pending s h = pends_of ops own old new ds a pending s h
pends_of ops own old new (Reach moment ∷ ds) a pending s h = pends_of ops own old new ds a pending s h

-- ---- what is owed

-- the deeds that are owed where nothing more comes
rests_for : (titles : List (Title View)) (w : Within) (sub : Option SubOperation) (a : Option PendingResponse) → Fits a
    → (rest : List Deed) × OwedAt titles w sub a [] [] rest
rests_for titles w sub None fits = ([], refl)
rests_for titles w sub (Some (pendings.Store a)) fits = ([], refl)
rests_for titles w sub (Some (pendings.Find a kind)) fits = ([], refl)
rests_for titles w sub (Some (pendings.Rows telling)) fits = rows_go telling.awaited telling.kind telling.rows
    telling.status (Talks titles w sub [] []) fits refl
rests_for titles w sub (Some (pendings.Get a syntax)) fits = ([], refl)
rests_for titles w sub (Some (pendings.Sending r)) fits = begins_go w.link.contexts r.progress r.left
    (λ next. Talks titles w next []) fits (λ next. refl)
rests_for titles w sub (Some (pendings.Load loading)) fits = ([], refl)

-- What was done so far begins what is owed by what came so far.
pub takes_front : (titles : List (Title View)) (a b : AssociationState) (h : List Heard) (r : List Reply)
    (d : List Deed) → Fits b.awaited → Takes titles a h r d b → (rest : List Deed) × Owes titles a h r (d ++ rest)
takes_front titles a b h r d fits p =
    let rests = rests_for titles b.within b.sub b.awaited fits in (
      rests.0,
      subst (λ (t : List Heard). Owes titles a t r (d ++ rests.0)) (append-nil h)
          (subst (λ (t : List Reply). Owes titles a (h ++ []) t (d ++ rests.0)) (append-nil r)
          (p [] [] rests.0 rests.1)),
    )

-- Where nothing is still to be told, what was done so far is owed by what came so far.
pub takes_all : (titles : List (Title View)) (a b : AssociationState) (h : List Heard) (r : List Reply)
    (d : List Deed) → b.awaited ≡ None → Takes titles a h r d b → Owes titles a h r d
takes_all titles a b h r d idle p =
    subst (λ (t : List Heard). Owes titles a t r d) (append-nil h)
    (subst (λ (t : List Reply). Owes titles a (h ++ []) t d) (append-nil r)
    (subst (λ (t : List Deed). Owes titles a (h ++ []) (r ++ []) t) (append-nil d)
    (p [] [] [] (subst (λ (o : Option PendingResponse). OwedAt titles b.within b.sub o [] [] []) (sym idle) refl))))

pub takes_then : (titles : List (Title View)) (a b c : AssociationState) (h1 h2 : List Heard)
    (r1 r2 : List Reply) (d1 d2 : List Deed)
    → Takes titles a h1 r1 d1 b → Takes titles b h2 r2 d2 c → Takes titles a (h1 ++ h2) (r1 ++ r2) (d1 ++ d2) c
takes_then titles a b c h1 h2 r1 r2 d1 d2 p q = λ us rs rest owed.
    subst (λ (t : List Heard). Owes titles a t ((r1 ++ r2) ++ rs) ((d1 ++ d2) ++ rest)) (sym (append_assoc h1 h2 us))
    (subst (λ (t : List Reply). Owes titles a (h1 ++ (h2 ++ us)) t ((d1 ++ d2) ++ rest)) (sym (append_assoc r1 r2 rs))
    (subst (λ (t : List Deed). Owes titles a (h1 ++ (h2 ++ us)) (r1 ++ (r2 ++ rs)) t) (sym (append_assoc d1 d2 rest))
    (p (h2 ++ us) (r2 ++ rs) (d2 ++ rest) (q us rs rest owed))))

-- ---- what is in turn

-- A reply comes next where one is awaited.
pub replied_turn : (a : Option PendingResponse) (left : Bool) (reply : Reply) → Pends a (Some reply)
    → in_turn a left (inputs.Replied reply) ≡ true
replied_turn None left reply pends = absurd pends
replied_turn (Some a) left reply pends = pends

-- Where no call was made, no reply is to be told.
none_pends : (a : Option PendingResponse) (pending : Option Reply) → IsAnswered a → Pends a pending → pending ≡ None
none_pends a None answered pends = refl
none_pends None (Some r) answered pends = absurd pends
none_pends (Some (pendings.Store a)) (Some r) answered pends = absurd answered
none_pends (Some (pendings.Find a kind)) (Some r) answered pends = absurd answered
none_pends (Some (pendings.Rows telling)) (Some r) answered pends = absurd cc
none_pends (Some (pendings.Get a syntax)) (Some r) answered pends = absurd answered
none_pends (Some (pendings.Sending left)) (Some r) answered pends = absurd cc
none_pends (Some (pendings.Load loading)) (Some r) answered pends = absurd answered

left_open : (s : State) (queue : List Pdv) → is_left s queue ≡ true → s ≡ Sta6
left_open Sta1 queue e = absurd cc
left_open Sta2 queue e = absurd cc
left_open Sta6 queue e = refl
left_open Sta13 queue e = absurd cc

open_left : (queue : List Pdv) → is_left Sta6 queue ≡ false → queue ≡ []
open_left [] e = refl
open_left (p ∷ queue) e = absurd cc

-- What is told behind an event comes while the association is established.
in_turn_open : (a : Option PendingResponse) (s : State) (queue : List Pdv) (input : SessionEvent)
    → (IsSome a → s ≡ Sta6)
    → in_turn a (is_left s queue) input ≡ true → met_in input ≡ [] → s ≡ Sta6
in_turn_open a s queue (inputs.Heard event) asked turn none = absurd cc
in_turn_open None s queue (inputs.Replied reply) asked turn none = absurd cc
in_turn_open (Some a) s queue (inputs.Replied reply) asked turn none = asked refl
in_turn_open None s queue inputs.GoesOn asked turn none = left_open s queue turn
in_turn_open (Some a) s queue inputs.GoesOn asked turn none = asked refl

not_left : (s : State) → s ≡ Sta6 → IsLeft s → ⊥
not_left s opened left = subst (λ (t : State). IsLeft t) opened left

none_some : (a : Option PendingResponse) → a ≡ None → IsSome a → ⊥
none_some a none some = cc

module _ (titles : List (Title View)) where
  -- ---- what is heard, one after another

  run_then : (a : Assembly) (ps : List Pdv) (rs : List (Result (Option Message) DimseFault)) (b : Assembly)
      (qs : List Pdv) (ss : List (Result (Option Message) DimseFault)) (c : Assembly) → Run a ps rs b → Run b qs ss c
      → Run a (ps ++ qs) (rs ++ ss) c
  run_then a [] [] b qs ss c p q = subst (λ (k : Assembly). Run k qs ss c) p q
  run_then a [] (r ∷ rs) b qs ss c p q = absurd p
  run_then a (x ∷ ps) [] b qs ss c p q = absurd p
  run_then a (x ∷ ps) (r ∷ rs) b qs ss c p q = (p.0, p.1, run_then p.0 ps rs b qs ss c p.2 q)

  memory_then : (rs ss : List (Result (Option Message) DimseFault)) → HadMemory rs → HadMemory ss → HadMemory (rs ++ ss)
  memory_then [] ss p q = q
  memory_then (r ∷ rs) ss p q = (p.0, memory_then rs ss p.1 q)

  said_then : (rs ss : List (Result (Option Message) DimseFault)) → heard_in (rs ++ ss) ≡ heard_in rs ++ heard_in ss
  said_then [] ss = refl
  said_then (Ok None ∷ rs) ss = said_then rs ss
  said_then (Ok (Some m) ∷ rs) ss = ap (λ (t : List Heard). Said m ∷ t) (said_then rs ss)
  said_then (Err f ∷ rs) ss = ap (λ (t : List Heard). heard_in (Err f ∷ []) ++ t) (said_then rs ss)

  leads_then : (us vs : List Heard) (a b c : Within) → Leads titles a us b → Leads titles b vs c
      → Leads titles a (us ++ vs) c
  leads_then [] vs a b c p q = subst (λ (w : Within). Leads titles w vs c) p q
  leads_then (Met event ∷ us) vs a b c p q = leads_then us vs (met titles a event) b c p q
  leads_then (Said m ∷ us) vs a b c p q = (
    p.0,
    elim p.1 as (λ _. Leads titles a (us ++ vs) c ⊎ Leads titles (met titles a LocalAbort) (us ++ vs) c) [
      | inl on ↦ inl (leads_then us vs a b c on q)
      | inr over ↦ inr (leads_then us vs (met titles a LocalAbort) b c over q)
    ],
  )

  says_then : (old mid new : Place) (values : List Pdv) (said more : List Heard) (left rest : List Pdv)
      → Says titles old values said left mid → Says titles mid left more rest new
      → Says titles old values (said ++ more) rest new
  says_then old mid new values said more left rest p q = record {
    fed = p.fed ++ q.fed;
    answers = p.answers ++ q.answers;
    parts = p.parts ∙ ap (λ (t : List Pdv). p.fed ++ t) q.parts ∙ sym (append_assoc p.fed q.fed rest);
    run = run_then _ p.fed p.answers _ q.fed q.answers _ p.run q.run;
    memory = memory_then p.answers q.answers p.memory q.memory;
    says = ap (λ (t : List Heard). t ++ more) p.says ∙ ap (λ (t : List Heard). heard_in p.answers ++ t) q.says
        ∙ sym (said_then p.answers q.answers);
    leads = leads_then said more old.within mid.within new.within p.leads q.leads;
  }

  -- what is told behind an event says, of the values that are left
  says_on : (old new : AssociationState) (input : SessionEvent) (deeds : List Deed) (left : List Pdv)
      (t : Turned titles old input deeds new) → met_in input ≡ [] → old.queue ≡ left → Says titles (place_of old) left
      t.said t.values.left (place_of new)
  says_on old new (inputs.Heard event) deeds left t none queue = absurd cc
  says_on old new (inputs.Replied reply) deeds left t none queue = record {
    fed = t.values.fed;
    answers = t.values.answers;
    parts = sym queue ∙ t.values.parts;
    run = t.values.run;
    memory = t.values.memory;
    says = t.values.says;
    leads = t.leads;
  }
  says_on old new inputs.GoesOn deeds left t none queue = record {
    fed = t.values.fed;
    answers = t.values.answers;
    parts = sym queue ∙ t.values.parts;
    run = t.values.run;
    memory = t.values.memory;
    says = t.values.says;
    leads = t.leads;
  }

  takes_on : (a b c : AssociationState) (h said : List Heard) (told : List Reply) (done deeds : List Deed)
      (input : SessionEvent) → met_in input ≡ [] → Takes titles a h told done b → Takes titles b (met_in input ++ said)
      (replies_in input) deeds c
      → Takes titles a (h ++ said) (told ++ replies_in input) (done ++ deeds) c
  takes_on a b c h said told done deeds input none p q =
      subst (λ (t : List Heard). Takes titles a (h ++ (t ++ said)) (told ++ replies_in input) (done ++ deeds) c) none
      (takes_then titles a b c h (met_in input ++ said) told (replies_in input) done deeds p q)

-- ---- what is read and sent

reads_is : (s : State) (event : SessionEvent) → s ≢ Sta1 → reads_abort s event ≡ is_abort_event event
reads_is Sta1 event connected = absurd (connected refl)
reads_is Sta2 event connected = refl
reads_is Sta6 event connected = refl
reads_is Sta13 event connected = refl

not_event : (input : SessionEvent) → met_in input ≡ [] → is_abort_event input ≡ false
not_event (inputs.Heard event) none = absurd cc
not_event (inputs.Replied reply) none = refl
not_event inputs.GoesOn none = refl

not_read : (s : State) (input : SessionEvent) → met_in input ≡ [] → reads_abort s input ≡ false
not_read Sta1 input none = refl
not_read Sta2 input none = not_event input none
not_read Sta6 input none = not_event input none
not_read Sta13 input none = not_event input none

or_more : (a b c d : Bool) → ((a || (b || c)) || (false || d)) ≡ (a || (b || (c || d)))
or_more true b c d = refl
or_more false true c d = refl
or_more false false true d = refl
or_more false false false d = refl

aborted_on : (before event r now to : Bool) (done deeds : List Deed)
    → now ≡ (before || (event || list_any is_abort done)) → r ≡ false → to ≡ (now || (r || list_any is_abort deeds))
    → to ≡ (before || (event || list_any is_abort (done ++ deeds)))
aborted_on before event r now to done deeds so none goes =
    goes ∙ ap (λ (b : Bool). b || (r || list_any is_abort deeds)) so
    ∙ ap (λ (b : Bool). (before || (event || list_any is_abort done)) || (b || list_any is_abort deeds)) none
    ∙ or_more before event (list_any is_abort done) (list_any is_abort deeds)
    ∙ ap (λ (b : Bool). before || (event || b)) (sym (list_any-append is_abort done deeds))

released_on : (before now to : Bool) (done deeds : List Deed) → now ≡ (before || list_any is_release done)
    → to ≡ (now || list_any is_release deeds) → to ≡ (before || list_any is_release (done ++ deeds))
released_on before now to done deeds so goes =
    goes ∙ ap (λ (b : Bool). b || list_any is_release deeds) so ∙ or_assoc before (list_any is_release done)
    (list_any is_release deeds)
    ∙ ap (λ (b : Bool). before || b) (sym (list_any-append is_release done deeds))

-- ---- what is left to be done

-- the values that are left, twice, and the reply that is to be told
abbrev pub weight : List Pdv → Option Reply → ℕ
weight queue pending = length queue + length queue + due pending

few : (pending : Option Reply) → due pending < 2
few None = omega arith
few (Some (Stored reply)) = omega arith
few (Some (Found reply)) = omega arith
few (Some (Gotten reply)) = omega arith
few (Some (Loaded reply)) = omega arith

-- A reply that is told where no row is left, and nothing is to be loaded, was due.
due_of : (a : Option PendingResponse) (left : Bool) (pending : Option Reply) (reply : Reply) → IsQuiet a
    → in_turn a left (inputs.Replied reply) ≡ true → reply ∷ [] ≡ option_to_list pending → due pending ≡ 1
due_of None left pending reply quiet turn e = absurd cc
due_of (Some a) left None reply quiet turn e = absurd cc
due_of (Some a) left (Some r) reply quiet turn e = ap (λ (t : List Reply). due_in t) (sym e) ∙ by a reply quiet turn
  where
    due_in : List Reply → ℕ
    due_in [] = 0
    due_in (x ∷ xs) = due (Some x)

    by : (p : PendingResponse) (x : Reply) → IsQuiet (Some p) → takes_reply p x ≡ true → due (Some x) ≡ 1
    by p (Stored x) quiet turn = refl
    by p (Found x) quiet turn = refl
    by p (Gotten x) quiet turn = refl
    by (pendings.Store a) (Loaded x) quiet turn = absurd cc
    by (pendings.Find a kind) (Loaded x) quiet turn = absurd cc
    by (pendings.Rows telling) (Loaded x) quiet turn = absurd cc
    by (pendings.Get a syntax) (Loaded x) quiet turn = absurd cc
    by (pendings.Sending r) (Loaded x) quiet turn = absurd cc
    by (pendings.Load loading) (Loaded x) quiet turn = absurd quiet

lighter : (old new : List Pdv) (pending behind : Option Reply) → new ≡ old → due pending ≡ 1 → behind ≡ None
    → weight new behind < weight old pending
lighter old new pending behind same one none =
    let f : length new ≡ length old = ap (λ (t : List Pdv). length t) same in
    let g : due behind ≡ 0 = ap due none in
    omega (arith, f, g, one)

-- Rows leave the values, and no more is due behind them.
pub no_heavier : (queue new : List Pdv) (pending behind : Option Reply) (most : ℕ) → new ≡ queue
    → due behind ≤ due pending → weight queue pending < most → weight new behind < most
no_heavier queue new pending behind most same less lighter =
    let f : length new ≡ length queue = ap (λ (t : List Pdv). length t) same in
    omega (arith, f, less, lighter)

-- Values that are heard on become fewer, where no row is left.
fewer_left : (a : Option PendingResponse) (old new : AssociationState) (left : Bool) → IsQuiet a
    → in_turn a left inputs.GoesOn ≡ true → FewerFor a old new → length new.queue < length old.queue
fewer_left None old new left quiet turn fewer = fewer
fewer_left (Some (pendings.Store a)) old new left quiet turn fewer = absurd cc
fewer_left (Some (pendings.Find a kind)) old new left quiet turn fewer = absurd cc
fewer_left (Some (pendings.Rows telling)) old new left quiet turn fewer = absurd quiet
fewer_left (Some (pendings.Get a syntax)) old new left quiet turn fewer = absurd cc
fewer_left (Some (pendings.Sending r)) old new left quiet turn fewer = absurd quiet
fewer_left (Some (pendings.Load loading)) old new left quiet turn fewer = absurd quiet

falls_by : {P : Type 0} (ops : P → List Op) (own : P → List (List ℕ)) (titles : List (Title View))
    (now then : Sides P) (s : SessionState) (input : SessionEvent) (pending behind : Option Reply)
    (t : SessionState)
    → IsQuiet s.association.awaited
    → IsNext s.association pending (Some input) → DidTurn ops own titles now then s input behind t
    → Pends t.association.awaited behind → weight t.association.queue behind < weight s.association.queue pending
falls_by ops own titles now then s (inputs.Heard event) pending behind t quiet next turn pends =
    absurd (let e = next.2 in cc)
falls_by ops own titles now then s (inputs.Replied reply) pending behind t quiet next turn pends =
    lighter s.association.queue t.association.queue pending behind turn.fewer.0 (due_of s.association.awaited
    (is_left s.association.within.state s.association.queue) pending reply quiet next.0 next.3) (none_pends t.association.awaited behind turn.turned.told pends)
falls_by ops own titles now then s inputs.GoesOn pending behind t quiet next turn pends =
    let f : length t.association.queue < length s.association.queue = fewer_left s.association.awaited s.association
    t.association (is_left s.association.within.state s.association.queue) quiet next.0 turn.fewer in
    let g = few behind in
    omega (arith, f, g)

-- deeds, one after another
pub state_then : (s : State) (done deeds : List Deed) → state_after s (done ++ deeds) ≡ state_after (state_after s done)
    deeds
state_then s [] deeds = refl
state_then s (Send pdu ∷ done) deeds = state_then (state_by_pdu s pdu) done deeds
state_then s (Reach moment ∷ done) deeds = state_then s done deeds
state_then s (Ask call ∷ done) deeds = state_then s done deeds
state_then s (Close ∷ done) deeds = state_then Sta1 done deeds

or_false : (b : Bool) → (b || false) ≡ b
or_false true = refl
or_false false = refl

-- Behind rows and sub-operations that are begun, the reply of a load alone is to be told.
loaded_only : (a : Option PendingResponse) (pending : Option Reply) → IsAnsweredOrLoads a → Pends a pending
    → due pending ≡ 0
loaded_only a None answered pends = refl
loaded_only None (Some r) answered pends = absurd pends
loaded_only (Some (pendings.Store a)) (Some r) answered pends = absurd answered
loaded_only (Some (pendings.Find a kind)) (Some r) answered pends = absurd answered
loaded_only (Some (pendings.Rows telling)) (Some r) answered pends = absurd cc
loaded_only (Some (pendings.Get a syntax)) (Some r) answered pends = absurd answered
loaded_only (Some (pendings.Sending left)) (Some r) answered pends = absurd cc
loaded_only (Some (pendings.Load loading)) (Some (Loaded reply)) answered pends = refl
loaded_only (Some (pendings.Load loading)) (Some (Stored reply)) answered pends = absurd cc
loaded_only (Some (pendings.Load loading)) (Some (Found reply)) answered pends = absurd cc
loaded_only (Some (pendings.Load loading)) (Some (Gotten reply)) answered pends = absurd cc

-- ---- with the port, the writer and the gate

module _ {P : Type 0} (ops : P → List Op) (own : P → List (List ℕ)) (titles : List (Title View)) where
  -- what a turn on the event says
  some_first : (from new : AssociationState) (event : Event) (deeds : List Deed)
      (t : Turned titles from (inputs.Heard event) deeds new) → HearsSome titles (place_of from)
      event (Met event ∷ t.said) t.values.left (place_of new)
  some_first from new event deeds t = record {
    said = t.said;
    is = refl;
    values = record {
      fed = t.values.fed;
      answers = t.values.answers;
      parts = t.values.parts;
      run = t.values.run;
      memory = t.values.memory;
      says = t.values.says;
      leads = t.leads;
    };
  }

  pub begun : (old now : Sides P) (from : SessionState) (event : Event) (pending : Option Reply) (s : SessionState)
      → from.association.awaited ≡ None → is_left from.association.within.state from.association.queue ≡ false
      → from.association.within.state ≢ Sta1
      → DidTurn ops own titles old now from (inputs.Heard event) pending s → Hearing ops own titles old now from
      event pending s
  begun old now from event pending s idle finished connected t = record {
    heard = Met event ∷ t.turned.said;
    told = [];
    done = t.deeds;
    left = t.turned.values.left;
    some = some_first from.association s.association event t.deeds t.turned;
    kept = t.turned.values.kept;
    takes = t.turned.takes;
    state = t.turned.state;
    did = t.did;
    pends = pends_of ops own old.port now.port t.deeds s.association.awaited pending t.turned.stops t.did.history;
    asked = t.turned.opened (λ some. absurd (none_some from.association.awaited idle some));
    fits = t.turned.fits;
    aborted = t.aborted ∙ ap (λ (b : Bool). from.aborted || (b || list_any is_abort t.deeds))
        (reads_is from.association.within.state (inputs.Heard event) connected);
    released = t.released;
  }

  queue_left : (old now : Sides P) (from : SessionState) (event : Event) (pending : Option Reply) (s : SessionState)
      (input : SessionEvent) (h : Hearing ops own titles old now from event pending s)
      → IsNext s.association pending (Some input) → s.association.queue ≡ h.left
  queue_left old now from event pending s input h next = elim h.kept as (λ _. s.association.queue ≡ h.left) [
    | inl same ↦ same
    | inr gone ↦ absurd (not_left s.association.within.state (in_turn_open s.association.awaited
        s.association.within.state s.association.queue input h.asked next.0 next.2) gone)
  ]

  some_on : (old now : Sides P) (from : SessionState) (event : Event) (pending : Option Reply) (s : SessionState)
      (input : SessionEvent) (h : Hearing ops own titles old now from event pending s) (deeds : List Deed)
      (new : AssociationState)
      (t : Turned titles s.association input deeds new) → IsNext s.association pending (Some input)
      → HearsSome titles (place_of from.association) event (h.heard ++ t.said) t.values.left (place_of new)
  some_on old now from event pending s input h deeds new t next = record {
    said = h.some.said ++ t.said;
    is = ap (λ (k : List Heard). k ++ t.said) h.some.is;
    values = says_then titles _ (place_of s.association) (place_of new) _ h.some.said t.said h.left t.values.left
        h.some.values
        (says_on titles s.association new input deeds h.left t next.2 (queue_left old now from event pending s input h
        next));
  }

  replied_so : (told : List Reply) (pending : Option Reply) (input : SessionEvent) → replies_in input ≡ option_to_list
      pending → told ++ option_to_list pending ≡ told ++ replies_in input
  replied_so told pending input is = ap (λ (t : List Reply). told ++ t) (sym is)

  pub goes_on : (old now then : Sides P) (from : SessionState) (event : Event) (pending : Option Reply)
      (s : SessionState) (input : SessionEvent) (behind : Option Reply) (t : SessionState) → Hearing ops own
      titles old now from event pending s
      → IsNext s.association pending (Some input) → DidTurn ops own titles now then s input behind t
      → Hearing ops own titles old then from event behind t
  goes_on old now then from event pending s input behind t h next turn = record {
    heard = h.heard ++ turn.turned.said;
    told = h.told ++ replies_in input;
    done = h.done ++ turn.deeds;
    left = turn.turned.values.left;
    some = some_on old now from event pending s input h turn.deeds t.association turn.turned next;
    kept = turn.turned.values.kept;
    takes = takes_on titles from.association s.association t.association h.heard turn.turned.said h.told h.done
        turn.deeds input next.2 h.takes turn.turned.takes;
    state = turn.turned.state ∙ ap (λ (k : State). state_after k turn.deeds) h.state
        ∙ sym (state_then from.association.within.state h.done turn.deeds);
    did = subst (λ (k : List Reply). Performs ops own old then (h.done ++ turn.deeds) [] (k ++ option_to_list behind))
        (replied_so h.told pending input next.3)
        (did_then ops own old now then h.done turn.deeds [] (h.told ++ option_to_list pending) (option_to_list behind)
        h.did turn.did);
    pends = pends_of ops own now.port then.port turn.deeds t.association.awaited behind turn.turned.stops
        turn.did.history;
    asked = turn.turned.opened h.asked;
    fits = turn.turned.fits;
    aborted = aborted_on from.aborted (is_abort_event (inputs.Heard event)) (reads_abort s.association.within.state
        input) s.aborted t.aborted h.done turn.deeds h.aborted (not_read s.association.within.state input next.2)
        turn.aborted;
    released = released_on from.released s.released t.released h.done turn.deeds h.released turn.released;
  }

  pub falls : (old now then : Sides P) (from : SessionState) (event : Event) (pending : Option Reply)
      (s : SessionState) (input : SessionEvent) (behind : Option Reply) (t : SessionState) → Hearing ops own
      titles old now from event pending s
      → IsQuiet s.association.awaited
      → IsNext s.association pending (Some input) → DidTurn ops own titles now then s input behind t
      → weight t.association.queue behind < weight s.association.queue pending
  falls old now then from event pending s input behind t h quiet next turn =
      falls_by ops own titles now then s input pending behind t quiet next turn (pends_of ops own now.port then.port
      turn.deeds t.association.awaited behind turn.turned.stops turn.did.history)

  idle_of : (a : Option PendingResponse) (left : Bool) → IsAnswered a → in_turn a left inputs.GoesOn ≡ false → a ≡ None
  idle_of None left answered e = refl
  idle_of (Some (pendings.Store a)) left answered e = absurd answered
  idle_of (Some (pendings.Find a kind)) left answered e = absurd answered
  idle_of (Some (pendings.Rows telling)) left answered e = absurd cc
  idle_of (Some (pendings.Get a syntax)) left answered e = absurd answered
  idle_of (Some (pendings.Sending r)) left answered e = absurd cc
  idle_of (Some (pendings.Load loading)) left answered e = absurd answered

  idle_left : (a : Option PendingResponse) (left : Bool) → a ≡ None → in_turn a left inputs.GoesOn ≡ false
      → left ≡ false
  idle_left None left idle e = e
  idle_left (Some a) left idle e = absurd cc

  all_left : (state : State) (queue left : List Pdv) → is_left state queue ≡ false → (queue ≡ left) ⊎ IsLeft state
      → state ≡ Sta6 → left ≡ []
  all_left state queue left finished (inl same) opened = sym same
      ∙ open_left queue (ap (λ (s : State). is_left s queue) (sym opened) ∙ finished)
  all_left state queue left finished (inr gone) opened = absurd (not_left state opened gone)

  whole : (old now : Sides P) (from : SessionState) (event : Event) (s : SessionState) → Hearing ops own titles
      old now from event None s → is_in_turn s.association inputs.GoesOn ≡ false → HeardWhole ops own titles old now
      from event s
  whole old now from event s h none =
      let idle = idle_of s.association.awaited (is_left s.association.within.state s.association.queue) h.pends none in
      let finished = idle_left s.association.awaited (is_left s.association.within.state s.association.queue) idle none
      in
      record {
        heard = h.heard;
        replies = h.told;
        done = h.done;
        hears = (h.left, h.some, all_left s.association.within.state s.association.queue h.left finished h.kept);
        takes = h.takes;
        state = h.state;
        did = subst (λ (k : List Reply). Performs ops own old now h.done [] k) (append-nil h.told) h.did;
        idle = idle;
        finished = finished;
        aborted = h.aborted;
        released = h.released;
      }

  pub ended : (old now : Sides P) (from : SessionState) (event : Event) (pending : Option Reply) (s : SessionState)
      → Hearing ops own titles old now from event pending s → IsNext s.association pending None → HeardWhole ops own
      titles old now from event s
  ended old now from event None s h next = whole old now from event s h next.1
  ended old now from event (Some reply) s h next = absurd (let e = next.0 in cc)

  -- ---- after a fault

  pub fails_first : (old new : Sides P) (from : SessionState) (event : Event) → from.association.awaited ≡ None
      → BrokeTurn ops own titles old new
      from (inputs.Heard event) → HeardFront ops own titles old new from.association event
  fails_first old new from event idle (inl same) = record {
    heard = [];
    told = [];
    replies = [];
    first = all_front [];
    all = [];
    to = from.association;
    fits = none_fits from.association.awaited idle;
    hears = inl refl;
    takes = λ us rs rest owed. owed;
    done = [];
    part = [];
    front = all_begun [];
    did = subst (λ (k : Sides P). Performs ops own old k [] [] []) (sym same) (did_none ops own old);
  }
  fails_first old new from event idle (inr b) = record {
    heard = Met event ∷ b.turned.said;
    told = [];
    replies = [];
    first = all_front [];
    all = b.deeds;
    to = b.to;
    fits = b.turned.fits;
    hears = inr (b.turned.values.left, place_of b.to, some_first from.association b.to event b.deeds b.turned);
    takes = b.turned.takes;
    done = b.broke.0;
    part = b.broke.1;
    front = b.broke.2;
    did = b.broke.3;
  }

  pub fails_on : (old now then : Sides P) (from : SessionState) (event : Event) (pending : Option Reply)
      (s : SessionState) (input : SessionEvent) → Hearing ops own titles old now from event pending s
      → IsNext s.association pending (Some input) → BrokeTurn ops own titles now then s input → HeardFront ops own
      titles old then from.association event
  fails_on old now then from event pending s input h next (inl same) = record {
    heard = h.heard;
    told = h.told;
    replies = h.told ++ option_to_list pending;
    first = (option_to_list pending, refl);
    all = h.done;
    to = s.association;
    fits = h.fits;
    hears = inr (h.left, place_of s.association, h.some);
    takes = h.takes;
    done = h.done;
    part = [];
    front = all_begun h.done;
    did = subst (λ (k : Sides P). Performs ops own old k h.done [] (h.told ++ option_to_list pending)) (sym same) h.did;
  }
  fails_on old now then from event pending s input h next (inr b) = record {
    heard = h.heard ++ b.turned.said;
    told = h.told ++ replies_in input;
    replies = h.told ++ replies_in input;
    first = all_front (h.told ++ replies_in input);
    all = h.done ++ b.deeds;
    to = b.to;
    fits = b.turned.fits;
    hears = inr (
      b.turned.values.left,
      place_of b.to,
      some_on old now from event pending s input h b.deeds b.to b.turned
          next,
    );
    takes = takes_on titles from.association s.association b.to h.heard b.turned.said h.told h.done b.deeds input next.2
        h.takes b.turned.takes;
    done = h.done ++ b.broke.0;
    part = b.broke.1;
    front = begun_behind h.done b.broke.0 b.broke.1 b.deeds b.broke.2;
    did = subst (λ (k : List Reply). Performs ops own old then (h.done ++ b.broke.0) b.broke.1 k)
        (append-nil (h.told ++ option_to_list pending) ∙ replied_so h.told pending input next.3)
        (did_then ops own old now then h.done b.broke.0 b.broke.1 (h.told ++ option_to_list pending) [] h.did
        b.broke.3);
  }

  -- ---- rows

  -- What tells rows and sub-operations on is in turn: no reply is to be told, or what was loaded.
  row_next : (s : AssociationState) (a : Option PendingResponse) (pending : Option Reply) → s.awaited ≡ a
      → (tells_rows a || is_loaded pending) ≡ true → Pends a pending → IsNext s pending (Some (row_input pending))
  row_next s None None is e pends = absurd cc
  row_next s None (Some reply) is e pends = absurd pends
  row_next s (Some due) None is e pends = (
    ap (λ (o : Option PendingResponse). in_turn o (is_left s.within.state s.queue) inputs.GoesOn) is
        ∙ sym (or_false (is_telling due)) ∙ e,
    tt,
    refl,
    refl,
  )
  row_next s (Some due) (Some reply) is e pends = (
    ap (λ (o : Option PendingResponse). in_turn o (is_left s.within.state s.queue) (inputs.Replied reply)) is ∙ pends,
    tt,
    refl,
    refl,
  )

  -- Some rows more are told.
  pub tells_on : (now mid then : Sides P) (s m : SessionState) (pending at behind : Option Reply) (t : SessionState)
      → GoesOnWith ops own titles now mid s pending m at
      → (tells_rows m.association.awaited || is_loaded at) ≡ true
      → DidTurn ops own titles mid then m (row_input at) behind t
      → GoesOnWith ops own titles now then s pending t behind
  tells_on now mid then s m pending at behind t so telling turn = λ old from event h.
      let here = so old from event h in
      goes_on old mid then from event at m (row_input at) behind t here (row_next m.association m.association.awaited at
      refl telling here.pends) turn

  -- Of the deeds for some rows a front was done.
  pub tells_broke : (now mid then : Sides P) (s m : SessionState) (pending at : Option Reply)
      → GoesOnWith ops own titles now mid s pending m at
      → (tells_rows m.association.awaited || is_loaded at) ≡ true
      → BrokeTurn ops own titles mid then m (row_input at) → BreaksWith ops own titles now then s pending
  tells_broke now mid then s m pending at so telling broke = λ old from event h.
      let here = so old from event h in
      fails_on old mid then from event at m (row_input at) here (row_next m.association m.association.awaited at refl
      telling here.pends) broke

  -- The reply that is to be told behind a turn is that which is awaited.
  pub pends_behind : (mid then : Sides P) (m : SessionState) (input : SessionEvent) (behind : Option Reply)
      (t : SessionState) → DidTurn ops own titles mid then m input behind t → Pends t.association.awaited behind
  pends_behind mid then m input behind t turn = pends_of ops own mid.port then.port turn.deeds t.association.awaited
      behind turn.turned.stops turn.did.history

  -- Behind a row, and behind what was loaded, no reply is due.
  pub none_due : (mid then : Sides P) (m : SessionState) (at behind : Option Reply) (t : SessionState)
      → Pends m.association.awaited at → (tells_rows m.association.awaited || is_loaded at) ≡ true
      → DidTurn ops own titles mid then m (row_input at) behind t → due behind ≡ 0
  none_due mid then m at behind t pends telling turn = by m.association.awaited at pends telling turn.turned.told
    where
      there : Pends t.association.awaited behind
      there = pends_behind mid then m (row_input at) behind t turn

      by : (a : Option PendingResponse) (r : Option Reply) → Pends a r → (tells_rows a || is_loaded r) ≡ true
          → IsToldBy (row_input r) a t.association.awaited → due behind ≡ 0
      by None None pends e told = absurd cc
      by None (Some reply) pends e told = absurd pends
      by (Some p) None pends e told = loaded_only t.association.awaited behind told there
      by (Some p) (Some reply) pends e told = ap due (none_pends t.association.awaited behind told there)

or_split : (a b : Bool) → (a || b) ≡ false → (a ≡ false) × (b ≡ false)
or_split true b e = absurd cc
or_split false b e = (refl, e)

-- Where no row is told, and nothing is to be told that was loaded, none is left.
pub quiet_of : (a : Option PendingResponse) (pending : Option Reply) → Pends a pending
    → (tells_rows a || is_loaded pending) ≡ false → IsQuiet a
quiet_of None pending pends e = tt
quiet_of (Some (pendings.Store a)) pending pends e = tt
quiet_of (Some (pendings.Find a kind)) pending pends e = tt
quiet_of (Some (pendings.Rows telling)) pending pends e = absurd cc
quiet_of (Some (pendings.Get a syntax)) pending pends e = tt
quiet_of (Some (pendings.Sending r)) pending pends e = absurd cc
quiet_of (Some (pendings.Load loading)) None pends e = absurd pends
quiet_of (Some (pendings.Load loading)) (Some (Loaded reply)) pends e = absurd cc
quiet_of (Some (pendings.Load loading)) (Some (Stored reply)) pends e = absurd cc
quiet_of (Some (pendings.Load loading)) (Some (Found reply)) pends e = absurd cc
quiet_of (Some (pendings.Load loading)) (Some (Gotten reply)) pends e = absurd cc

-- What tells rows on is in turn.
pub told_in_turn : (a : Option PendingResponse) (left : Bool) (pending : Option Reply) → Pends a pending
    → (tells_rows a || is_loaded pending) ≡ true → in_turn a left (row_input pending) ≡ true
told_in_turn None left None pends e = absurd cc
told_in_turn None left (Some reply) pends e = absurd pends
told_in_turn (Some due) left None pends e = sym (or_false (is_telling due)) ∙ e
told_in_turn (Some due) left (Some reply) pends e = pends

fewer_loaded : (a : Option PendingResponse) (r : Reply) (new : AssociationState) → Pends a (Some r)
    → (tells_rows a || is_loaded (Some r)) ≡ true → FewerBehind a new.awaited → left_of new.awaited < left_of a
fewer_loaded None r new pends e fewer = absurd pends
fewer_loaded (Some (pendings.Store a)) (Loaded reply) new pends e fewer = absurd cc
fewer_loaded (Some (pendings.Store a)) (Stored reply) new pends e fewer = absurd cc
fewer_loaded (Some (pendings.Store a)) (Found reply) new pends e fewer = absurd cc
fewer_loaded (Some (pendings.Store a)) (Gotten reply) new pends e fewer = absurd cc
fewer_loaded (Some (pendings.Find a kind)) (Loaded reply) new pends e fewer = absurd cc
fewer_loaded (Some (pendings.Find a kind)) (Stored reply) new pends e fewer = absurd cc
fewer_loaded (Some (pendings.Find a kind)) (Found reply) new pends e fewer = absurd cc
fewer_loaded (Some (pendings.Find a kind)) (Gotten reply) new pends e fewer = absurd cc
fewer_loaded (Some (pendings.Rows telling)) r new pends e fewer = absurd cc
fewer_loaded (Some (pendings.Get a syntax)) (Loaded reply) new pends e fewer = absurd cc
fewer_loaded (Some (pendings.Get a syntax)) (Stored reply) new pends e fewer = absurd cc
fewer_loaded (Some (pendings.Get a syntax)) (Found reply) new pends e fewer = absurd cc
fewer_loaded (Some (pendings.Get a syntax)) (Gotten reply) new pends e fewer = absurd cc
fewer_loaded (Some (pendings.Sending left)) r new pends e fewer = absurd cc
fewer_loaded (Some (pendings.Load loading)) r new pends e fewer = fewer

fewer_rows : (a : Option PendingResponse) (pending : Option Reply) (old new : AssociationState) → old.awaited ≡ a
    → Pends a pending → (tells_rows a || is_loaded pending) ≡ true → IsFewer (row_input pending) old new
    → (new.queue ≡ old.queue) × (left_of new.awaited < left_of old.awaited)
fewer_rows None None old new is pends e fewer = absurd cc
fewer_rows None (Some reply) old new is pends e fewer = absurd pends
fewer_rows (Some due) None old new is pends e fewer =
    subst (λ (a : Option PendingResponse). FewerFor a old new) is fewer
fewer_rows (Some due) (Some reply) old new is pends e fewer = (
  fewer.0,
  subst (λ (a : Option PendingResponse). left_of new.awaited < left_of a) (sym is) (fewer_loaded (Some due) reply new
      pends e (subst (λ (a : Option PendingResponse). FewerBehind a new.awaited) is fewer.1)),
)

-- Rows that are told on, and sub-operations, become fewer, and the values stay.
pub rows_fewer : (pending : Option Reply) (old new : AssociationState) → Pends old.awaited pending
    → (tells_rows old.awaited || is_loaded pending) ≡ true → IsFewer (row_input pending) old new
    → (new.queue ≡ old.queue) × (left_of new.awaited < left_of old.awaited)
rows_fewer pending old new pends e fewer = fewer_rows old.awaited pending old new refl pends e fewer
