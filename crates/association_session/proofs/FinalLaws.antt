-- Each request has one response, in order.
use Rattle.std.proofs.Common.{◌≡◌, ◌⊎◌, ℕ, Bool, true, false, List, [], ◌∷◌, ◌++◌, map, length, Option, Some, None}
use Rattle.std.proofs.Common.{Result, Ok, Err, inl, inr, refl, sym, ap, subst, ◌∙◌, append_assoc, append-nil}
use Rattle.std.specs.Prelude.{IfSome, ⊤}
use Rattle.pdu.specs.declared.request.Request.{Request}
use Rattle.pdu.specs.declared.reject.Reject.{Reject}
use Rattle.pdu.specs.declared.value.Pdu.TheVariants as pdus
use Rattle.pdu.specs.declared.fault.PduFault.TheVariants as faults
use Rattle.ul_state.specs.declared.event.Event.{Event}
use Rattle.ul_state.specs.declared.event.Event.TheVariants as events
use Rattle.ul_state.specs.declared.table.State.{State}
use Rattle.ul_state.specs.declared.table.State.TheVariants.{Sta1, Sta2, Sta6, Sta13}
use Rattle.ul_state.specs.declared.titles.Title.{Title}
use Rattle.ul_state.specs.Decision.{value_for}
use Rattle.dimse.specs.declared.message.Message.{Message}
use Rattle.dimse.specs.declared.status.Status.{Status}
use Rattle.operation.specs.Parts.{ContentParts}
use Rattle.association_services.specs.declared.call.Call.TheVariants.{Store, Find, Get, Load}
use Rattle.association_session.specs.declared.deed.Deed.{Deed}
use Rattle.association_session.specs.declared.deed.Deed.TheVariants.{Send, Reach, Ask, Close}
use Rattle.association_session.specs.declared.deed.Moment.TheVariants.{InStore, FindAnswered}
use Rattle.association_services.specs.declared.call.Finding.{Finding}
use Rattle.association_services.specs.declared.service.RowKind.{RowKind}
use Rattle.data_set.specs.Set.{Set}
use Rattle.pdu.specs.declared.value.Pdu.{Pdu}
use Rattle.association_services.specs.declared.reply.Reply.{Reply}
use Rattle.association_services.specs.declared.reply.Reply.TheVariants.{Stored, Found, Gotten, Loaded}
use Rattle.association_services.specs.declared.service.Service.{Service}
use Rattle.association_services.specs.declared.service.Service.TheVariants.{Ignored, Broken, Responded, Asked}
use Rattle.association_services.specs.declared.service.Service.TheVariants.{Queried, Fetched}
use Rattle.association_services.specs.Find.{AreRows, row_text, rows_in, status_of_found}
use Rattle.association_session.specs.Finals.{data_in, Requested, plain, selecting, RespondsTo}
use Rattle.association_session.specs.Finals.{SendsOnTheWay, SendsLast, AreResponded, RequestsBy, Precedes, Replied}
use Rattle.association_session.specs.Finals.{RequestsLoaded, RepliedLoad, RequestsByWay, RequestsBegun}
use Rattle.association_session.specs.Finals.{FewRequests, RepliedGet, RequestFor}
use Rattle.association_session.specs.Finals.{RequestsBehind, RequestWithin, RequestOf, RequestIn, Requests, open_in}
use Rattle.association_session.specs.Finals.{EndsInCall, IsOpen, HasResponses}
use Rattle.association_services.specs.Get.{final_status, failed_set}
use Rattle.association_session.specs.Order.{IsOrderly}
use Rattle.association_services.specs.SubOperation.{Retrieval, SubOperation}
use Rattle.association_services.specs.Retrieval.{few_in, setting_out, counting, RespondsIfLeft, RespondsBy}
use Rattle.association_services.specs.Retrieval.{sub_operation, failing, sending, way_for, loaded_for}
use Rattle.association_services.specs.Retrieval.{meaning_of, performed, cancelling}
use Rattle.association_services.specs.declared.counts.Outcome.{Outcome}
use Rattle.association_services.specs.declared.call.Call.{Call}
use Rattle.association_services.specs.declared.reply.PortFault.{PortFault}
use Rattle.association_services.specs.declared.call.Getting.{Getting}
use Rattle.association_services.specs.declared.retrieval.Meaning.{Meaning}
use Rattle.association_services.specs.declared.retrieval.Meaning.TheVariants.{Cancelled, Performed, Unawaited}
use Rattle.association_services.specs.declared.retrieval.Progress.{Progress}
use Rattle.association_services.specs.declared.way.Way.{Way}
use Rattle.data_set.specs.declared.syntax.Syntax.{Syntax}
use Rattle.dictionary.specs.declared.commands.TheConstants.{C_GET_RQ}
use Rattle.dimse.specs.declared.status.Status.TheVariants.{Cancel, Pending, UnableToPerformSubOperations}
use Rattle.dimse.specs.Response.{response_of}
use Rattle.dimse.specs.Sending.{IsSending}
use Rattle.pdu.specs.declared.context.Context.{Context}
use Rattle.archive_model.specs.declared.listed.Listed.{Listed}
use Rattle.archive_model.specs.declared.prepared.Prepared.{Prepared}
use Rattle.archive_model.specs.declared.sending.Sending.{Sending}
use Rattle.archive_model.specs.Prepared.{made}
use Rattle.ul_state.specs.Acceptor.{kind_for, settled_by}
use Rattle.ul_state.specs.Table.{next_of, opens}
use Rattle.ul_state.specs.declared.acceptor.Settled.{Settled}
use Rattle.association_services.proofs.DataLaws.{AreData, sending_data, rows_data, if_left_data, responds_by_data}
use Rattle.association_session.proofs.OrderLaws.{orderly}
use Rattle.association_session.proofs.SelectedLaws.{selected_in, counts_add_up, starts_with_all, unsent_keeps_all}
use Rattle.association_session.proofs.SelectedLaws.{sent_keeps_all, performed_keeps_all}
use Rattle.association_services.proofs.StatusLaws.{stored_final, found_final, counts_final}
use Rattle.association_session.proofs.StatusLaws.{served_final, served_pending, served_get}
use Rattle.association_services.specs.Accepted.{accepts_of, carried_of, Carries}
use Rattle.association_services.specs.Response.{Awaited, is_pending, response_to, response_with}
use Rattle.association_services.proofs.WayLaws.{carried_next, carried_unloaded, carried_not, sub_carries}
use Rattle.association_session.specs.Row.{Link, Within, row, met, agreed_by, limit_in}
use Rattle.association_session.specs.Selected.{selected_by, remaining_in, TellsNoCounts}
use Rattle.association_services.specs.Store.{status_of_reply}
use Rattle.association_session.specs.Talks.{Heard, Met, Said, Goes, GoesBy, Then, Tells, TellsRows, FollowsStore}
use Rattle.association_session.specs.Talks.{FollowsFind}
use Rattle.association_session.specs.Talks.{SendsLoaded, FollowsLoad, Fails, LoadsBy, Begins, FollowsGet, BeginsFew}
use Rattle.association_session.specs.Talks.{Does}
use Rattle.association_session.specs.Talks.{InState, Attends, Performs, GoesOnBy}
use Rattle.association_session.specs.Talks.{Talks}
use Rattle.association_session.specs.Talks.{Serves, awaiting}
use Rattle.archive_model.specs.declared.view.View.{View}

-- ---- what stands before a response

request_quiet : (s : State) (titles : List (Title View)) (request : Request) (r : Result View Reject)
    (rest : List Deed) → value_for titles request ≡ r
    → data_in (row titles s (events.Got (pdus.AssociateRq request)) ++ rest) ≡ data_in rest
request_quiet Sta1 titles request r rest e = refl
request_quiet Sta2 titles request (Ok v) rest e = rw e refl
request_quiet Sta2 titles request (Err reject) rest e = rw e (rw e refl)
request_quiet Sta6 titles request (Ok v) rest e = rw e refl
request_quiet Sta6 titles request (Err reject) rest e = rw e refl
request_quiet Sta13 titles request (Ok v) rest e = rw e refl
request_quiet Sta13 titles request (Err reject) rest e = rw e refl

-- a row sends no P-DATA-TF
row_quiet : (titles : List (Title View)) (s : State) (event : Event) (rest : List Deed)
    → data_in (row titles s event ++ rest) ≡ data_in rest
row_quiet titles Sta1 event rest = refl
row_quiet titles Sta2 (events.Got (pdus.AssociateRq request)) rest = request_quiet Sta2 titles
    request (value_for titles request) rest refl
row_quiet titles Sta2 (events.Got (pdus.AssociateAc accept)) rest = refl
row_quiet titles Sta2 (events.Got (pdus.AssociateRj reject)) rest = refl
row_quiet titles Sta2 (events.Got (pdus.PData values)) rest = refl
row_quiet titles Sta2 (events.Got pdus.ReleaseRq) rest = refl
row_quiet titles Sta2 (events.Got pdus.ReleaseRp) rest = refl
row_quiet titles Sta2 (events.Got (pdus.Abort source reason)) rest = refl
row_quiet titles Sta2 (events.Bad faults.UnknownType) rest = refl
row_quiet titles Sta2 (events.Bad faults.BadLength) rest = refl
row_quiet titles Sta2 (events.Bad faults.BadItem) rest = refl
row_quiet titles Sta2 (events.Bad faults.TooLong) rest = refl
row_quiet titles Sta2 (events.Bad faults.Memory) rest = refl
row_quiet titles Sta2 events.Ended rest = refl
row_quiet titles Sta2 events.LocalAbort rest = refl
row_quiet titles Sta6 (events.Got (pdus.AssociateRq request)) rest = request_quiet Sta6 titles
    request (value_for titles request) rest refl
row_quiet titles Sta6 (events.Got (pdus.AssociateAc accept)) rest = refl
row_quiet titles Sta6 (events.Got (pdus.AssociateRj reject)) rest = refl
row_quiet titles Sta6 (events.Got (pdus.PData values)) rest = refl
row_quiet titles Sta6 (events.Got pdus.ReleaseRq) rest = refl
row_quiet titles Sta6 (events.Got pdus.ReleaseRp) rest = refl
row_quiet titles Sta6 (events.Got (pdus.Abort source reason)) rest = refl
row_quiet titles Sta6 (events.Bad faults.UnknownType) rest = refl
row_quiet titles Sta6 (events.Bad faults.BadLength) rest = refl
row_quiet titles Sta6 (events.Bad faults.BadItem) rest = refl
row_quiet titles Sta6 (events.Bad faults.TooLong) rest = refl
row_quiet titles Sta6 (events.Bad faults.Memory) rest = refl
row_quiet titles Sta6 events.Ended rest = refl
row_quiet titles Sta6 events.LocalAbort rest = refl
row_quiet titles Sta13 (events.Got (pdus.AssociateRq request)) rest = request_quiet Sta13 titles
    request (value_for titles request) rest refl
row_quiet titles Sta13 (events.Got (pdus.AssociateAc accept)) rest = refl
row_quiet titles Sta13 (events.Got (pdus.AssociateRj reject)) rest = refl
row_quiet titles Sta13 (events.Got (pdus.PData values)) rest = refl
row_quiet titles Sta13 (events.Got pdus.ReleaseRq) rest = refl
row_quiet titles Sta13 (events.Got pdus.ReleaseRp) rest = refl
row_quiet titles Sta13 (events.Got (pdus.Abort source reason)) rest = refl
row_quiet titles Sta13 (events.Bad faults.UnknownType) rest = refl
row_quiet titles Sta13 (events.Bad faults.BadLength) rest = refl
row_quiet titles Sta13 (events.Bad faults.BadItem) rest = refl
row_quiet titles Sta13 (events.Bad faults.TooLong) rest = refl
row_quiet titles Sta13 (events.Bad faults.Memory) rest = refl
row_quiet titles Sta13 events.Ended rest = refl
row_quiet titles Sta13 events.LocalAbort rest = refl

-- what is sent as a message
data_behind : (ps : List Pdu) (rest : List Deed) → AreData ps → data_in (map Send ps ++ rest) ≡ ps ++ data_in rest
data_behind [] rest p = refl
data_behind (pdus.PData values ∷ ps) rest p = ap (λ (t : List Pdu). pdus.PData values ∷ t) (data_behind ps rest p)
data_behind (pdus.AssociateRq request ∷ ps) rest p = absurd p
data_behind (pdus.AssociateAc accept ∷ ps) rest p = absurd p
data_behind (pdus.AssociateRj reject ∷ ps) rest p = absurd p
data_behind (pdus.ReleaseRq ∷ ps) rest p = absurd p
data_behind (pdus.ReleaseRp ∷ ps) rest p = absurd p
data_behind (pdus.Abort source reason ∷ ps) rest p = absurd p

-- ---- responses

-- They tell no counts,
no_counts : (a : Awaited) (status : Status) → TellsNoCounts (response_to a status)
unfolding response_of
no_counts a status = record { remaining = refl; completed = refl; failed = refl; warning = refl }

no_counts_with : (a : Awaited) (status : Status) (text : List ℕ) → TellsNoCounts (response_with a status text)
unfolding response_of
no_counts_with a status text = record { remaining = refl; completed = refl; failed = refl; warning = refl }

response_to_is : (a : Awaited) (status : Status) (b : Bool) → is_pending status ≡ b → RespondsTo a None b
    (response_to a status)
unfolding response_of
response_to_is a status b e = record {
  context = refl;
  field = refl;
  affected_class = refl;
  affected_instance = refl;
  id = refl;
  status = status;
  is = refl;
  kind = e;
  counts = no_counts a status;
}

response_with_is : (a : Awaited) (status : Status) (text : List ℕ) (b : Bool) → is_pending status ≡ b
    → RespondsTo a None b (response_with a status text)
unfolding response_of
response_with_is a status text b e = record {
  context = refl;
  field = refl;
  affected_class = refl;
  affected_instance = refl;
  id = refl;
  status = status;
  is = refl;
  kind = e;
  counts = no_counts_with a status text;
}

-- a request that selected so many, and is to carry these
abbrev requesting : List Context → Awaited → ℕ → List Sending → Requested
requesting contexts a selected carried = record {
  awaited = a;
  selected = Some selected;
  contexts = contexts;
  carried = carried;
}

-- but those of a C-GET, which add up to what it selected.
abbrev request_in : List Context → Progress → List Listed → List Reply → Requested
request_in contexts g left rs = selecting contexts g.awaited (selected_in g left) left rs

counting_is : (g : Progress) (left : List Listed) (status : Status) (remaining : Option ℕ) (body : Option (List ℕ))
    (b : Bool) → is_pending status ≡ b → remaining_in remaining ≡ length left
    → RespondsTo g.awaited (Some (selected_in g left)) b (counting g status remaining body)
unfolding response_of
counting_is g left status remaining body b e told = record {
  context = refl;
  field = refl;
  affected_class = refl;
  affected_instance = refl;
  id = refl;
  status = status;
  is = refl;
  kind = e;
  counts = counts_add_up g left status remaining body told;
}

-- What it selected stays when one fails that has no way, and what it is to carry;
unsent_same : (contexts : List Context) (g : Progress) (x : Listed) (left : List Listed) (rs : List Reply)
    → way_for contexts x ≡ None → request_in contexts (failing g x) left rs ≡ request_in contexts g (x ∷ left) rs
unsent_same contexts g x left rs none =
    ap (λ (n : ℕ). selecting contexts g.awaited n left rs) (unsent_keeps_all g x left)
    ∙ ap (λ (carried : List Sending). requesting contexts g.awaited (selected_in g (x ∷ left)) carried)
    (sym (carried_not contexts x left rs none))

-- when one fails that was not loaded;
unloaded_same : (contexts : List Context) (g : Progress) (x : Listed) (left : List Listed) (way : Way)
    (reply : Result ContentParts PortFault) (rs : List Reply) → way_for contexts x ≡ Some way
    → loaded_for x reply ≡ None
    → request_in contexts (failing g x) left rs ≡ request_in contexts g (x ∷ left) (Loaded reply ∷ rs)
unloaded_same contexts g x left way reply rs is none =
    ap (λ (n : ℕ). selecting contexts g.awaited n left rs) (unsent_keeps_all g x left)
    ∙ ap (λ (carried : List Sending). requesting contexts g.awaited (selected_in g (x ∷ left)) carried)
    (sym (carried_unloaded contexts x left way reply rs is none))

-- when one is sent, it was the next to be carried;
sent_same : (contexts : List Context) (g : Progress) (x : Listed) (left : List Listed) (way : Way)
    (reply : Result ContentParts PortFault) (rs : List Reply) (p : Prepared) → way_for contexts x ≡ Some way
    → loaded_for x reply ≡ Some p
    → requesting contexts g.awaited (selected_by (sending g x left)) (made (accepts_of contexts) p ∷ carried_of contexts
    left rs) ≡ request_in contexts g (x ∷ left) (Loaded reply ∷ rs)
sent_same contexts g x left way reply rs p is loaded =
    ap (λ (n : ℕ). requesting contexts g.awaited n (made (accepts_of contexts) p ∷ carried_of contexts left rs))
    (sent_keeps_all g x left)
    ∙ ap (λ (carried : List Sending). requesting contexts g.awaited (selected_in g (x ∷ left)) carried)
    (sym (carried_next contexts x left way reply rs p is loaded))

-- and it stays when that has its response.
performed_same : (contexts : List Context) (sub : SubOperation) (outcome : Outcome) (rs : List Reply)
    → request_in contexts (performed sub outcome) sub.left rs
    ≡ selecting contexts sub.progress.awaited (selected_by sub) sub.left rs
performed_same contexts sub outcome rs =
    ap (λ (n : ℕ). selecting contexts sub.progress.awaited n sub.left rs) (performed_keeps_all sub outcome)

module _ (Open : Option ℕ → Type 0) where
  -- one pending response more on the way
  way_more : (r : Requested) (m : Message) (requests : List Requested) (first rest : List Pdu)
      → RespondsTo r.awaited r.selected true m → IsSending m r.awaited.limit first
      → AreResponded Open (r ∷ requests) rest → AreResponded Open (r ∷ requests) (first ++ rest)
  way_more r m requests first rest is sent p = (m ∷ p.0, (r.carried, inl (is, refl), first, rest, sent, p.1, refl))

  -- the same messages on the way to a request that is as selective, whatever is carried behind them
  way_of_same : (contexts : List Context) (a : Awaited) (n : ℕ) (less more carried : List Sending) (ms : List Message)
      (Behind : List Pdu → Type 0) (pdus : List Pdu)
      → SendsOnTheWay (requesting contexts a n less) carried ms Behind pdus
      → SendsOnTheWay (requesting contexts a n more) carried ms Behind pdus
  way_of_same contexts a n less more carried [] Behind pdus p = p
  way_of_same contexts a n less more carried (m ∷ ms) Behind pdus p = (
    p.0,
    p.1,
    p.2,
    p.3,
    p.4,
    way_of_same contexts a n less more p.0 ms Behind p.3 p.5,
    p.6,
  )

  -- one sub-operation more on the way, which carries the next of what is carried
  way_carries : (contexts : List Context) (a : Awaited) (n : ℕ) (first_of : Sending) (carried : List Sending)
      (m : Message) (requests : List Requested) (first rest : List Pdu) → Carries contexts first_of m
      → IsSending m a.limit first → AreResponded Open (requesting contexts a n carried ∷ requests) rest
      → AreResponded Open (requesting contexts a n (first_of ∷ carried) ∷ requests) (first ++ rest)
  way_carries contexts a n first_of carried m requests first rest is sent p = (
    m ∷ p.0,
    (
      carried,
      inr (first_of, refl, is),
      first,
      rest,
      sent,
      way_of_same contexts a n carried (first_of ∷ carried) carried p.0
          (λ qs. SendsLast (requesting contexts a n carried) (AreResponded Open requests) qs
          ⊎ ((requests ≡ []) × (qs ≡ []) × Open (Some n))) rest p.1,
      refl,
    ),
  )

  -- the last response
  way_last : (r : Requested) (m : Message) (requests : List Requested) (first rest : List Pdu)
      → RespondsTo r.awaited r.selected false m → IsSending m r.awaited.limit first → AreResponded Open requests rest
      → AreResponded Open (r ∷ requests) (first ++ rest)
  way_last r m requests first rest is sent p = ([], inl (m, is, first, rest, sent, p, refl))

  -- none any more
  way_open : (r : Requested) → Open r.selected → AreResponded Open (r ∷ []) []
  way_open r yet = ([], inr (refl, refl, yet))

  rows_way : (a : Awaited) (kind : RowKind) (rows : List Set) (requests : List Requested) (ps rest : List Pdu)
      → is_pending kind.status ≡ true → AreRows a kind rows ps → AreResponded Open (plain a ∷ requests) rest
      → AreResponded Open (plain a ∷ requests) (ps ++ rest)
  rows_way a kind [] requests ps rest pending are p =
      subst (λ (t : List Pdu). AreResponded Open (plain a ∷ requests) (t ++ rest)) (sym are) p
  rows_way a kind (r ∷ rows) requests ps rest pending are p =
      subst (λ (t : List Pdu). AreResponded Open (plain a ∷ requests) t)
      (sym (append_assoc are.0 are.1 rest) ∙ ap (λ (t : List Pdu). t ++ rest) (sym are.4))
      (way_more (plain a) (response_with a kind.status (row_text kind.syntax r)) requests are.0 (are.1 ++ rest)
      (response_with_is a kind.status (row_text kind.syntax r) true pending) are.2
      (rows_way a kind rows requests are.1 rest pending are.3 p))

  left_way : (contexts : List Context) (g : Progress) (left : List Listed) (rs : List Reply)
      (requests : List Requested) (ps rest : List Pdu) → RespondsIfLeft g left ps
      → AreResponded Open (request_in contexts g left rs ∷ requests) rest
      → AreResponded Open (request_in contexts g left rs ∷ requests) (ps ++ rest)
  left_way contexts g [] rs requests ps rest none p =
      subst (λ (t : List Pdu). AreResponded Open (request_in contexts g [] rs ∷ requests) (t ++ rest)) (sym none) p
  left_way contexts g (x ∷ left) rs requests ps rest sent p = way_more (request_in contexts g (x ∷ left) rs) (counting g
      Pending (Some (length (x ∷ left))) None) requests ps rest (counting_is g (x ∷ left) Pending
      (Some (length (x ∷ left))) None true refl refl) sent p

-- What is open stays so behind other deeds.
last_map : (Open Wide : Option ℕ → Type 0) (r : Requested) (requests : List Requested) (rest : List Pdu)
    → ((n : Option ℕ) → Open n → Wide n)
    → ((qs : List Pdu) → AreResponded Open requests qs → AreResponded Wide requests qs)
    → SendsLast r (AreResponded Open requests) rest ⊎ ((requests ≡ []) × (rest ≡ []) × Open r.selected)
    → SendsLast r (AreResponded Wide requests) rest ⊎ ((requests ≡ []) × (rest ≡ []) × Wide r.selected)
last_map Open Wide r requests rest to goes (inl q) = inl (q.0, q.1, q.2, q.3, q.4, goes q.3 q.5, q.6)
last_map Open Wide r requests rest to goes (inr q) = inr (q.0, q.1, to r.selected q.2)

way_map : (Open Wide : Option ℕ → Type 0) (r : Requested) (requests : List Requested) (carried : List Sending)
    (ms : List Message) (qs : List Pdu)
    → ((n : Option ℕ) → Open n → Wide n)
    → ((qs : List Pdu) → AreResponded Open requests qs → AreResponded Wide requests qs)
    → SendsOnTheWay r carried ms (λ rest. SendsLast r (AreResponded Open requests) rest
    ⊎ ((requests ≡ []) × (rest ≡ []) × Open r.selected)) qs
    → SendsOnTheWay r carried ms (λ rest. SendsLast r (AreResponded Wide requests) rest
    ⊎ ((requests ≡ []) × (rest ≡ []) × Wide r.selected)) qs
way_map Open Wide r requests carried [] qs to goes q = last_map Open Wide r requests qs to goes q
way_map Open Wide r requests carried (m ∷ ms) qs to goes q = (
  q.0,
  q.1,
  q.2,
  q.3,
  q.4,
  way_map Open Wide r requests q.0 ms q.3 to goes q.5,
  q.6,
)

responded_map : (Open Wide : Option ℕ → Type 0) (requests : List Requested) (ps : List Pdu)
    → ((n : Option ℕ) → Open n → Wide n) → AreResponded Open requests ps → AreResponded Wide requests ps
responded_map Open Wide [] ps to p = p
responded_map Open Wide (r ∷ requests) ps to p = (
  p.0,
  way_map Open Wide r requests r.carried p.0 ps to (λ qs. responded_map Open Wide requests qs to) p.1,
)

call_behind : (now ds : List Deed) → EndsInCall ds → EndsInCall (now ++ ds)
call_behind now ds p = (
  now ++ p.0,
  p.1,
  ap (λ (t : List Deed). now ++ t) p.2
      ∙ sym (append_assoc now p.0 (Ask p.1 ∷ [])),
)

open_behind : (now ds : List Deed) (n : Option ℕ) → IsOpen ds n → IsOpen (now ++ ds) n
open_behind now ds n (inl p) = inl (call_behind now ds p)
open_behind now ds n (inr p) = inr p

-- ---- what a talk has

-- The association was established, and what was agreed stays.
abbrev IsSettled : State → Type 0
IsSettled Sta1 = ⊤
IsSettled Sta2 = ⊥
IsSettled Sta6 = ⊤
IsSettled Sta13 = ⊤

-- It is a C-GET whose sub-operation is awaited.
abbrev IsGetIn : State → Option SubOperation → Type 0
IsGetIn state sub = IfSome sub (λ s. (s.progress.awaited.command.field ≡ C_GET_RQ) × IsSettled state)

abbrev IsGetOf : Option SubOperation → Type 0
IsGetOf sub = IsGetIn Sta6 sub

-- of these deeds each of these requests, behind that of the sub-operation that is awaited, has its responses
abbrev Have : List Context → Option SubOperation → List Reply → List Deed → List Requested → Type 0
Have contexts sub rs ds requests = AreResponded (IsOpen ds) (open_in contexts sub rs requests) (data_in ds)

-- the same behind deeds that send no P-DATA-TF
have_before : (contexts : List Context) (sub : Option SubOperation) (rs : List Reply) (now ds : List Deed)
    (requests : List Requested) → data_in (now ++ ds) ≡ data_in ds → Have contexts sub rs ds requests
    → Have contexts sub rs (now ++ ds) requests
have_before contexts sub rs now ds requests quiet p =
    subst (λ (t : List Pdu). AreResponded (IsOpen (now ++ ds)) (open_in contexts sub rs requests) t) (sym quiet)
    (responded_map (IsOpen ds) (IsOpen (now ++ ds)) (open_in contexts sub rs requests) (data_in ds)
    (open_behind now ds) p)

-- what has its responses, for what is replied
abbrev HaveAll : List Context → Option SubOperation → (List Reply → List Requested → Type 0) → Goes → Type 0
HaveAll contexts sub Asks R = (rs : List Reply) (x : List Deed) → R rs x → (requests : List Requested)
    × Asks rs requests × Have contexts sub rs x requests

abbrev HaveBy : State → List Context → RequestsBy → GoesBy → Type 0
HaveBy state contexts Asks R =
    (next : Option SubOperation) → IsGetIn state next → HaveAll contexts next (Asks next) (R next)

-- messages of a C-GET behind which it goes on
sent_have : (contexts : List Context) (r : Requested) (next : Option SubOperation) (rs : List Reply) (pdus : List Pdu)
    (rest : List Deed) (requests : List Requested) → AreData pdus → Have contexts next rs rest requests
    → ((Open : Option ℕ → Type 0) → AreResponded Open (open_in contexts next rs requests) (data_in rest)
    → AreResponded Open (r ∷ requests) (pdus ++ data_in rest))
    → AreResponded (IsOpen (map Send pdus ++ rest)) (r ∷ requests) (data_in (map Send pdus ++ rest))
sent_have contexts r next rs pdus rest requests are_data p goes =
    subst (λ (t : List Pdu). AreResponded (IsOpen (map Send pdus ++ rest)) (r ∷ requests) t)
    (sym (data_behind pdus rest are_data))
    (goes (IsOpen (map Send pdus ++ rest)) (responded_map (IsOpen rest) (IsOpen (map Send pdus ++ rest))
    (open_in contexts next rs requests) (data_in rest) (open_behind (map Send pdus) rest) p))

tells_have : (a : Awaited) (status : Status) (Asks : List Requested → Type 0) (R : List Deed → Type 0) (ds : List Deed)
    → is_pending status ≡ false
    → ((x : List Deed) → R x → (requests : List Requested) × Asks requests × Have [] None [] x requests)
    → Tells a status R ds
    → (requests : List Requested) × Asks requests × Have [] None [] ds (plain a ∷ requests)
tells_have a status Asks R ds final goes p =
    let q = goes p.2.0 p.2.2 in (
      q.0,
      q.1,
      subst (λ (t : List Deed). Have [] None [] t (plain a ∷ q.0)) (sym p.2.1)
          (sent_have [] (plain a) None [] p.0 p.2.0 q.0 (sending_data _ _ p.0 p.1) q.2
          (λ Open x. way_last Open (plain a) (response_to a status) q.0 p.0 (data_in p.2.0)
          (response_to_is a status false final)
          p.1 x)),
    )

rows_have : (a : Awaited) (kind : RowKind) (rows : List Set) (status : Status) (Asks : List Requested → Type 0)
    (R : List Deed → Type 0) (ds : List Deed) → is_pending kind.status ≡ true → is_pending status ≡ false
    → ((x : List Deed) → R x → (requests : List Requested) × Asks requests × Have [] None [] x requests)
    → TellsRows a kind rows status R ds
    → (requests : List Requested) × Asks requests × Have [] None [] ds (plain a ∷ requests)
rows_have a kind rows status Asks R ds pending final goes p =
    let q = tells_have a status Asks (Then (Reach FindAnswered ∷ []) R) p.2.0 final
    (λ x r. let s = goes r.0 r.2 in (
      s.0,
      s.1,
      subst (λ (t : List Deed). Have [] None [] t s.0) (sym r.1)
          (have_before [] None [] (Reach FindAnswered ∷ []) r.0 s.0 refl s.2),
    )) p.2.2 in (
      q.0,
      q.1,
      subst (λ (t : List Deed). Have [] None [] t (plain a ∷ q.0)) (sym p.2.1)
          (subst (λ (t : List Pdu). AreResponded (IsOpen (map Send p.0 ++ p.2.0)) (plain a ∷ q.0) t)
          (sym (data_behind p.0 p.2.0 (rows_data a kind rows p.0 p.1)))
          (rows_way (IsOpen (map Send p.0 ++ p.2.0)) a kind rows q.0 p.0 (data_in p.2.0) pending p.1
          (responded_map (IsOpen p.2.0) (IsOpen (map Send p.0 ++ p.2.0)) (plain a ∷ q.0) (data_in p.2.0)
          (open_behind (map Send p.0) p.2.0) q.2))),
    )

-- a request whose call has no reply yet
unreplied : (r : Requested) (now : List Deed) (call : Call) (rest : List Deed) → data_in (now ++ Ask call ∷ []) ≡ []
    → rest ≡ [] → Have [] None [] ((now ++ Ask call ∷ []) ++ rest) (r ∷ [])
unreplied r now call rest quiet none =
    let whole : (now ++ Ask call ∷ []) ++ rest ≡ now ++ Ask call ∷ [] = ap (λ (t : List Deed). (now ++ Ask call ∷ [])
    ++ t) none ∙ append-nil (now ++ Ask call ∷ []) in
    subst (λ (t : List Deed). Have [] None [] t (r ∷ [])) (sym whole)
    (subst (λ (t : List Pdu). AreResponded (IsOpen (now ++ Ask call ∷ [])) (r ∷ []) t) (sym quiet)
    (way_open (IsOpen (now ++ Ask call ∷ [])) r (inl (now, call, refl))))

asked_have : (a : Awaited) (content : ContentParts) (Asks : List Reply → List Requested → Type 0) (R : Goes)
    (rs : List Reply) (rest : List Deed) → HaveAll [] None Asks R → FollowsStore a R rs rest
    → (requests : List Requested) × Replied Asks rs requests
    × Have [] None [] (Reach InStore ∷ Ask (Store content) ∷ rest) (plain a ∷ requests)
asked_have a content Asks R [] rest goes p = (
  [],
  refl,
  unreplied (plain a) (Reach InStore ∷ []) (Store content) rest
      refl p,
)
asked_have a content Asks R (Stored reply ∷ rs) rest goes p =
    let q = tells_have a (status_of_reply reply) (Asks rs) (R rs) rest (stored_final reply) (goes rs) p in
    (q.0, q.1, have_before [] None [] (Reach InStore ∷ Ask (Store content) ∷ []) rest (plain a ∷ q.0) refl q.2)
asked_have a content Asks R (Found reply ∷ rs) rest goes p = absurd p
asked_have a content Asks R (Gotten reply ∷ rs) rest goes p = absurd p
asked_have a content Asks R (Loaded reply ∷ rs) rest goes p = absurd p

queried_have : (a : Awaited) (finding : Finding) (kind : RowKind) (Asks : List Reply → List Requested → Type 0)
    (R : Goes) (rs : List Reply) (rest : List Deed) → is_pending kind.status ≡ true → HaveAll [] None Asks R
    → FollowsFind a kind R rs rest
    → (requests : List Requested) × Replied Asks rs requests
    × Have [] None [] (Ask (Find finding) ∷ rest) (plain a ∷ requests)
queried_have a finding kind Asks R [] rest pending goes p =
    ([], refl, unreplied (plain a) [] (Find finding) rest refl p)
queried_have a finding kind Asks R (Found reply ∷ rs) rest pending goes p =
    let q = rows_have a kind (rows_in reply) (status_of_found reply) (Asks rs) (R rs) rest pending (found_final reply)
    (goes rs) p in
    (q.0, q.1, have_before [] None [] (Ask (Find finding) ∷ []) rest (plain a ∷ q.0) refl q.2)
queried_have a finding kind Asks R (Stored reply ∷ rs) rest pending goes p = absurd p
queried_have a finding kind Asks R (Gotten reply ∷ rs) rest pending goes p = absurd p
queried_have a finding kind Asks R (Loaded reply ∷ rs) rest pending goes p = absurd p

-- sub-operations that are left behind one that failed unsent
fails_have : (contexts : List Context) (g : Progress) (left : List Listed) (Asks : List Reply → List Requested → Type 0)
    (R : Goes) (rs : List Reply) (ds : List Deed)
    → ((rs : List Reply) (x : List Deed) → R rs x → (requests : List Requested) × Asks rs requests
    × Have [] None [] x (request_in contexts g left rs ∷ requests))
    → Fails g left R rs ds
    → (requests : List Requested) × Asks rs requests × Have [] None [] ds (request_in contexts g left rs ∷ requests)
fails_have contexts g left Asks R rs ds goes p =
    let q = goes rs p.2.0 p.2.2 in
    let r = request_in contexts g left rs in
    let all = map Send p.0 ++ p.2.0 in (
      q.0,
      q.1,
      subst (λ (t : List Deed). Have [] None [] t (r ∷ q.0)) (sym p.2.1)
          (subst (λ (t : List Pdu). AreResponded (IsOpen all) (r ∷ q.0) t)
          (sym (data_behind p.0 p.2.0 (if_left_data g left p.0 p.1)))
          (left_way (IsOpen all) contexts g left rs q.0 p.0 (data_in p.2.0) p.1
          (responded_map (IsOpen p.2.0) (IsOpen all) (r ∷ q.0) (data_in p.2.0) (open_behind (map Send p.0) p.2.0)
          q.2))),
    )

-- what is done behind a load
loaded_have : (loaded : Option Prepared) (contexts : List Context) (g : Progress) (x : Listed) (left : List Listed)
    (way : Way) (reply : Result ContentParts PortFault) (rs : List Reply)
    (Asks Others : List Reply → List Requested → Type 0) (R R' : Goes) (ds : List Deed) → way_for contexts x ≡ Some way
    → loaded_for x reply ≡ loaded → HaveAll contexts (Some (sending g x left)) Asks R
    → ((rs : List Reply) (y : List Deed) → R' rs y → (requests : List Requested) × Others rs requests
    × Have [] None [] y (request_in contexts (failing g x) left rs ∷ requests))
    → SendsLoaded loaded g way (R rs) (R' rs) ds
    → (requests : List Requested) × RequestsLoaded loaded (Asks rs) (Others rs) requests
    × Have [] None [] ds (request_in contexts g (x ∷ left) (Loaded reply ∷ rs) ∷ requests)
loaded_have None contexts g x left way reply rs Asks Others R R' ds is none sent unsent p =
    let q = unsent rs ds p in (
      q.0,
      q.1,
      subst (λ (r : Requested). Have [] None [] ds (r ∷ q.0)) (unloaded_same contexts g x left way reply rs is none)
          q.2,
    )
loaded_have (Some prepared) contexts g x left way reply rs Asks Others R R' ds is some sent unsent p =
    let q = sent rs p.2.0 p.2.2 in
    let r = request_in contexts g (x ∷ left) (Loaded reply ∷ rs) in (
      q.0,
      q.1,
      subst (λ (t : List Deed). Have [] None [] t (r ∷ q.0)) (sym p.2.1)
          (sent_have contexts r (Some (sending g x left)) rs p.0 p.2.0 q.0 (sending_data _ _ p.0 p.1) q.2
          (λ Open y. subst (λ (k : Requested). AreResponded Open (k ∷ q.0) (p.0 ++ data_in p.2.0))
          (sent_same contexts g x left way reply rs prepared is some)
          (way_carries Open contexts g.awaited (selected_by (sending g x left)) (made (accepts_of contexts) prepared)
          (carried_of contexts left rs) (sub_operation g way prepared) q.0 p.0 (data_in p.2.0)
          (sub_carries contexts g x way reply prepared is some) p.1 y))),
    )

load_have : (contexts : List Context) (g : Progress) (x : Listed) (left : List Listed) (way : Way)
    (Asks Others : List Reply → List Requested → Type 0) (R R' : Goes) (rs : List Reply) (rest : List Deed)
    → way_for contexts x ≡ Some way → HaveAll contexts (Some (sending g x left)) Asks R
    → ((rs : List Reply) (y : List Deed) → R' rs y → (requests : List Requested) × Others rs requests
    × Have [] None [] y (request_in contexts (failing g x) left rs ∷ requests))
    → FollowsLoad g x way R R' rs rest
    → (requests : List Requested) × RepliedLoad x Asks Others rs requests
    × Have [] None [] (Ask (Load x.content) ∷ rest) (request_in contexts g (x ∷ left) rs ∷ requests)
load_have contexts g x left way Asks Others R R' [] rest is sent unsent p =
    ([], refl, unreplied (request_in contexts g (x ∷ left) []) [] (Load x.content) rest refl p)
load_have contexts g x left way Asks Others R R' (Loaded reply ∷ rs) rest is sent unsent p =
    let q = loaded_have (loaded_for x reply) contexts g x left way reply rs Asks Others R R' rest is refl sent unsent p
    in (
      q.0,
      q.1,
      have_before [] None [] (Ask (Load x.content) ∷ []) rest
          (request_in contexts g (x ∷ left) (Loaded reply ∷ rs) ∷ q.0) refl q.2,
    )
load_have contexts g x left way Asks Others R R' (Stored reply ∷ rs) rest is sent unsent p = absurd p
load_have contexts g x left way Asks Others R R' (Found reply ∷ rs) rest is sent unsent p = absurd p
load_have contexts g x left way Asks Others R R' (Gotten reply ∷ rs) rest is sent unsent p = absurd p

loads_have : (way : Option Way) (contexts : List Context) (g : Progress) (x : Listed) (left : List Listed)
    (Asks Others : List Reply → List Requested → Type 0) (R R' : Goes) (rs : List Reply) (ds : List Deed)
    → way_for contexts x ≡ way → HaveAll contexts (Some (sending g x left)) Asks R
    → ((rs : List Reply) (y : List Deed) → R' rs y → (requests : List Requested) × Others rs requests
    × Have [] None [] y (request_in contexts (failing g x) left rs ∷ requests))
    → LoadsBy way g x R R' rs ds
    → (requests : List Requested) × RequestsByWay way x Asks Others rs requests
    × Have [] None [] ds (request_in contexts g (x ∷ left) rs ∷ requests)
loads_have None contexts g x left Asks Others R R' rs ds is sent unsent p =
    let q = unsent rs ds p in (
      q.0,
      q.1,
      subst (λ (r : Requested). Have [] None [] ds (r ∷ q.0)) (unsent_same contexts g x left rs is) q.2,
    )
loads_have (Some way) contexts g x left Asks Others R R' rs ds is sent unsent p =
    let q = load_have contexts g x left way Asks Others R R' rs p.0 is sent unsent p.2 in (
      q.0,
      q.1,
      subst (λ (t : List Deed). Have [] None [] t (request_in contexts g (x ∷ left) rs ∷ q.0)) (sym p.1) q.2,
    )

-- Sub-operations are begun, and behind them stands what is responded then.
begins_have : (contexts : List Context) (g : Progress) (left : List Listed) (Asks : RequestsBy) (R : GoesBy)
    (rs : List Reply) (ds : List Deed) → g.awaited.command.field ≡ C_GET_RQ → HaveBy Sta6 contexts Asks R
    → Begins contexts g left R rs ds
    → (requests : List Requested) × RequestsBegun contexts g left Asks rs requests
    × Have [] None [] ds (request_in contexts g left rs ∷ requests)
begins_have contexts g [] Asks R rs ds is goes p =
    let q = goes None tt rs p.2.0 p.2.2 in
    let body = failed_set g.syntax g.counts.failed in
    let last = counting g (final_status g.counts) None body in (
      q.0,
      q.1,
      subst (λ (t : List Deed). Have [] None [] t (request_in contexts g [] rs ∷ q.0)) (sym p.2.1)
          (sent_have [] (request_in contexts g [] rs) None [] p.0 p.2.0 q.0 (sending_data _ _ p.0 p.1) q.2
          (λ Open x. way_last Open (request_in contexts g [] rs) last q.0 p.0 (data_in p.2.0)
          (counting_is g [] (final_status g.counts) None body false (counts_final g.counts) refl) p.1 x)),
    )
begins_have contexts g (x ∷ left) Asks R rs ds is goes p =
    loads_have (way_for contexts x) contexts g x left (Asks (Some (sending g x left)))
    (RequestsBegun contexts (failing g x) left Asks) (R (Some (sending g x left)))
    (Fails (failing g x) left (Begins contexts (failing g x) left R)) rs ds refl
    (goes (Some (sending g x left)) (is, tt))
    (λ rs' y. fails_have contexts (failing g x) left (RequestsBegun contexts (failing g x) left Asks)
    (Begins contexts (failing g x) left R) rs' y (λ rs'' z. begins_have contexts (failing g x) left Asks R rs'' z is
    goes)) p

few_have : (few : Option (List Listed)) (contexts : List Context) (a : Awaited) (syntax : Syntax) (Asks : RequestsBy)
    (R : GoesBy) (rs : List Reply) (rest : List Deed) → a.command.field ≡ C_GET_RQ → HaveBy Sta6 contexts Asks R
    → BeginsFew contexts a syntax few R (R None) rs rest
    → (requests : List Requested) × FewRequests few contexts a syntax Asks rs requests × Have [] None [] rest requests
few_have None contexts a syntax Asks R rs rest is goes p =
    let q = tells_have a UnableToPerformSubOperations (Asks None rs) (R None rs) rest refl (goes None tt rs) p in
    (plain a ∷ q.0, (q.0, refl, q.1), q.2)
few_have (Some left) contexts a syntax Asks R rs rest is goes p =
    let q = begins_have contexts (setting_out a syntax) left Asks R rs rest is goes p in (
      selecting contexts a (length left) left rs ∷ q.0,
      (q.0, refl, q.1),
      subst (λ (r : Requested). Have [] None [] rest (r ∷ q.0))
          (ap (λ (n : ℕ). selecting contexts a n left rs) (starts_with_all a syntax left)) q.2,
    )

fetched_have : (contexts : List Context) (a : Awaited) (getting : Getting) (syntax : Syntax) (Asks : RequestsBy)
    (R : GoesBy) (rs : List Reply) (rest : List Deed) → a.command.field ≡ C_GET_RQ
    → HaveBy Sta6 contexts Asks R → FollowsGet contexts a syntax R (R None) rs rest
    → (requests : List Requested) × RepliedGet contexts a syntax Asks rs requests
    × Have [] None [] (Ask (Get getting) ∷ rest) requests
fetched_have contexts a getting syntax Asks R [] rest is goes p =
    (plain a ∷ [], refl, unreplied (plain a) [] (Get getting) rest refl p)
fetched_have contexts a getting syntax Asks R (Gotten reply ∷ rs) rest is goes p =
    let q = few_have (few_in reply) contexts a syntax Asks R rs rest is goes p in
    (q.0, q.1, have_before [] None [] (Ask (Get getting) ∷ []) rest q.0 refl q.2)
fetched_have contexts a getting syntax Asks R (Stored reply ∷ rs) rest is goes p = absurd p
fetched_have contexts a getting syntax Asks R (Found reply ∷ rs) rest is goes p = absurd p
fetched_have contexts a getting syntax Asks R (Loaded reply ∷ rs) rest is goes p = absurd p

closed_quiet : (ds : List Deed) → IsOrderly Sta1 ds → data_in ds ≡ []
closed_quiet [] p = refl
closed_quiet (d ∷ ds) p = absurd p.0

-- Once goodbye was said no P-DATA-TF is sent.
gone_quiet : (ds : List Deed) → IsOrderly Sta13 ds → data_in ds ≡ []
gone_quiet [] p = refl
gone_quiet (Send (pdus.PData values) ∷ ds) p = absurd p.0
gone_quiet (Send (pdus.AssociateRq request) ∷ ds) p = absurd p.0
gone_quiet (Send (pdus.AssociateAc accept) ∷ ds) p = absurd p.0
gone_quiet (Send (pdus.AssociateRj reject) ∷ ds) p = absurd p.0
gone_quiet (Send pdus.ReleaseRq ∷ ds) p = absurd p.0
gone_quiet (Send pdus.ReleaseRp ∷ ds) p = absurd p.0
gone_quiet (Send (pdus.Abort source reason) ∷ ds) p = gone_quiet ds p.1
gone_quiet (Reach moment ∷ ds) p = absurd p.0
gone_quiet (Ask call ∷ ds) p = absurd p.0
gone_quiet (Close ∷ ds) p = closed_quiet ds p.1

module _ (titles : List (Title View)) where
  -- behind the local user's abort
  broken_quiet : (w : Within) (us : List Heard) (rs : List Reply) (x : List Deed) → w.state ≡ Sta6
      → Talks titles (met titles w events.LocalAbort) None us rs x → data_in x ≡ []
  broken_quiet w us rs x opened p =
      gone_quiet x (subst (λ (s : State). IsOrderly s x) (ap (λ (s : State). next_of s (kind_for titles
      events.LocalAbort)) opened) (orderly titles (met titles w events.LocalAbort) None us rs x p))

  -- one request more
  more : (ds now rest : List Deed) (a : Awaited) (Asks : List Requested → Type 0) → ds ≡ now ++ rest
      → (requests : List Requested) × Asks requests × Have [] None [] (now ++ rest) (plain a ∷ requests)
      → (requests : List Requested) × Precedes (plain a) Asks requests × Have [] None [] ds requests
  more ds now rest a Asks is q = (
    plain a ∷ q.0,
    (q.0, refl, q.1),
    subst (λ (t : List Deed). Have [] None [] t (plain a ∷ q.0)) (sym is)
        q.2,
  )

  does_have : (w : Within) (m : Message) (service : Service) (Asks : RequestsBy)
      (Gone : List Reply → List Requested → Type 0) (R : GoesBy) (R' : Goes) (rs : List Reply) (ds : List Deed)
      → Serves w m service → HaveBy Sta6 w.link.contexts Asks R → HaveAll [] None Gone R'
      → Does service w.link.contexts (awaiting w.link m) (row titles w.state events.LocalAbort) R R' rs ds
      → (requests : List Requested) × RequestFor service w.link.contexts (awaiting w.link m) Asks Gone rs requests
      × Have [] None [] ds requests
  does_have w m Ignored Asks Gone R R' rs ds serves goes gone p = goes None tt rs ds p
  does_have w m Broken Asks Gone R R' rs ds serves goes gone p =
      let q = gone rs p.0 p.2 in (
        q.0,
        q.1,
        subst (λ (t : List Deed). Have [] None [] t q.0) (sym p.1) (have_before [] None [] (row titles w.state
            events.LocalAbort) p.0 q.0 (row_quiet titles w.state events.LocalAbort p.0) q.2),
      )
  does_have w m (Responded status) Asks Gone R R' rs ds serves goes gone p =
      more ds [] ds (awaiting w.link m) (Asks None rs) refl (tells_have (awaiting w.link m) status (Asks None rs)
      (R None rs) ds (served_final w m status serves) (goes None tt rs) p)
  does_have w m (Asked content) Asks Gone R R' rs ds serves goes gone p =
      more ds (Reach InStore ∷ Ask (Store content) ∷ []) p.0 (awaiting w.link m) (Replied (Asks None) rs) p.1
      (asked_have (awaiting w.link m) content (Asks None) (R None) rs p.0 (goes None tt) p.2)
  does_have w m (Queried finding kind) Asks Gone R R' rs ds serves goes gone p =
      more ds (Ask (Find finding) ∷ []) p.0 (awaiting w.link m) (Replied (Asks None) rs) p.1
      (queried_have (awaiting w.link m) finding kind (Asks None) (R None) rs p.0 (served_pending w m finding kind
      serves) (goes None tt) p.2)
  does_have w m (Fetched getting syntax) Asks Gone R R' rs ds serves goes gone p =
      let q = fetched_have w.link.contexts (awaiting w.link m) getting syntax Asks R rs p.0
      (served_get w m getting syntax serves) goes p.2 in
      (q.0, q.1, subst (λ (t : List Deed). Have [] None [] t q.0) (sym p.1) q.2)

  by_have : (cancelled : Bool) (contexts : List Context) (g : Progress) (left : List Listed) (pdus : List Pdu)
      (next : Option Retrieval) (Asks : RequestsBy) (R : GoesBy) (rs : List Reply) (ds : List Deed)
      → g.awaited.command.field ≡ C_GET_RQ → RespondsBy cancelled g left pdus next → HaveBy Sta6 contexts Asks R
      → Then (map Send pdus) (GoesOnBy next contexts R rs) ds
      → (requests : List Requested) × RequestsBehind cancelled contexts g left Asks rs requests
      × Have [] None [] ds (request_in contexts g left rs ∷ requests)
  by_have true contexts g left pdus next Asks R rs ds is told goes p =
      let body = failed_set g.syntax g.counts.failed in
      let r = request_in contexts g left rs in
      let q = goes None tt rs p.0 (subst (λ (n : Option Retrieval). GoesOnBy n contexts R rs p.0) told.1 p.2) in (
        q.0,
        q.1,
        subst (λ (t : List Deed). Have [] None [] t (r ∷ q.0)) (sym p.1)
            (sent_have [] r None [] pdus p.0 q.0 (sending_data _ _ pdus told.0) q.2
            (λ Open x. way_last Open r (counting g Cancel (Some (length left)) body) q.0 pdus
            (data_in p.0) (counting_is g left Cancel (Some (length left)) body false refl refl) told.0 x)),
      )
  by_have false contexts g left pdus next Asks R rs ds is told goes p =
      let q = begins_have contexts g left Asks R rs p.0 is goes
      (subst (λ (n : Option Retrieval). GoesOnBy n contexts R rs p.0) told.1 p.2) in
      let r = request_in contexts g left rs in
      let all = map Send pdus ++ p.0 in (
        q.0,
        q.1,
        subst (λ (t : List Deed). Have [] None [] t (r ∷ q.0)) (sym p.1)
            (subst (λ (t : List Pdu). AreResponded (IsOpen all) (r ∷ q.0) t)
            (sym (data_behind pdus p.0 (responds_by_data false g left pdus next told)))
            (left_way (IsOpen all) contexts g left rs q.0 pdus (data_in p.0) told.0
            (responded_map (IsOpen p.0) (IsOpen all) (r ∷ q.0) (data_in p.0) (open_behind (map Send pdus) p.0) q.2))),
      )

  performs_have : (w : Within) (meaning : Meaning) (sub : SubOperation) (Asks : RequestsBy)
      (Gone : List Reply → List Requested → Type 0) (R : GoesBy) (R' : Goes) (rs : List Reply) (ds : List Deed)
      → IsGetOf (Some sub) → HaveBy Sta6 w.link.contexts Asks R → HaveAll [] None Gone R'
      → ((rs : List Reply) (x : List Deed) → R' rs x → data_in x ≡ [])
      → Performs meaning sub w.link.contexts (row titles w.state events.LocalAbort) R R' rs ds
      → (requests : List Requested) × RequestWithin meaning sub w.link.contexts Asks Gone rs requests
      × Have w.link.contexts (Some sub) rs ds requests
  performs_have w Cancelled sub Asks Gone R R' rs ds is goes gone quiet p = goes (Some (cancelling sub)) is rs ds p
  performs_have w Unawaited sub Asks Gone R R' rs ds is goes gone quiet p =
      let no_data : data_in ds ≡ [] = ap data_in p.1 ∙ row_quiet titles w.state events.LocalAbort p.0
      ∙ quiet rs p.0 p.2 in (
        [],
        refl,
        subst (λ (t : List Pdu). AreResponded (IsOpen ds) (open_in w.link.contexts (Some sub) rs []) t)
            (sym no_data) (way_open (IsOpen ds) (selecting w.link.contexts sub.progress.awaited (selected_by sub)
            sub.left rs) (inr refl)),
      )
  performs_have w (Performed outcome) sub Asks Gone R R' rs ds is goes gone quiet p =
      let q = by_have sub.cancelled w.link.contexts (performed sub outcome) sub.left p.0 p.1 Asks R rs ds is.0 p.2
      goes p.3 in (
        q.0,
        q.1,
        subst (λ (r : Requested). Have [] None [] ds (r ∷ q.0)) (performed_same w.link.contexts sub outcome rs) q.2,
      )

  attends_have : (sub : Option SubOperation) (w : Within) (m : Message) (us : List Heard) (rs : List Reply)
      (ds : List Deed) → w.state ≡ Sta6 → IsGetOf sub
      → HaveBy Sta6 w.link.contexts (λ next. Requests titles w next us) (λ next. Talks titles w next us)
      → HaveAll [] None (Requests titles (met titles w events.LocalAbort) None us)
      (Talks titles (met titles w events.LocalAbort) None us)
      → Attends sub w m (row titles w.state events.LocalAbort) (λ next. Talks titles w next us)
      (Talks titles (met titles w events.LocalAbort) None us) rs ds
      → (requests : List Requested) × RequestOf sub w m (λ next. Requests titles w next us)
      (Requests titles (met titles w events.LocalAbort) None us) rs requests × Have w.link.contexts sub rs ds requests
  attends_have None w m us rs ds opened is goes gone p =
      let q = does_have w m p.0 (λ next. Requests titles w next us) (Requests titles (met titles w events.LocalAbort)
      None us) (λ next. Talks titles w next us) (Talks titles (met titles w events.LocalAbort) None us) rs ds p.1 goes
      gone p.2 in
      (q.0, (p.0, p.1, q.1), q.2)
  attends_have (Some sub) w m us rs ds opened is goes gone p =
      performs_have w (meaning_of sub.progress m.command) sub (λ next. Requests titles w next us)
      (Requests titles (met titles w events.LocalAbort) None us) (λ next. Talks titles w next us)
      (Talks titles (met titles w events.LocalAbort) None us) rs ds is goes gone
      (λ rs' x. broken_quiet w us rs' x opened) p

  said_have : (s : State) (sub : Option SubOperation) (w : Within) (m : Message) (us : List Heard) (rs : List Reply)
      (ds : List Deed) → w.state ≡ s → IsGetIn s sub
      → HaveBy s w.link.contexts (λ next. Requests titles w next us) (λ next. Talks titles w next us)
      → HaveAll [] None (Requests titles (met titles w events.LocalAbort) None us)
      (Talks titles (met titles w events.LocalAbort) None us)
      → InState s (Attends sub w m (row titles w.state events.LocalAbort) (λ next. Talks titles w next us)
      (Talks titles (met titles w events.LocalAbort) None us)) (Talks titles w sub us) rs ds
      → (requests : List Requested) × RequestIn s (RequestOf sub w m (λ next. Requests titles w next us)
      (Requests titles (met titles w events.LocalAbort) None us)) (Requests titles w sub us) rs requests
      × Have w.link.contexts sub rs ds requests
  said_have Sta1 sub w m us rs ds opened is goes gone p = goes sub is rs ds p
  said_have Sta2 sub w m us rs ds opened is goes gone p = goes sub is rs ds p
  said_have Sta6 sub w m us rs ds opened is goes gone p = attends_have sub w m us rs ds opened is goes gone p
  said_have Sta13 sub w m us rs ds opened is goes gone p = goes sub is rs ds p

  none_have : (state : State) (contexts : List Context) (sub : Option SubOperation) (rs : List Reply)
      → IsGetIn state sub → Have contexts sub rs [] []
  none_have state contexts None rs is = refl
  none_have state contexts (Some sub) rs is =
      way_open (IsOpen []) (selecting contexts sub.progress.awaited (selected_by sub) sub.left rs) (inr refl)

  -- What was agreed stays,
  still_asked : (state : State) (request : Request) (r : Result View Reject) → value_for titles request ≡ r
      → IsSettled state → IsSettled (next_of state (kind_for titles (events.Got (pdus.AssociateRq request))))
  still_asked Sta1 request r e is = tt
  still_asked Sta2 request r e is = absurd is
  still_asked Sta6 request (Ok v) e is = rw e tt
  still_asked Sta6 request (Err reject) e is = rw e tt
  still_asked Sta13 request (Ok v) e is = rw e tt
  still_asked Sta13 request (Err reject) e is = rw e tt

  still_settled : (state : State) (event : Event) → IsSettled state → IsSettled (next_of state (kind_for titles event))
  still_settled Sta1 event is = tt
  still_settled Sta2 event is = absurd is
  still_settled Sta6 (events.Got (pdus.AssociateRq request)) is =
      still_asked Sta6 request (value_for titles request) refl is
  still_settled Sta6 (events.Got (pdus.AssociateAc accept)) is = tt
  still_settled Sta6 (events.Got (pdus.AssociateRj reject)) is = tt
  still_settled Sta6 (events.Got (pdus.PData values)) is = tt
  still_settled Sta6 (events.Got pdus.ReleaseRq) is = tt
  still_settled Sta6 (events.Got pdus.ReleaseRp) is = tt
  still_settled Sta6 (events.Got (pdus.Abort source reason)) is = tt
  still_settled Sta6 (events.Bad faults.UnknownType) is = tt
  still_settled Sta6 (events.Bad faults.BadLength) is = tt
  still_settled Sta6 (events.Bad faults.BadItem) is = tt
  still_settled Sta6 (events.Bad faults.TooLong) is = tt
  still_settled Sta6 (events.Bad faults.Memory) is = tt
  still_settled Sta6 events.Ended is = tt
  still_settled Sta6 events.LocalAbort is = tt
  still_settled Sta13 (events.Got (pdus.AssociateRq request)) is =
      still_asked Sta13 request (value_for titles request) refl is
  still_settled Sta13 (events.Got (pdus.AssociateAc accept)) is = tt
  still_settled Sta13 (events.Got (pdus.AssociateRj reject)) is = tt
  still_settled Sta13 (events.Got (pdus.PData values)) is = tt
  still_settled Sta13 (events.Got pdus.ReleaseRq) is = tt
  still_settled Sta13 (events.Got pdus.ReleaseRp) is = tt
  still_settled Sta13 (events.Got (pdus.Abort source reason)) is = tt
  still_settled Sta13 (events.Bad faults.UnknownType) is = tt
  still_settled Sta13 (events.Bad faults.BadLength) is = tt
  still_settled Sta13 (events.Bad faults.BadItem) is = tt
  still_settled Sta13 (events.Bad faults.TooLong) is = tt
  still_settled Sta13 (events.Bad faults.Memory) is = tt
  still_settled Sta13 events.Ended is = tt
  still_settled Sta13 events.LocalAbort is = tt

  agreed_before : (state later : State) (limit : ℕ) (settled : Option (Settled View)) (link : Link)
      → IsSettled state → agreed_by (opens state later) limit settled link ≡ link
  agreed_before Sta1 later limit settled link is = refl
  agreed_before Sta2 later limit settled link is = absurd is
  agreed_before Sta6 later limit settled link is = refl
  agreed_before Sta13 later limit settled link is = refl

  -- also where a sub-operation is awaited.
  get_met : (w : Within) (event : Event) (sub : Option SubOperation) → IsGetIn w.state sub
      → IsGetIn (met titles w event).state sub
  get_met w event None is = tt
  get_met w event (Some sub) is = (is.0, still_settled w.state event is.1)

  have_met : (w : Within) (event : Event) (sub : Option SubOperation) (rs : List Reply) (ds : List Deed)
      (requests : List Requested) → IsGetIn w.state sub → Have (met titles w event).link.contexts sub rs ds requests
      → Have w.link.contexts sub rs ds requests
  have_met w event None rs ds requests is p = p
  have_met w event (Some sub) rs ds requests is p =
      subst (λ (l : Link). Have l.contexts (Some sub) rs ds requests) (agreed_before w.state (next_of w.state (kind_for
      titles event)) (limit_in event) (settled_by w.state titles event w.settled) w.link is.1) p

  pub responded : (us : List Heard) (w : Within) (sub : Option SubOperation) (rs : List Reply) (ds : List Deed)
      → IsGetIn w.state sub → Talks titles w sub us rs ds → HasResponses titles w sub us rs ds
  responded [] w sub rs ds is p = (
    [],
    refl,
    subst (λ (t : List Deed). Have w.link.contexts sub rs t []) (sym p)
        (none_have w.state w.link.contexts sub rs is),
  )
  responded (Met event ∷ us) w sub rs ds is p =
      let q = responded us (met titles w event) sub rs p.0 (get_met w event sub is) p.2 in (
        q.0,
        q.1,
        subst (λ (t : List Deed). Have w.link.contexts sub rs t q.0) (sym p.1) (have_before w.link.contexts sub rs
            (row titles w.state event) p.0 q.0 (row_quiet titles w.state event p.0)
            (have_met w event sub rs p.0 q.0 is q.2)),
      )
  responded (Said m ∷ us) w sub rs ds is p = said_have w.state sub w m us rs ds refl is
      (λ next get rs' x. responded us w next rs' x get)
      (λ rs' x. responded us (met titles w events.LocalAbort) None rs' x tt) p
