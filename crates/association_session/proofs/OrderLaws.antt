-- Each list of deeds is orderly, and behind a call nothing is done before its reply.
use Rattle.std.proofs.Common.{◌≡◌, List, [], ◌∷◌, ◌++◌, map, Option, Some, None, Result, Ok, Err, refl, sym}
use Rattle.std.proofs.Common.{subst}
use Rattle.pdu.specs.declared.request.Request.{Request}
use Rattle.pdu.specs.declared.reject.Reject.{Reject}
use Rattle.pdu.specs.declared.value.Pdu.{Pdu}
use Rattle.pdu.specs.declared.value.Pdu.TheVariants as pdus
use Rattle.pdu.specs.declared.fault.PduFault.TheVariants as faults
use Rattle.ul_state.specs.declared.event.Action.{Action}
use Rattle.ul_state.specs.declared.event.Action.TheVariants as actions
use Rattle.ul_state.specs.declared.event.Event.{Event}
use Rattle.ul_state.specs.declared.event.Event.TheVariants as events
use Rattle.ul_state.specs.declared.table.State.{State}
use Rattle.ul_state.specs.declared.table.State.TheVariants.{Sta1, Sta2, Sta6, Sta13}
use Rattle.ul_state.specs.declared.titles.Title.{Title}
use Rattle.ul_state.specs.Decision.{value_for}
use Rattle.ul_state.specs.Table.{next_of}
use Rattle.ul_state.specs.Acceptor.{action_on, kind_for}
use Rattle.dimse.specs.declared.message.Message.{Message}
use Rattle.dimse.specs.declared.status.Status.{Status}
use Rattle.association_services.specs.declared.call.Call.TheVariants.{Store, Find, Get, Load}
use Rattle.association_session.specs.declared.deed.Deed.{Deed}
use Rattle.association_session.specs.declared.deed.Deed.TheVariants.{Send, Reach, Ask}
use Rattle.association_session.specs.declared.deed.Moment.TheVariants.{InStore, FindAnswered}
use Rattle.association_services.specs.declared.call.Finding.{Finding}
use Rattle.association_services.specs.declared.service.RowKind.{RowKind}
use Rattle.data_set.specs.Set.{Set}
use Rattle.operation.specs.Parts.{ContentParts}
use Rattle.association_services.specs.declared.reply.Reply.{Reply}
use Rattle.association_services.specs.declared.reply.Reply.TheVariants.{Stored, Found, Gotten, Loaded}
use Rattle.association_services.specs.declared.service.Service.{Service}
use Rattle.association_services.specs.declared.service.Service.TheVariants.{Ignored, Broken, Responded, Asked}
use Rattle.association_services.specs.declared.service.Service.TheVariants.{Queried, Fetched}
use Rattle.association_services.specs.Find.{rows_in, status_of_found}
use Rattle.association_services.proofs.DataLaws.{AreData, sending_data, rows_data, if_left_data, responds_by_data}
use Rattle.association_session.proofs.DataLaws.{data_orderly}
use Rattle.association_session.specs.Order.{IsOrderly, IsReplied}
use Rattle.association_services.specs.Response.{Awaited}
use Rattle.association_services.specs.Retrieval.{few_in, setting_out, way_for, loaded_for, failing, sending}
use Rattle.association_services.specs.Retrieval.{sub_operation}
use Rattle.association_services.specs.Retrieval.{meaning_of, performed, cancelling, RespondsIfLeft, RespondsEnd}
use Rattle.association_services.specs.SubOperation.{Retrieval, SubOperation}
use Rattle.association_services.specs.declared.call.Getting.{Getting}
use Rattle.association_services.specs.declared.retrieval.Meaning.{Meaning}
use Rattle.association_services.specs.declared.retrieval.Meaning.TheVariants.{Cancelled, Performed, Unawaited}
use Rattle.association_services.specs.declared.retrieval.Progress.{Progress}
use Rattle.data_set.specs.declared.syntax.Syntax.{Syntax}
use Rattle.dimse.specs.declared.status.Status.TheVariants.{UnableToPerformSubOperations}
use Rattle.pdu.specs.declared.context.Context.{Context}
use Rattle.archive_model.specs.declared.listed.Listed.{Listed}
use Rattle.archive_model.specs.declared.prepared.Prepared.{Prepared}
use Rattle.association_services.specs.declared.way.Way.{Way}
use Rattle.dimse.specs.Sending.{IsSending}
use Rattle.association_session.specs.Row.{Within, row, met, deeds_of}
use Rattle.association_services.specs.Store.{status_of_reply}
use Rattle.association_session.specs.Talks.{Heard, Met, Said, Goes, GoesBy, Then, Tells, TellsRows, FollowsStore}
use Rattle.association_session.specs.Talks.{FollowsFind}
use Rattle.association_session.specs.Talks.{Sends, SendsLoaded, FollowsLoad, Fails, LoadsBy, Begins, FollowsGet}
use Rattle.association_session.specs.Talks.{BeginsFew}
use Rattle.association_session.specs.Talks.{Does, InState, GoesOnBy, Performs}
use Rattle.association_session.specs.Talks.{Attends, Talks}
use Rattle.association_session.specs.Talks.{awaiting}
use Rattle.archive_model.specs.declared.view.View.{View}

-- ---- orderly deeds

request_orderly : (s : State) (titles : List (Title View)) (request : Request) (r : Result View Reject)
    (rest : List Deed) → value_for titles request ≡ r
    → IsOrderly (next_of s (kind_for titles (events.Got (pdus.AssociateRq request)))) rest
    → IsOrderly s (row titles s (events.Got (pdus.AssociateRq request)) ++ rest)
request_orderly Sta1 titles request r rest e p = p
request_orderly Sta2 titles request (Ok v) rest e p = let q = rw e at p in rw e (tt, q)
request_orderly Sta2 titles request (Err reject) rest e p = let q = rw e at p in rw e (rw e (tt, q))
request_orderly Sta6 titles request (Ok v) rest e p = let q = rw e at p in rw e (tt, q)
request_orderly Sta6 titles request (Err reject) rest e p = let q = rw e at p in rw e (tt, q)
request_orderly Sta13 titles request (Ok v) rest e p = let q = rw e at p in rw e (tt, q)
request_orderly Sta13 titles request (Err reject) rest e p = let q = rw e at p in rw e (tt, q)

-- a row's deeds, and then orderly ones
row_orderly : (titles : List (Title View)) (s : State) (event : Event) (rest : List Deed)
    → IsOrderly (next_of s (kind_for titles event)) rest → IsOrderly s (row titles s event ++ rest)
row_orderly titles Sta1 event rest p = p
row_orderly titles Sta2 (events.Got (pdus.AssociateRq request)) rest p = request_orderly Sta2 titles
    request (value_for titles request) rest refl p
row_orderly titles Sta2 (events.Got (pdus.AssociateAc accept)) rest p = (tt, p)
row_orderly titles Sta2 (events.Got (pdus.AssociateRj reject)) rest p = (tt, p)
row_orderly titles Sta2 (events.Got (pdus.PData values)) rest p = (tt, p)
row_orderly titles Sta2 (events.Got pdus.ReleaseRq) rest p = (tt, p)
row_orderly titles Sta2 (events.Got pdus.ReleaseRp) rest p = (tt, p)
row_orderly titles Sta2 (events.Got (pdus.Abort source reason)) rest p = (tt, p)
row_orderly titles Sta2 (events.Bad faults.UnknownType) rest p = (tt, p)
row_orderly titles Sta2 (events.Bad faults.BadLength) rest p = (tt, p)
row_orderly titles Sta2 (events.Bad faults.BadItem) rest p = (tt, p)
row_orderly titles Sta2 (events.Bad faults.TooLong) rest p = (tt, p)
row_orderly titles Sta2 (events.Bad faults.Memory) rest p = (tt, p)
row_orderly titles Sta2 events.Ended rest p = (tt, p)
row_orderly titles Sta2 events.LocalAbort rest p = p
row_orderly titles Sta6 (events.Got (pdus.AssociateRq request)) rest p = request_orderly Sta6 titles
    request (value_for titles request) rest refl p
row_orderly titles Sta6 (events.Got (pdus.AssociateAc accept)) rest p = (tt, p)
row_orderly titles Sta6 (events.Got (pdus.AssociateRj reject)) rest p = (tt, p)
row_orderly titles Sta6 (events.Got (pdus.PData values)) rest p = p
row_orderly titles Sta6 (events.Got pdus.ReleaseRq) rest p = (tt, p)
row_orderly titles Sta6 (events.Got pdus.ReleaseRp) rest p = (tt, p)
row_orderly titles Sta6 (events.Got (pdus.Abort source reason)) rest p = (tt, p)
row_orderly titles Sta6 (events.Bad faults.UnknownType) rest p = (tt, p)
row_orderly titles Sta6 (events.Bad faults.BadLength) rest p = (tt, p)
row_orderly titles Sta6 (events.Bad faults.BadItem) rest p = (tt, p)
row_orderly titles Sta6 (events.Bad faults.TooLong) rest p = (tt, p)
row_orderly titles Sta6 (events.Bad faults.Memory) rest p = (tt, p)
row_orderly titles Sta6 events.Ended rest p = (tt, p)
row_orderly titles Sta6 events.LocalAbort rest p = (tt, p)
row_orderly titles Sta13 (events.Got (pdus.AssociateRq request)) rest p = request_orderly Sta13 titles
    request (value_for titles request) rest refl p
row_orderly titles Sta13 (events.Got (pdus.AssociateAc accept)) rest p = p
row_orderly titles Sta13 (events.Got (pdus.AssociateRj reject)) rest p = p
row_orderly titles Sta13 (events.Got (pdus.PData values)) rest p = p
row_orderly titles Sta13 (events.Got pdus.ReleaseRq) rest p = p
row_orderly titles Sta13 (events.Got pdus.ReleaseRp) rest p = p
row_orderly titles Sta13 (events.Got (pdus.Abort source reason)) rest p = (tt, p)
row_orderly titles Sta13 (events.Bad faults.UnknownType) rest p = (tt, p)
row_orderly titles Sta13 (events.Bad faults.BadLength) rest p = (tt, p)
row_orderly titles Sta13 (events.Bad faults.BadItem) rest p = (tt, p)
row_orderly titles Sta13 (events.Bad faults.TooLong) rest p = (tt, p)
row_orderly titles Sta13 (events.Bad faults.Memory) rest p = (tt, p)
row_orderly titles Sta13 events.Ended rest p = (tt, p)
row_orderly titles Sta13 events.LocalAbort rest p = p

tells_orderly : (awaited : Awaited) (status : Status) (R : List Deed → Type 0) (a : List Deed)
    → ((x : List Deed) → R x → IsOrderly Sta6 x) → Tells awaited status R a → IsOrderly Sta6 a
tells_orderly awaited status R a goes p =
    subst (λ (t : List Deed). IsOrderly Sta6 t) (sym p.2.1)
    (data_orderly p.0 p.2.0 (sending_data _ _ p.0 p.1) (goes p.2.0 p.2.2))

reach_orderly : (R : List Deed → Type 0) (a : List Deed) → ((x : List Deed) → R x → IsOrderly Sta6 x)
    → Then (Reach FindAnswered ∷ []) R a → IsOrderly Sta6 a
reach_orderly R a goes p = subst (λ (t : List Deed). IsOrderly Sta6 t) (sym p.1) (tt, goes p.0 p.2)

rows_orderly : (awaited : Awaited) (kind : RowKind) (rows : List Set) (status : Status) (R : List Deed → Type 0)
    (a : List Deed) → ((x : List Deed) → R x → IsOrderly Sta6 x) → TellsRows awaited kind rows status R a
    → IsOrderly Sta6 a
rows_orderly awaited kind rows status R a goes p =
    subst (λ (t : List Deed). IsOrderly Sta6 t) (sym p.2.1)
    (data_orderly p.0 p.2.0 (rows_data awaited kind rows p.0 p.1) (tells_orderly awaited status
    (Then (Reach FindAnswered ∷ []) R) p.2.0 (λ x. reach_orderly R x goes) p.2.2))

store_orderly : (awaited : Awaited) (R : Goes) (rs : List Reply) (a : List Deed) → ((rs : List Reply) (x : List Deed)
    → R rs x → IsOrderly Sta6 x) → FollowsStore awaited R rs a → IsOrderly Sta6 a
store_orderly awaited R [] a goes p = subst (λ (t : List Deed). IsOrderly Sta6 t) (sym p) tt
store_orderly awaited R (Stored reply ∷ rs) a goes p = tells_orderly awaited (status_of_reply reply) (R rs)
    a (goes rs) p
store_orderly awaited R (Found reply ∷ rs) a goes p = absurd p
store_orderly awaited R (Gotten reply ∷ rs) a goes p = absurd p
store_orderly awaited R (Loaded reply ∷ rs) a goes p = absurd p

find_orderly : (awaited : Awaited) (kind : RowKind) (R : Goes) (rs : List Reply) (a : List Deed)
    → ((rs : List Reply) (x : List Deed) → R rs x → IsOrderly Sta6 x) → FollowsFind awaited kind R rs a
    → IsOrderly Sta6 a
find_orderly awaited kind R [] a goes p = subst (λ (t : List Deed). IsOrderly Sta6 t) (sym p) tt
find_orderly awaited kind R (Found reply ∷ rs) a goes p = rows_orderly awaited kind (rows_in reply)
    (status_of_found reply) (R rs) a (goes rs) p
find_orderly awaited kind R (Stored reply ∷ rs) a goes p = absurd p
find_orderly awaited kind R (Gotten reply ∷ rs) a goes p = absurd p
find_orderly awaited kind R (Loaded reply ∷ rs) a goes p = absurd p

-- what goes on is orderly, whichever sub-operation is awaited
abbrev OrderlyBy : State → GoesBy → Type 0
OrderlyBy s R = (next : Option SubOperation) (rs : List Reply) (x : List Deed) → R next rs x → IsOrderly s x

abbrev OrderlyGone : State → Goes → Type 0
OrderlyGone s R = (rs : List Reply) (x : List Deed) → R rs x → IsOrderly s x

sends_orderly : (Are : List Pdu → Type 0) (R : List Deed → Type 0) (a : List Deed)
    → ((ps : List Pdu) → Are ps → AreData ps) → ((x : List Deed) → R x → IsOrderly Sta6 x) → Sends Are R a
    → IsOrderly Sta6 a
sends_orderly Are R a are_data goes p =
    subst (λ (t : List Deed). IsOrderly Sta6 t) (sym p.2.1)
    (data_orderly p.0 p.2.0 (are_data p.0 p.1) (goes p.2.0 p.2.2))

loaded_orderly : (loaded : Option Prepared) (g : Progress) (way : Way) (R R' : List Deed → Type 0) (a : List Deed)
    → ((x : List Deed) → R x → IsOrderly Sta6 x) → ((x : List Deed) → R' x → IsOrderly Sta6 x)
    → SendsLoaded loaded g way R R' a → IsOrderly Sta6 a
loaded_orderly None g way R R' a sent unsent p = unsent a p
loaded_orderly (Some prepared) g way R R' a sent unsent p =
    sends_orderly (IsSending (sub_operation g way prepared) g.awaited.limit) R a
    (sending_data (sub_operation g way prepared) g.awaited.limit) sent p

load_orderly : (g : Progress) (l : Listed) (way : Way) (R R' : Goes) (rs : List Reply) (a : List Deed)
    → OrderlyGone Sta6 R → OrderlyGone Sta6 R' → FollowsLoad g l way R R' rs a → IsOrderly Sta6 a
load_orderly g l way R R' [] a sent unsent p = subst (λ (t : List Deed). IsOrderly Sta6 t) (sym p) tt
load_orderly g l way R R' (Loaded reply ∷ rs) a sent unsent p =
    loaded_orderly (loaded_for l reply) g way (R rs) (R' rs) a (sent rs) (unsent rs) p
load_orderly g l way R R' (Stored reply ∷ rs) a sent unsent p = absurd p
load_orderly g l way R R' (Found reply ∷ rs) a sent unsent p = absurd p
load_orderly g l way R R' (Gotten reply ∷ rs) a sent unsent p = absurd p

loads_orderly : (way : Option Way) (g : Progress) (l : Listed) (R R' : Goes) (rs : List Reply) (a : List Deed)
    → OrderlyGone Sta6 R → OrderlyGone Sta6 R' → LoadsBy way g l R R' rs a → IsOrderly Sta6 a
loads_orderly None g l R R' rs a sent unsent p = unsent rs a p
loads_orderly (Some way) g l R R' rs a sent unsent p = subst (λ (t : List Deed). IsOrderly Sta6 t) (sym p.1)
    (tt, load_orderly g l way R R' rs p.0 sent unsent p.2)

fails_orderly : (g : Progress) (left : List Listed) (R : Goes) → OrderlyGone Sta6 R
    → OrderlyGone Sta6 (Fails g left R)
fails_orderly g left R goes rs a p =
    sends_orderly (RespondsIfLeft g left) (R rs) a (if_left_data g left) (goes rs) p

begins_orderly : (contexts : List Context) (g : Progress) (left : List Listed) (R : GoesBy) → OrderlyBy Sta6 R
    → OrderlyGone Sta6 (Begins contexts g left R)
begins_orderly contexts g [] R goes rs a p =
    sends_orderly (RespondsEnd g) (R None rs) a (λ ps. sending_data _ _ ps) (goes None rs) p
begins_orderly contexts g (l ∷ left) R goes rs a p =
    loads_orderly (way_for contexts l) g l (R (Some (sending g l left)))
    (Fails (failing g l) left (Begins contexts (failing g l) left R)) rs a (goes (Some (sending g l left)))
    (fails_orderly (failing g l) left (Begins contexts (failing g l) left R)
    (begins_orderly contexts (failing g l) left R goes)) p

few_orderly : (few : Option (List Listed)) (contexts : List Context) (awaited : Awaited) (syntax : Syntax) (R : GoesBy)
    (R' : Goes) (rs : List Reply) (a : List Deed) → OrderlyBy Sta6 R → OrderlyGone Sta6 R'
    → BeginsFew contexts awaited syntax few R R' rs a → IsOrderly Sta6 a
few_orderly None contexts awaited syntax R R' rs a goes refused p = tells_orderly awaited UnableToPerformSubOperations
    (R' rs) a (refused rs) p
few_orderly (Some left) contexts awaited syntax R R' rs a goes refused p =
    begins_orderly contexts (setting_out awaited syntax) left R goes rs a p

get_orderly : (contexts : List Context) (awaited : Awaited) (syntax : Syntax) (R : GoesBy) (rs : List Reply)
    (a : List Deed) → OrderlyBy Sta6 R → FollowsGet contexts awaited syntax R (R None) rs a → IsOrderly Sta6 a
get_orderly contexts awaited syntax R [] a goes p = subst (λ (t : List Deed). IsOrderly Sta6 t) (sym p) tt
get_orderly contexts awaited syntax R (Gotten reply ∷ rs) a goes p =
    few_orderly (few_in reply) contexts awaited syntax R (R None) rs a goes (goes None) p
get_orderly contexts awaited syntax R (Stored reply ∷ rs) a goes p = absurd p
get_orderly contexts awaited syntax R (Found reply ∷ rs) a goes p = absurd p
get_orderly contexts awaited syntax R (Loaded reply ∷ rs) a goes p = absurd p

does_orderly : (titles : List (Title View)) (service : Service) (contexts : List Context) (awaited : Awaited)
    (R : GoesBy) (R' : Goes) (rs : List Reply) (a : List Deed) → OrderlyBy Sta6 R → OrderlyGone Sta13 R'
    → Does service contexts awaited (row titles Sta6 events.LocalAbort) R R' rs a → IsOrderly Sta6 a
does_orderly titles Ignored contexts awaited R R' rs a goes gone p = goes None rs a p
does_orderly titles Broken contexts awaited R R' rs a goes gone p = subst (λ (t : List Deed). IsOrderly Sta6 t)
    (sym p.1) (tt, gone rs p.0 p.2)
does_orderly titles (Responded status) contexts awaited R R' rs a goes gone p = tells_orderly awaited status (R None rs)
    a (goes None rs) p
does_orderly titles (Asked content) contexts awaited R R' rs a goes gone p = subst (λ (t : List Deed). IsOrderly Sta6 t)
    (sym p.1) (tt, (tt, store_orderly awaited (R None) rs p.0 (goes None) p.2))
does_orderly titles (Queried finding kind) contexts awaited R R' rs a goes gone p =
    subst (λ (t : List Deed). IsOrderly Sta6 t) (sym p.1) (
      tt,
      find_orderly awaited kind (R None) rs p.0 (goes None)
          p.2,
    )
does_orderly titles (Fetched getting syntax) contexts awaited R R' rs a goes gone p =
    subst (λ (t : List Deed). IsOrderly Sta6 t) (sym p.1) (tt, get_orderly contexts awaited syntax R rs p.0 goes p.2)

goes_on_orderly : (next : Option Retrieval) (contexts : List Context) (R : GoesBy) (rs : List Reply) (a : List Deed)
    → OrderlyBy Sta6 R → GoesOnBy next contexts R rs a → IsOrderly Sta6 a
goes_on_orderly None contexts R rs a goes p = goes None rs a p
goes_on_orderly (Some r) contexts R rs a goes p = begins_orderly contexts r.progress r.left R goes rs a p

performs_orderly : (titles : List (Title View)) (meaning : Meaning) (sub : SubOperation) (contexts : List Context)
    (R : GoesBy) (R' : Goes) (rs : List Reply) (a : List Deed) → OrderlyBy Sta6 R → OrderlyGone Sta13 R'
    → Performs meaning sub contexts (row titles Sta6 events.LocalAbort) R R' rs a → IsOrderly Sta6 a
performs_orderly titles Cancelled sub contexts R R' rs a goes gone p = goes (Some (cancelling sub)) rs a p
performs_orderly titles Unawaited sub contexts R R' rs a goes gone p = subst (λ (t : List Deed). IsOrderly Sta6 t)
    (sym p.1) (tt, gone rs p.0 p.2)
performs_orderly titles (Performed outcome) sub contexts R R' rs a goes gone p =
    subst (λ (t : List Deed). IsOrderly Sta6 t) (sym p.3.1)
    (data_orderly p.0 p.3.0 (responds_by_data sub.cancelled (performed sub outcome) sub.left p.0 p.1 p.2)
    (goes_on_orderly p.1 contexts R rs p.3.0 goes p.3.2))

attends_orderly : (titles : List (Title View)) (sub : Option SubOperation) (w : Within) (m : Message) (R : GoesBy)
    (R' : Goes) (rs : List Reply) (a : List Deed) → OrderlyBy Sta6 R → OrderlyGone Sta13 R'
    → Attends sub w m (row titles Sta6 events.LocalAbort) R R' rs a → IsOrderly Sta6 a
attends_orderly titles None w m R R' rs a goes gone p = does_orderly titles p.0 w.link.contexts (awaiting w.link m) R R'
    rs a goes gone p.2
attends_orderly titles (Some sub) w m R R' rs a goes gone p = performs_orderly titles (meaning_of sub.progress
    m.command) sub w.link.contexts R R' rs a goes gone p

in_state_orderly : (titles : List (Title View)) (s : State) (sub : Option SubOperation) (w : Within) (m : Message)
    (R : GoesBy) (R' D : Goes) (rs : List Reply) (a : List Deed) → OrderlyBy s R
    → OrderlyGone (next_of s (kind_for titles events.LocalAbort)) R' → OrderlyGone s D
    → InState s (Attends sub w m (row titles s events.LocalAbort) R R') D rs a → IsOrderly s a
in_state_orderly titles Sta1 sub w m R R' D rs a goes gone dropped p = dropped rs a p
in_state_orderly titles Sta2 sub w m R R' D rs a goes gone dropped p = dropped rs a p
in_state_orderly titles Sta6 sub w m R R' D rs a goes gone dropped p = attends_orderly titles sub w m R R' rs a goes
    gone p
in_state_orderly titles Sta13 sub w m R R' D rs a goes gone dropped p = dropped rs a p

pub orderly : (titles : List (Title View)) (w : Within) (sub : Option SubOperation) (us : List Heard) (rs : List Reply)
    (a : List Deed) → Talks titles w sub us rs a → IsOrderly w.state a
orderly titles w sub [] rs a p = subst (λ (t : List Deed). IsOrderly w.state t) (sym p) tt
orderly titles w sub (Met event ∷ us) rs a p =
    subst (λ (t : List Deed). IsOrderly w.state t) (sym p.1)
    (row_orderly titles w.state event p.0 (orderly titles (met titles w event) sub us rs p.0 p.2))
orderly titles w sub (Said m ∷ us) rs a p =
    in_state_orderly titles w.state sub w m (λ next. Talks titles w next us)
    (Talks titles (met titles w events.LocalAbort) None us) (Talks titles w sub us) rs a
    (λ next rs' x. orderly titles w next us rs' x)
    (λ rs' x. orderly titles (met titles w events.LocalAbort) None us rs' x) (λ rs' x. orderly titles w sub us rs' x) p

-- ---- behind a call nothing is done before its reply

sends_replied : (rs : List Reply) (response : List Pdu) (rest : List Deed) → IsReplied rs rest
    → IsReplied rs (map Send response ++ rest)
sends_replied [] [] rest p = p
sends_replied (r ∷ rs) [] rest p = p
sends_replied [] (x ∷ response) rest p = sends_replied [] response rest p
sends_replied (r ∷ rs) (x ∷ response) rest p = sends_replied (r ∷ rs) response rest p

row_replied : (rs : List Reply) (action : Option Action) (rest : List Deed) → IsReplied rs rest
    → IsReplied rs (deeds_of action ++ rest)
row_replied rs None rest p = p
row_replied [] (Some (actions.Send pdu)) rest p = p
row_replied (r ∷ rs) (Some (actions.Send pdu)) rest p = p
row_replied rs (Some (actions.Hand values)) rest p = p
row_replied [] (Some actions.Close) rest p = p
row_replied (r ∷ rs) (Some actions.Close) rest p = p

none_replied : (rs : List Reply) (a : List Deed) → a ≡ [] → IsReplied rs a
none_replied [] a p = subst (λ (t : List Deed). IsReplied [] t) (sym p) tt
none_replied (r ∷ rs) a p = subst (λ (t : List Deed). IsReplied (r ∷ rs) t) (sym p) tt

tells_replied : (awaited : Awaited) (status : Status) (rs : List Reply) (R : List Deed → Type 0) (a : List Deed)
    → ((x : List Deed) → R x → IsReplied rs x) → Tells awaited status R a → IsReplied rs a
tells_replied awaited status rs R a goes p = subst (λ (t : List Deed). IsReplied rs t) (sym p.2.1)
    (sends_replied rs p.0 p.2.0 (goes p.2.0 p.2.2))

reach_replied : (rs : List Reply) (R : List Deed → Type 0) (a : List Deed) → ((x : List Deed) → R x → IsReplied rs x)
    → Then (Reach FindAnswered ∷ []) R a → IsReplied rs a
reach_replied [] R a goes p = subst (λ (t : List Deed). IsReplied [] t) (sym p.1) (goes p.0 p.2)
reach_replied (r ∷ rs) R a goes p = subst (λ (t : List Deed). IsReplied (r ∷ rs) t) (sym p.1) (goes p.0 p.2)

rows_replied : (awaited : Awaited) (kind : RowKind) (rows : List Set) (status : Status) (rs : List Reply)
    (R : List Deed → Type 0) (a : List Deed) → ((x : List Deed) → R x → IsReplied rs x)
    → TellsRows awaited kind rows status R a → IsReplied rs a
rows_replied awaited kind rows status rs R a goes p = subst (λ (t : List Deed). IsReplied rs t) (sym p.2.1)
    (sends_replied rs p.0 p.2.0 (tells_replied awaited status rs (Then (Reach FindAnswered ∷ []) R) p.2.0
    (λ x. reach_replied rs R x goes) p.2.2))

stores_replied : (awaited : Awaited) (R : Goes) (rs : List Reply) (x : List Deed) (content : ContentParts)
    → ((rs : List Reply) (x : List Deed) → R rs x → IsReplied rs x) → FollowsStore awaited R rs x
    → IsReplied rs (Reach InStore ∷ Ask (Store content) ∷ x)
stores_replied awaited R [] x content goes p = p
stores_replied awaited R (Stored reply ∷ rs) x content goes p = tells_replied awaited (status_of_reply reply) rs (R rs)
    x (goes rs) p
stores_replied awaited R (Found reply ∷ rs) x content goes p = absurd p
stores_replied awaited R (Gotten reply ∷ rs) x content goes p = absurd p
stores_replied awaited R (Loaded reply ∷ rs) x content goes p = absurd p

finds_replied : (awaited : Awaited) (kind : RowKind) (R : Goes) (rs : List Reply) (x : List Deed) (finding : Finding)
    → ((rs : List Reply) (x : List Deed) → R rs x → IsReplied rs x) → FollowsFind awaited kind R rs x
    → IsReplied rs (Ask (Find finding) ∷ x)
finds_replied awaited kind R [] x finding goes p = p
finds_replied awaited kind R (Found reply ∷ rs) x finding goes p = rows_replied awaited kind (rows_in reply)
    (status_of_found reply) rs (R rs) x (goes rs) p
finds_replied awaited kind R (Stored reply ∷ rs) x finding goes p = absurd p
finds_replied awaited kind R (Gotten reply ∷ rs) x finding goes p = absurd p
finds_replied awaited kind R (Loaded reply ∷ rs) x finding goes p = absurd p

-- behind a call nothing is done before its reply, whichever sub-operation is awaited
abbrev RepliedBy : GoesBy → Type 0
RepliedBy R = (next : Option SubOperation) (rs : List Reply) (x : List Deed) → R next rs x → IsReplied rs x

abbrev RepliedGone : Goes → Type 0
RepliedGone R = (rs : List Reply) (x : List Deed) → R rs x → IsReplied rs x

send_replied : (Are : List Pdu → Type 0) (rs : List Reply) (R : List Deed → Type 0) (a : List Deed)
    → ((x : List Deed) → R x → IsReplied rs x) → Sends Are R a → IsReplied rs a
send_replied Are rs R a goes p = subst (λ (t : List Deed). IsReplied rs t) (sym p.2.1)
    (sends_replied rs p.0 p.2.0 (goes p.2.0 p.2.2))

loaded_replied : (loaded : Option Prepared) (g : Progress) (way : Way) (rs : List Reply) (R R' : List Deed → Type 0)
    (a : List Deed) → ((x : List Deed) → R x → IsReplied rs x) → ((x : List Deed) → R' x → IsReplied rs x)
    → SendsLoaded loaded g way R R' a → IsReplied rs a
loaded_replied None g way rs R R' a sent unsent p = unsent a p
loaded_replied (Some prepared) g way rs R R' a sent unsent p =
    send_replied (IsSending (sub_operation g way prepared) g.awaited.limit) rs R a sent p

load_replied : (g : Progress) (l : Listed) (way : Way) (R R' : Goes) (rs : List Reply) (x : List Deed)
    → RepliedGone R → RepliedGone R' → FollowsLoad g l way R R' rs x → IsReplied rs (Ask (Load l.content) ∷ x)
load_replied g l way R R' [] x sent unsent p = p
load_replied g l way R R' (Loaded reply ∷ rs) x sent unsent p =
    loaded_replied (loaded_for l reply) g way rs (R rs) (R' rs) x (sent rs) (unsent rs) p
load_replied g l way R R' (Stored reply ∷ rs) x sent unsent p = absurd p
load_replied g l way R R' (Found reply ∷ rs) x sent unsent p = absurd p
load_replied g l way R R' (Gotten reply ∷ rs) x sent unsent p = absurd p

loads_replied : (way : Option Way) (g : Progress) (l : Listed) (R R' : Goes) (rs : List Reply) (a : List Deed)
    → RepliedGone R → RepliedGone R' → LoadsBy way g l R R' rs a → IsReplied rs a
loads_replied None g l R R' rs a sent unsent p = unsent rs a p
loads_replied (Some way) g l R R' rs a sent unsent p = subst (λ (t : List Deed). IsReplied rs t) (sym p.1)
    (load_replied g l way R R' rs p.0 sent unsent p.2)

fails_replied : (g : Progress) (left : List Listed) (R : Goes) → RepliedGone R → RepliedGone (Fails g left R)
fails_replied g left R goes rs a p = send_replied (RespondsIfLeft g left) rs (R rs) a (goes rs) p

begins_replied : (contexts : List Context) (g : Progress) (left : List Listed) (R : GoesBy) → RepliedBy R
    → RepliedGone (Begins contexts g left R)
begins_replied contexts g [] R goes rs a p = send_replied (RespondsEnd g) rs (R None rs) a (goes None rs) p
begins_replied contexts g (l ∷ left) R goes rs a p =
    loads_replied (way_for contexts l) g l (R (Some (sending g l left)))
    (Fails (failing g l) left (Begins contexts (failing g l) left R)) rs a (goes (Some (sending g l left)))
    (fails_replied (failing g l) left (Begins contexts (failing g l) left R)
    (begins_replied contexts (failing g l) left R goes)) p

few_replied : (few : Option (List Listed)) (contexts : List Context) (awaited : Awaited) (syntax : Syntax) (R : GoesBy)
    (R' : Goes) (rs : List Reply) (a : List Deed) → RepliedBy R → RepliedGone R'
    → BeginsFew contexts awaited syntax few R R' rs a → IsReplied rs a
few_replied None contexts awaited syntax R R' rs a goes refused p = tells_replied awaited UnableToPerformSubOperations
    rs (R' rs) a (refused rs) p
few_replied (Some left) contexts awaited syntax R R' rs a goes refused p =
    begins_replied contexts (setting_out awaited syntax) left R goes rs a p

gets_replied : (contexts : List Context) (awaited : Awaited) (syntax : Syntax) (R : GoesBy) (rs : List Reply)
    (x : List Deed) (getting : Getting) → RepliedBy R → FollowsGet contexts awaited syntax R (R None) rs x
    → IsReplied rs (Ask (Get getting) ∷ x)
gets_replied contexts awaited syntax R [] x getting goes p = p
gets_replied contexts awaited syntax R (Gotten reply ∷ rs) x getting goes p =
    few_replied (few_in reply) contexts awaited syntax R (R None) rs x goes (goes None) p
gets_replied contexts awaited syntax R (Stored reply ∷ rs) x getting goes p = absurd p
gets_replied contexts awaited syntax R (Found reply ∷ rs) x getting goes p = absurd p
gets_replied contexts awaited syntax R (Loaded reply ∷ rs) x getting goes p = absurd p

does_replied : (service : Service) (contexts : List Context) (awaited : Awaited) (action : Option Action) (R : GoesBy)
    (R' : Goes) (rs : List Reply) (a : List Deed) → RepliedBy R → RepliedGone R'
    → Does service contexts awaited (deeds_of action) R R' rs a → IsReplied rs a
does_replied Ignored contexts awaited action R R' rs a goes gone p = goes None rs a p
does_replied Broken contexts awaited action R R' rs a goes gone p = subst (λ (t : List Deed). IsReplied rs t) (sym p.1)
    (row_replied rs action p.0 (gone rs p.0 p.2))
does_replied (Responded status) contexts awaited action R R' rs a goes gone p = tells_replied awaited status rs
    (R None rs) a (goes None rs) p
does_replied (Asked content) contexts awaited action R R' rs a goes gone p =
    subst (λ (t : List Deed). IsReplied rs t) (sym p.1) (stores_replied awaited (R None) rs p.0 content (goes None) p.2)
does_replied (Queried finding kind) contexts awaited action R R' rs a goes gone p =
    subst (λ (t : List Deed). IsReplied rs t) (sym p.1) (finds_replied awaited kind (R None) rs p.0 finding (goes None)
    p.2)
does_replied (Fetched getting syntax) contexts awaited action R R' rs a goes gone p =
    subst (λ (t : List Deed). IsReplied rs t) (sym p.1) (gets_replied contexts awaited syntax R rs p.0 getting goes p.2)

goes_on_replied : (next : Option Retrieval) (contexts : List Context) (R : GoesBy) (rs : List Reply) (a : List Deed)
    → RepliedBy R → GoesOnBy next contexts R rs a → IsReplied rs a
goes_on_replied None contexts R rs a goes p = goes None rs a p
goes_on_replied (Some r) contexts R rs a goes p = begins_replied contexts r.progress r.left R goes rs a p

performs_replied : (meaning : Meaning) (sub : SubOperation) (contexts : List Context) (action : Option Action)
    (R : GoesBy) (R' : Goes) (rs : List Reply) (a : List Deed) → RepliedBy R → RepliedGone R'
    → Performs meaning sub contexts (deeds_of action) R R' rs a → IsReplied rs a
performs_replied Cancelled sub contexts action R R' rs a goes gone p = goes (Some (cancelling sub)) rs a p
performs_replied Unawaited sub contexts action R R' rs a goes gone p = subst (λ (t : List Deed). IsReplied rs t)
    (sym p.1) (row_replied rs action p.0 (gone rs p.0 p.2))
performs_replied (Performed outcome) sub contexts action R R' rs a goes gone p =
    subst (λ (t : List Deed). IsReplied rs t) (sym p.3.1)
    (sends_replied rs p.0 p.3.0 (goes_on_replied p.1 contexts R rs p.3.0 goes p.3.2))

attends_replied : (sub : Option SubOperation) (w : Within) (m : Message) (action : Option Action) (R : GoesBy)
    (R' : Goes) (rs : List Reply) (a : List Deed) → RepliedBy R → RepliedGone R'
    → Attends sub w m (deeds_of action) R R' rs a → IsReplied rs a
attends_replied None w m action R R' rs a goes gone p = does_replied p.0 w.link.contexts (awaiting w.link m) action R R'
    rs a goes gone p.2
attends_replied (Some sub) w m action R R' rs a goes gone p = performs_replied (meaning_of sub.progress m.command) sub
    w.link.contexts action R R' rs a goes gone p

in_state_replied : (s : State) (sub : Option SubOperation) (w : Within) (m : Message) (action : Option Action)
    (R : GoesBy) (R' D : Goes) (rs : List Reply) (a : List Deed) → RepliedBy R → RepliedGone R' → RepliedGone D
    → InState s (Attends sub w m (deeds_of action) R R') D rs a → IsReplied rs a
in_state_replied Sta1 sub w m action R R' D rs a goes gone dropped p = dropped rs a p
in_state_replied Sta2 sub w m action R R' D rs a goes gone dropped p = dropped rs a p
in_state_replied Sta6 sub w m action R R' D rs a goes gone dropped p = attends_replied sub w m action R R' rs a goes
    gone p
in_state_replied Sta13 sub w m action R R' D rs a goes gone dropped p = dropped rs a p

pub replied : (titles : List (Title View)) (w : Within) (sub : Option SubOperation) (us : List Heard) (rs : List Reply)
    (a : List Deed) → Talks titles w sub us rs a → IsReplied rs a
replied titles w sub [] rs a p = none_replied rs a p
replied titles w sub (Met event ∷ us) rs a p =
    subst (λ (t : List Deed). IsReplied rs t) (sym p.1) (row_replied rs (action_on w.state titles event)
    p.0 (replied titles (met titles w event) sub us rs p.0 p.2))
replied titles w sub (Said m ∷ us) rs a p =
    in_state_replied w.state sub w m (action_on w.state titles events.LocalAbort) (λ next. Talks titles w next us)
    (Talks titles (met titles w events.LocalAbort) None us) (Talks titles w sub us) rs a
    (λ next rs' x. replied titles w next us rs' x)
    (λ rs' x. replied titles (met titles w events.LocalAbort) None us rs' x) (λ rs' x. replied titles w sub us rs' x) p
