-- Behind each call for a query stand its answers.
use Rattle.std.proofs.Common.{◌≡◌, List, [], ◌∷◌, ◌++◌, map, Option, Some, None, inl, inr, sym, ap, subst, ◌∙◌}
use Rattle.archive_model.specs.declared.view.View.{View}
use Rattle.data_set.specs.Set.{Set}
use Rattle.pdu.specs.declared.value.Pdu.{Pdu}
use Rattle.ul_state.specs.declared.event.Action.{Action}
use Rattle.ul_state.specs.declared.event.Action.TheVariants as actions
use Rattle.ul_state.specs.declared.event.Event.TheVariants as events
use Rattle.ul_state.specs.declared.table.State.{State}
use Rattle.ul_state.specs.declared.table.State.TheVariants.{Sta1, Sta2, Sta6, Sta13}
use Rattle.ul_state.specs.declared.titles.Title.{Title}
use Rattle.ul_state.specs.Acceptor.{action_on}
use Rattle.dimse.specs.declared.message.Message.{Message}
use Rattle.dimse.specs.declared.status.Status.{Status}
use Rattle.association_services.specs.declared.call.Call.TheVariants.{Find}
use Rattle.association_session.specs.declared.deed.Deed.{Deed}
use Rattle.association_session.specs.declared.deed.Deed.TheVariants.{Send, Reach, Ask}
use Rattle.association_services.specs.declared.call.Finding.{Finding}
use Rattle.association_session.specs.declared.deed.Moment.TheVariants.{FindAnswered}
use Rattle.association_services.specs.declared.service.RowKind.{RowKind}
use Rattle.association_services.specs.declared.reply.Reply.{Reply}
use Rattle.association_services.specs.declared.reply.Reply.TheVariants.{Stored, Found, Gotten, Loaded}
use Rattle.association_services.specs.declared.service.Service.{Service}
use Rattle.association_services.specs.declared.service.Service.TheVariants.{Ignored, Broken, Responded, Asked, Queried}
use Rattle.association_services.specs.declared.service.Service.TheVariants.{Fetched}
use Rattle.association_session.specs.Answered.{Answers as FindAnswers, AreAnswered}
use Rattle.association_services.specs.Find.{row_status, rows_in, status_of_found}
use Rattle.association_services.specs.Response.{Awaited}
use Rattle.association_services.specs.Retrieval.{few_in, setting_out, way_for, loaded_for, failing, sending}
use Rattle.association_services.specs.Retrieval.{sub_operation}
use Rattle.association_services.specs.Retrieval.{meaning_of, cancelling, RespondsIfLeft, RespondsEnd}
use Rattle.association_services.specs.SubOperation.{Retrieval, SubOperation}
use Rattle.association_services.specs.declared.retrieval.Meaning.{Meaning}
use Rattle.association_services.specs.declared.retrieval.Meaning.TheVariants.{Cancelled, Performed, Unawaited}
use Rattle.association_services.specs.declared.retrieval.Progress.{Progress}
use Rattle.data_set.specs.declared.syntax.Syntax.{Syntax}
use Rattle.dimse.specs.declared.status.Status.TheVariants.{UnableToPerformSubOperations}
use Rattle.pdu.specs.declared.context.Context.{Context}
use Rattle.archive_model.specs.declared.listed.Listed.{Listed}
use Rattle.archive_model.specs.declared.prepared.Prepared.{Prepared}
use Rattle.association_services.specs.declared.way.Way.{Way}
use Rattle.dimse.specs.Sending.{IsSending}
use Rattle.association_session.specs.Row.{Within, met, deeds_of}
use Rattle.association_services.specs.Store.{status_of_reply}
use Rattle.association_session.specs.Talks.{Heard, Met, Said, Goes, GoesBy, Then, Tells, TellsRows, FollowsStore}
use Rattle.association_session.specs.Talks.{FollowsFind}
use Rattle.association_session.specs.Talks.{Sends, SendsLoaded, FollowsLoad, Fails, LoadsBy, Begins, FollowsGet}
use Rattle.association_session.specs.Talks.{BeginsFew}
use Rattle.association_session.specs.Talks.{Does, InState, GoesOnBy, Performs}
use Rattle.association_session.specs.Talks.{Attends}
use Rattle.association_session.specs.Talks.{Talks, Serves, awaiting}
use Rattle.association_session.proofs.StatusLaws.{served_kind}

sends_answered : (ps : List Pdu) (rest : List Deed) → AreAnswered rest → AreAnswered (map Send ps ++ rest)
sends_answered [] rest p = p
sends_answered (x ∷ ps) rest p = sends_answered ps rest p

row_answered : (action : Option Action) (rest : List Deed) → AreAnswered rest → AreAnswered (deeds_of action ++ rest)
row_answered None rest p = p
row_answered (Some (actions.Send pdu)) rest p = p
row_answered (Some (actions.Hand values)) rest p = p
row_answered (Some actions.Close) rest p = p

none_answered : (a : List Deed) → a ≡ [] → AreAnswered a
none_answered a p = subst (λ (t : List Deed). AreAnswered t) (sym p) tt

-- what goes on has its answers
abbrev Goes_on : Goes → Type 0
Goes_on R = (rs : List Reply) (x : List Deed) → R rs x → AreAnswered x

tells_answered : (awaited : Awaited) (status : Status) (R : List Deed → Type 0) (a : List Deed)
    → ((x : List Deed) → R x → AreAnswered x) → Tells awaited status R a → AreAnswered a
tells_answered awaited status R a goes p = subst (λ (t : List Deed). AreAnswered t) (sym p.2.1)
    (sends_answered p.0 p.2.0 (goes p.2.0 p.2.2))

store_answered : (awaited : Awaited) (R : Goes) (rs : List Reply) (x : List Deed) → Goes_on R
    → FollowsStore awaited R rs x → AreAnswered x
store_answered awaited R [] x goes p = none_answered x p
store_answered awaited R (Stored reply ∷ rs) x goes p = tells_answered awaited (status_of_reply reply) (R rs) x
    (goes rs) p
store_answered awaited R (Found reply ∷ rs) x goes p = absurd p
store_answered awaited R (Gotten reply ∷ rs) x goes p = absurd p
store_answered awaited R (Loaded reply ∷ rs) x goes p = absurd p

rows_answered : (awaited : Awaited) (kind : RowKind) (rows : List Set) (status : Status) (R : List Deed → Type 0)
    (a : List Deed) → ((x : List Deed) → R x → AreAnswered x) → TellsRows awaited kind rows status R a → AreAnswered a
rows_answered awaited kind rows status R a goes p = subst (λ (t : List Deed). AreAnswered t) (sym p.2.1)
    (sends_answered p.0 p.2.0 (tells_answered awaited status (Then (Reach FindAnswered ∷ []) R) p.2.0
    (λ x q. subst (λ (t : List Deed). AreAnswered t) (sym q.1) (goes q.0 q.2)) p.2.2))

-- the answers to this query
answers_of : (finding : Finding) (awaited : Awaited) (kind : RowKind) (rows : List Set) (status : Status)
    (R : List Deed → Type 0) (a : List Deed) → kind.status ≡ row_status finding.query.partial
    → TellsRows awaited kind rows status R a → FindAnswers finding a
answers_of finding awaited kind rows status R a partial p =
    let end = p.2.2.2 in
    record {
      awaited = awaited;
      kind = kind;
      rows = rows;
      of_rows = p.0;
      response = p.2.2.0;
      status = status;
      behind = end.2.0;
      parts = p.2.1 ∙ ap (λ (t : List Deed). map Send p.0 ++ t) (end.1 ∙ ap (λ (t : List Deed). map Send p.2.2.0 ++ t)
          end.2.1);
      told = p.1;
      ended = p.2.2.1;
      partial = partial;
    }

find_answered : (finding : Finding) (awaited : Awaited) (kind : RowKind) (R : Goes) (rs : List Reply) (x : List Deed)
    → Goes_on R → kind.status ≡ row_status finding.query.partial → FollowsFind awaited kind R rs x
    → AreAnswered (Ask (Find finding) ∷ x)
find_answered finding awaited kind R [] x goes partial p = (inl p, none_answered x p)
find_answered finding awaited kind R (Found reply ∷ rs) x goes partial p = (
  inr (answers_of finding awaited kind (rows_in reply) (status_of_found reply) (R rs) x partial p),
  rows_answered awaited kind (rows_in reply) (status_of_found reply) (R rs) x (goes rs) p,
)
find_answered finding awaited kind R (Stored reply ∷ rs) x goes partial p = absurd p
find_answered finding awaited kind R (Gotten reply ∷ rs) x goes partial p = absurd p
find_answered finding awaited kind R (Loaded reply ∷ rs) x goes partial p = absurd p

-- what goes on has its answers, whichever sub-operation is awaited
abbrev Goes_on_by : GoesBy → Type 0
Goes_on_by R = (next : Option SubOperation) (rs : List Reply) (x : List Deed) → R next rs x → AreAnswered x

send_answered : (Are : List Pdu → Type 0) (R : List Deed → Type 0) (a : List Deed)
    → ((x : List Deed) → R x → AreAnswered x) → Sends Are R a → AreAnswered a
send_answered Are R a goes p = subst (λ (t : List Deed). AreAnswered t) (sym p.2.1)
    (sends_answered p.0 p.2.0 (goes p.2.0 p.2.2))

loaded_answered : (loaded : Option Prepared) (g : Progress) (way : Way) (R R' : List Deed → Type 0) (a : List Deed)
    → ((x : List Deed) → R x → AreAnswered x) → ((x : List Deed) → R' x → AreAnswered x)
    → SendsLoaded loaded g way R R' a → AreAnswered a
loaded_answered None g way R R' a sent unsent p = unsent a p
loaded_answered (Some prepared) g way R R' a sent unsent p =
    send_answered (IsSending (sub_operation g way prepared) g.awaited.limit) R a sent p

load_answered : (g : Progress) (l : Listed) (way : Way) (R R' : Goes) (rs : List Reply) (x : List Deed) → Goes_on R
    → Goes_on R' → FollowsLoad g l way R R' rs x → AreAnswered x
load_answered g l way R R' [] x sent unsent p = none_answered x p
load_answered g l way R R' (Loaded reply ∷ rs) x sent unsent p =
    loaded_answered (loaded_for l reply) g way (R rs) (R' rs) x (sent rs) (unsent rs) p
load_answered g l way R R' (Stored reply ∷ rs) x sent unsent p = absurd p
load_answered g l way R R' (Found reply ∷ rs) x sent unsent p = absurd p
load_answered g l way R R' (Gotten reply ∷ rs) x sent unsent p = absurd p

loads_answered : (way : Option Way) (g : Progress) (l : Listed) (R R' : Goes) (rs : List Reply) (a : List Deed)
    → Goes_on R → Goes_on R' → LoadsBy way g l R R' rs a → AreAnswered a
loads_answered None g l R R' rs a sent unsent p = unsent rs a p
loads_answered (Some way) g l R R' rs a sent unsent p = subst (λ (t : List Deed). AreAnswered t) (sym p.1)
    (load_answered g l way R R' rs p.0 sent unsent p.2)

fails_answered : (g : Progress) (left : List Listed) (R : Goes) → Goes_on R → Goes_on (Fails g left R)
fails_answered g left R goes rs a p = send_answered (RespondsIfLeft g left) (R rs) a (goes rs) p

begins_answered : (contexts : List Context) (g : Progress) (left : List Listed) (R : GoesBy) → Goes_on_by R
    → Goes_on (Begins contexts g left R)
begins_answered contexts g [] R goes rs a p = send_answered (RespondsEnd g) (R None rs) a (goes None rs) p
begins_answered contexts g (l ∷ left) R goes rs a p =
    loads_answered (way_for contexts l) g l (R (Some (sending g l left)))
    (Fails (failing g l) left (Begins contexts (failing g l) left R)) rs a (goes (Some (sending g l left)))
    (fails_answered (failing g l) left (Begins contexts (failing g l) left R)
    (begins_answered contexts (failing g l) left R goes)) p

few_answered : (few : Option (List Listed)) (contexts : List Context) (awaited : Awaited) (syntax : Syntax) (R : GoesBy)
    (R' : Goes) (rs : List Reply) (a : List Deed) → Goes_on_by R → Goes_on R'
    → BeginsFew contexts awaited syntax few R R' rs a → AreAnswered a
few_answered None contexts awaited syntax R R' rs a goes refused p = tells_answered awaited UnableToPerformSubOperations
    (R' rs) a (refused rs) p
few_answered (Some left) contexts awaited syntax R R' rs a goes refused p =
    begins_answered contexts (setting_out awaited syntax) left R goes rs a p

get_answered : (contexts : List Context) (awaited : Awaited) (syntax : Syntax) (R : GoesBy) (rs : List Reply)
    (x : List Deed) → Goes_on_by R → FollowsGet contexts awaited syntax R (R None) rs x → AreAnswered x
get_answered contexts awaited syntax R [] x goes p = none_answered x p
get_answered contexts awaited syntax R (Gotten reply ∷ rs) x goes p =
    few_answered (few_in reply) contexts awaited syntax R (R None) rs x goes (goes None) p
get_answered contexts awaited syntax R (Stored reply ∷ rs) x goes p = absurd p
get_answered contexts awaited syntax R (Found reply ∷ rs) x goes p = absurd p
get_answered contexts awaited syntax R (Loaded reply ∷ rs) x goes p = absurd p

does_answered : (w : Within) (m : Message) (service : Service) (contexts : List Context) (awaited : Awaited)
    (action : Option Action) (R : GoesBy) (R' : Goes) (rs : List Reply) (a : List Deed) → Serves w m service
    → Goes_on_by R → Goes_on R' → Does service contexts awaited (deeds_of action) R R' rs a → AreAnswered a
does_answered w m Ignored contexts awaited action R R' rs a serves goes gone p = goes None rs a p
does_answered w m Broken contexts awaited action R R' rs a serves goes gone p =
    subst (λ (t : List Deed). AreAnswered t) (sym p.1) (row_answered action p.0 (gone rs p.0 p.2))
does_answered w m (Responded status) contexts awaited action R R' rs a serves goes gone p = tells_answered awaited
    status (R None rs) a (goes None rs) p
does_answered w m (Asked content) contexts awaited action R R' rs a serves goes gone p =
    subst (λ (t : List Deed). AreAnswered t) (sym p.1) (store_answered awaited (R None) rs p.0 (goes None) p.2)
does_answered w m (Queried finding kind) contexts awaited action R R' rs a serves goes gone p =
    subst (λ (t : List Deed). AreAnswered t) (sym p.1) (find_answered finding awaited kind (R None) rs p.0 (goes None)
    (served_kind w m finding kind serves) p.2)
does_answered w m (Fetched getting syntax) contexts awaited action R R' rs a serves goes gone p =
    subst (λ (t : List Deed). AreAnswered t) (sym p.1) (get_answered contexts awaited syntax R rs p.0 goes p.2)

goes_on_answered : (next : Option Retrieval) (contexts : List Context) (R : GoesBy) (rs : List Reply) (a : List Deed)
    → Goes_on_by R → GoesOnBy next contexts R rs a → AreAnswered a
goes_on_answered None contexts R rs a goes p = goes None rs a p
goes_on_answered (Some r) contexts R rs a goes p = begins_answered contexts r.progress r.left R goes rs a p

performs_answered : (meaning : Meaning) (sub : SubOperation) (contexts : List Context) (action : Option Action)
    (R : GoesBy) (R' : Goes) (rs : List Reply) (a : List Deed) → Goes_on_by R → Goes_on R'
    → Performs meaning sub contexts (deeds_of action) R R' rs a → AreAnswered a
performs_answered Cancelled sub contexts action R R' rs a goes gone p = goes (Some (cancelling sub)) rs a p
performs_answered Unawaited sub contexts action R R' rs a goes gone p = subst (λ (t : List Deed). AreAnswered t)
    (sym p.1) (row_answered action p.0 (gone rs p.0 p.2))
performs_answered (Performed outcome) sub contexts action R R' rs a goes gone p =
    subst (λ (t : List Deed). AreAnswered t) (sym p.3.1)
    (sends_answered p.0 p.3.0 (goes_on_answered p.1 contexts R rs p.3.0 goes p.3.2))

attends_answered : (sub : Option SubOperation) (w : Within) (m : Message) (action : Option Action) (R : GoesBy)
    (R' : Goes) (rs : List Reply) (a : List Deed) → Goes_on_by R → Goes_on R'
    → Attends sub w m (deeds_of action) R R' rs a → AreAnswered a
attends_answered None w m action R R' rs a goes gone p = does_answered w m p.0 w.link.contexts (awaiting w.link m)
    action R R' rs a p.1 goes gone p.2
attends_answered (Some sub) w m action R R' rs a goes gone p = performs_answered (meaning_of sub.progress m.command) sub
    w.link.contexts action R R' rs a goes gone p

in_state_answered : (s : State) (sub : Option SubOperation) (w : Within) (m : Message) (action : Option Action)
    (R : GoesBy) (R' D : Goes) (rs : List Reply) (a : List Deed) → Goes_on_by R → Goes_on R' → Goes_on D
    → InState s (Attends sub w m (deeds_of action) R R') D rs a → AreAnswered a
in_state_answered Sta1 sub w m action R R' D rs a goes gone dropped p = dropped rs a p
in_state_answered Sta2 sub w m action R R' D rs a goes gone dropped p = dropped rs a p
in_state_answered Sta6 sub w m action R R' D rs a goes gone dropped p = attends_answered sub w m action R R' rs a goes
    gone p
in_state_answered Sta13 sub w m action R R' D rs a goes gone dropped p = dropped rs a p

pub answered : (titles : List (Title View)) (w : Within) (sub : Option SubOperation) (us : List Heard) (rs : List Reply)
    (a : List Deed) → Talks titles w sub us rs a → AreAnswered a
answered titles w sub [] rs a p = none_answered a p
answered titles w sub (Met event ∷ us) rs a p =
    subst (λ (t : List Deed). AreAnswered t) (sym p.1) (row_answered (action_on w.state titles event)
    p.0 (answered titles (met titles w event) sub us rs p.0 p.2))
answered titles w sub (Said m ∷ us) rs a p =
    in_state_answered w.state sub w m (action_on w.state titles events.LocalAbort) (λ next. Talks titles w next us)
    (Talks titles (met titles w events.LocalAbort) None us) (Talks titles w sub us) rs a
    (λ next rs' x. answered titles w next us rs' x)
    (λ rs' x. answered titles (met titles w events.LocalAbort) None us rs' x)
    (λ rs' x. answered titles w sub us rs' x) p
