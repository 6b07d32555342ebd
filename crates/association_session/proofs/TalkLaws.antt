-- Two lists of deeds over one beginning agree.
use Rattle.std.proofs.Common.{◌≡◌, List, [], ◌∷◌, ◌++◌, map, sym, ap, subst, ◌∙◌, append_assoc, append-nil}
use Rattle.std.proofs.Common.{length, length-append, ◌+◌, suc, arith, Option, Some, None}
use Rattle.pdu.specs.declared.value.Pdu.{Pdu}
use Rattle.pdu.specs.declared.context.Context.{Context}
use Rattle.ul_state.specs.declared.event.Event.TheVariants.{LocalAbort}
use Rattle.ul_state.specs.declared.table.State.{State}
use Rattle.ul_state.specs.declared.table.State.TheVariants.{Sta1, Sta2, Sta6, Sta13}
use Rattle.ul_state.specs.declared.titles.Title.{Title}
use Rattle.dimse.specs.declared.message.Message.{Message}
use Rattle.dimse.specs.declared.status.Status.{Status}
use Rattle.archive_model.specs.declared.view.View.{View}
use Rattle.data_set.specs.Set.{Set}
use Rattle.data_set.specs.declared.syntax.Syntax.{Syntax}
use Rattle.association_services.specs.declared.call.Call.TheVariants.{Store, Find, Get, Load}
use Rattle.association_session.specs.declared.deed.Deed.{Deed}
use Rattle.association_session.specs.declared.deed.Deed.TheVariants.{Send, Reach, Ask}
use Rattle.association_session.specs.declared.deed.Moment.TheVariants.{InStore, FindAnswered}
use Rattle.association_services.specs.declared.service.RowKind.{RowKind}
use Rattle.association_services.specs.declared.reply.Reply.{Reply}
use Rattle.association_services.specs.declared.reply.Reply.TheVariants.{Stored, Found, Gotten, Loaded}
use Rattle.association_services.specs.declared.service.Service.{Service}
use Rattle.association_services.specs.declared.service.Service.TheVariants.{Ignored, Broken, Responded, Asked}
use Rattle.association_services.specs.declared.service.Service.TheVariants.{Queried, Fetched}
use Rattle.association_services.specs.Find.{rows_in, status_of_found}
use Rattle.association_session.specs.Projections.{IsFront}
use Rattle.association_services.specs.Retrieval.{few_in, setting_out, way_for, loaded_for, failing, sending}
use Rattle.association_services.specs.Retrieval.{sub_operation}
use Rattle.association_services.specs.Retrieval.{meaning_of, performed, cancelling, RespondsIfLeft, RespondsEnd}
use Rattle.association_services.specs.SubOperation.{Retrieval, SubOperation}
use Rattle.association_services.specs.declared.retrieval.Meaning.{Meaning}
use Rattle.association_services.specs.declared.retrieval.Meaning.TheVariants.{Cancelled, Performed, Unawaited}
use Rattle.association_services.specs.declared.retrieval.Progress.{Progress}
use Rattle.dimse.specs.declared.status.Status.TheVariants.{UnableToPerformSubOperations}
use Rattle.archive_model.specs.declared.listed.Listed.{Listed}
use Rattle.archive_model.specs.declared.prepared.Prepared.{Prepared}
use Rattle.association_services.specs.declared.way.Way.{Way}
use Rattle.dimse.specs.Sending.{IsSending}
use Rattle.association_services.specs.Response.{Awaited}
use Rattle.association_services.proofs.OnceLaws.{response_once, rows_once, serves_on_once, sending_once, if_left_once}
use Rattle.association_services.proofs.OnceLaws.{responds_by_once}
use Rattle.association_session.specs.Row.{Within, row, met}
use Rattle.association_services.specs.Context.{context_in}
use Rattle.association_services.specs.Store.{status_of_reply}
use Rattle.association_session.specs.Talks.{Heard, Met, Said, Goes, GoesBy, Then, Tells, TellsRows, FollowsStore}
use Rattle.association_session.specs.Talks.{FollowsFind}
use Rattle.association_session.specs.Talks.{Sends, SendsLoaded, FollowsLoad, Fails, LoadsBy, Begins, FollowsGet}
use Rattle.association_session.specs.Talks.{BeginsFew}
use Rattle.association_session.specs.Talks.{Does, InState, Answers, GoesOnBy, Performs}
use Rattle.association_session.specs.Talks.{Attends, Talks, Serves, awaiting}

-- A message is answered in one way.
pub serves_once : (w : Within) (m : Message) (a b : Service) → Serves w m a → Serves w m b → a ≡ b
serves_once w m a b p q = serves_on_once w.settled (context_in w.link.contexts m.context) m.command m.body a b p q

-- ---- fronts

pub none_front : (a b : List Deed) → a ≡ [] → IsFront a b
none_front a b p = (b, ap (λ (t : List Deed). t ++ b) (sym p))

pub then_front : (now : List Deed) (R S : List Deed → Type 0) (a b : List Deed)
    → ((x y : List Deed) → R x → S y → IsFront x y) → Then now R a → Then now S b → IsFront a b
then_front now R S a b goes p q =
    let f = goes p.0 q.0 p.2 q.2 in (
      f.0,
      q.1 ∙ ap (λ (t : List Deed). now ++ t) f.1 ∙ sym (append_assoc now p.0 f.0) ∙ ap (λ (t : List Deed). t ++ f.0)
          (sym p.1),
    )

tells_front : (awaited : Awaited) (status : Status) (R S : List Deed → Type 0) (a b : List Deed)
    → ((x y : List Deed) → R x → S y → IsFront x y)
    → Tells awaited status R a → Tells awaited status S b → IsFront a b
tells_front awaited status R S a b goes p q =
    then_front (map Send p.0) R S a b goes p.2 (subst (λ (t : List Pdu). Then (map Send t) S b)
    (sym (response_once awaited status p.0 q.0 p.1 q.1)) q.2)

-- These go on as those do.
abbrev pub GoOn : Goes → Goes → Type 0
GoOn R S = (rs others : List Reply) (x y : List Deed) → R rs x → S (rs ++ others) y → IsFront x y

rows_front : (awaited : Awaited) (kind : RowKind) (rows : List Set) (status : Status) (R S : List Deed → Type 0)
    (a b : List Deed) → ((x y : List Deed) → R x → S y → IsFront x y)
    → TellsRows awaited kind rows status R a → TellsRows awaited kind rows status S b → IsFront a b
rows_front awaited kind rows status R S a b goes p q =
    let Ends : (List Deed → Type 0) → List Deed → Type 0 = λ T. Tells awaited status (Then (Reach FindAnswered ∷ []) T)
    in
    then_front (map Send p.0) (Ends R) (Ends S) a b
    (λ x y. tells_front awaited status (Then (Reach FindAnswered ∷ []) R) (Then (Reach FindAnswered ∷ []) S) x y
    (λ x' y'. then_front (Reach FindAnswered ∷ []) R S x' y' goes))
    p.2 (subst (λ (t : List Pdu). Then (map Send t) (Ends S) b) (sym (rows_once awaited kind rows p.0 q.0 p.1 q.1)) q.2)

store_front : (awaited : Awaited) (R S : Goes) (rs others : List Reply) (a b : List Deed) → GoOn R S
    → FollowsStore awaited R rs a → FollowsStore awaited S (rs ++ others) b → IsFront a b
store_front awaited R S [] others a b goes p q = none_front a b p
store_front awaited R S (Stored reply ∷ rs) others a b goes p q = tells_front awaited (status_of_reply reply) (R rs)
    (S (rs ++ others)) a b (goes rs others) p q
store_front awaited R S (Found reply ∷ rs) others a b goes p q = absurd p
store_front awaited R S (Gotten reply ∷ rs) others a b goes p q = absurd p
store_front awaited R S (Loaded reply ∷ rs) others a b goes p q = absurd p

find_front : (awaited : Awaited) (kind : RowKind) (R S : Goes) (rs others : List Reply) (a b : List Deed) → GoOn R S
    → FollowsFind awaited kind R rs a → FollowsFind awaited kind S (rs ++ others) b → IsFront a b
find_front awaited kind R S [] others a b goes p q = none_front a b p
find_front awaited kind R S (Found reply ∷ rs) others a b goes p q = rows_front awaited kind (rows_in reply)
    (status_of_found reply) (R rs) (S (rs ++ others)) a b (goes rs others) p q
find_front awaited kind R S (Stored reply ∷ rs) others a b goes p q = absurd p
find_front awaited kind R S (Gotten reply ∷ rs) others a b goes p q = absurd p
find_front awaited kind R S (Loaded reply ∷ rs) others a b goes p q = absurd p

-- These go on as those do, whichever sub-operation is awaited.
abbrev pub GoOnBy : GoesBy → GoesBy → Type 0
GoOnBy R S = (next : Option SubOperation) → GoOn (R next) (S next)

-- what is sent in one list of PDUs, and then goes on
sends_front : (Are : List Pdu → Type 0) (R S : List Deed → Type 0) (a b : List Deed)
    → ((ps qs : List Pdu) → Are ps → Are qs → ps ≡ qs) → ((x y : List Deed) → R x → S y → IsFront x y)
    → Sends Are R a → Sends Are S b → IsFront a b
sends_front Are R S a b once goes p q =
    then_front (map Send p.0) R S a b goes p.2
    (subst (λ (t : List Pdu). Then (map Send t) S b) (sym (once p.0 q.0 p.1 q.1)) q.2)

loaded_front : (loaded : Option Prepared) (g : Progress) (way : Way) (R S R' S' : List Deed → Type 0) (a b : List Deed)
    → ((x y : List Deed) → R x → S y → IsFront x y) → ((x y : List Deed) → R' x → S' y → IsFront x y)
    → SendsLoaded loaded g way R R' a → SendsLoaded loaded g way S S' b → IsFront a b
loaded_front None g way R S R' S' a b sent unsent p q = unsent a b p q
loaded_front (Some prepared) g way R S R' S' a b sent unsent p q =
    sends_front (IsSending (sub_operation g way prepared) g.awaited.limit) R S a b
    (sending_once (sub_operation g way prepared) g.awaited.limit) sent p q

load_front : (g : Progress) (l : Listed) (way : Way) (R S R' S' : Goes) (rs others : List Reply) (a b : List Deed)
    → GoOn R S → GoOn R' S' → FollowsLoad g l way R R' rs a → FollowsLoad g l way S S' (rs ++ others) b → IsFront a b
load_front g l way R S R' S' [] others a b sent unsent p q = none_front a b p
load_front g l way R S R' S' (Loaded reply ∷ rs) others a b sent unsent p q =
    loaded_front (loaded_for l reply) g way (R rs) (S (rs ++ others)) (R' rs) (S' (rs ++ others)) a b (sent rs others)
    (unsent rs others) p q
load_front g l way R S R' S' (Stored reply ∷ rs) others a b sent unsent p q = absurd p
load_front g l way R S R' S' (Found reply ∷ rs) others a b sent unsent p q = absurd p
load_front g l way R S R' S' (Gotten reply ∷ rs) others a b sent unsent p q = absurd p

fails_front : (g : Progress) (left : List Listed) (R S : Goes) → GoOn R S → GoOn (Fails g left R) (Fails g left S)
fails_front g left R S goes rs others a b p q =
    sends_front (RespondsIfLeft g left) (R rs) (S (rs ++ others)) a b (if_left_once g left) (goes rs others) p q

loads_front : (way : Option Way) (g : Progress) (l : Listed) (R S R' S' : Goes) → GoOn R S → GoOn R' S'
    → GoOn (LoadsBy way g l R R') (LoadsBy way g l S S')
loads_front None g l R S R' S' sent unsent rs others a b p q = unsent rs others a b p q
loads_front (Some way) g l R S R' S' sent unsent rs others a b p q =
    then_front (Ask (Load l.content) ∷ []) (FollowsLoad g l way R R' rs) (FollowsLoad g l way S S' (rs ++ others)) a b
    (λ x y. load_front g l way R S R' S' rs others x y sent unsent) p q

begins_front : (contexts : List Context) (g : Progress) (left : List Listed) (R S : GoesBy) → GoOnBy R S
    → GoOn (Begins contexts g left R) (Begins contexts g left S)
begins_front contexts g [] R S goes rs others a b p q =
    sends_front (RespondsEnd g) (R None rs) (S None (rs ++ others)) a b (λ ps qs. sending_once _ _ ps qs)
    (goes None rs others) p q
begins_front contexts g (l ∷ left) R S goes rs others a b p q =
    loads_front (way_for contexts l) g l (R (Some (sending g l left))) (S (Some (sending g l left)))
    (Fails (failing g l) left (Begins contexts (failing g l) left R))
    (Fails (failing g l) left (Begins contexts (failing g l) left S)) (goes (Some (sending g l left)))
    (fails_front (failing g l) left (Begins contexts (failing g l) left R) (Begins contexts (failing g l) left S)
    (begins_front contexts (failing g l) left R S goes)) rs others a b p q

few_front : (few : Option (List Listed)) (contexts : List Context) (awaited : Awaited) (syntax : Syntax)
    (R S : GoesBy) (R' S' : Goes) (rs others : List Reply) (a b : List Deed) → GoOnBy R S → GoOn R' S'
    → BeginsFew contexts awaited syntax few R R' rs a → BeginsFew contexts awaited syntax few S S' (rs ++ others) b
    → IsFront a b
few_front None contexts awaited syntax R S R' S' rs others a b goes refused p q = tells_front awaited
    UnableToPerformSubOperations (R' rs) (S' (rs ++ others)) a b (refused rs others) p q
few_front (Some left) contexts awaited syntax R S R' S' rs others a b goes refused p q =
    begins_front contexts (setting_out awaited syntax) left R S goes rs others a b p q

get_front : (contexts : List Context) (awaited : Awaited) (syntax : Syntax) (R S : GoesBy) (R' S' : Goes)
    (rs others : List Reply) (a b : List Deed) → GoOnBy R S → GoOn R' S'
    → FollowsGet contexts awaited syntax R R' rs a → FollowsGet contexts awaited syntax S S' (rs ++ others) b
    → IsFront a b
get_front contexts awaited syntax R S R' S' [] others a b goes refused p q = none_front a b p
get_front contexts awaited syntax R S R' S' (Gotten reply ∷ rs) others a b goes refused p q =
    few_front (few_in reply) contexts awaited syntax R S R' S' rs others a b goes refused p q
get_front contexts awaited syntax R S R' S' (Stored reply ∷ rs) others a b goes refused p q = absurd p
get_front contexts awaited syntax R S R' S' (Found reply ∷ rs) others a b goes refused p q = absurd p
get_front contexts awaited syntax R S R' S' (Loaded reply ∷ rs) others a b goes refused p q = absurd p

does_front : (service : Service) (contexts : List Context) (awaited : Awaited) (abort : List Deed) (R S : GoesBy)
    (R' S' : Goes) (rs others : List Reply) (a b : List Deed) → GoOnBy R S → GoOn R' S'
    → Does service contexts awaited abort R R' rs a → Does service contexts awaited abort S S' (rs ++ others) b
    → IsFront a b
does_front Ignored contexts awaited abort R S R' S' rs others a b goes gone p q = goes None rs others a b p q
does_front Broken contexts awaited abort R S R' S' rs others a b goes gone p q = then_front abort (R' rs)
    (S' (rs ++ others)) a b (gone rs others) p q
does_front (Responded status) contexts awaited abort R S R' S' rs others a b goes gone p q = tells_front awaited status
    (R None rs) (S None (rs ++ others)) a b (goes None rs others) p q
does_front (Asked content) contexts awaited abort R S R' S' rs others a b goes gone p q =
    then_front (Reach InStore ∷ Ask (Store content) ∷ []) (FollowsStore awaited (R None) rs)
    (FollowsStore awaited (S None) (rs ++ others)) a b
    (λ x y. store_front awaited (R None) (S None) rs others x y (goes None)) p q
does_front (Queried finding kind) contexts awaited abort R S R' S' rs others a b goes gone p q =
    then_front (Ask (Find finding) ∷ []) (FollowsFind awaited kind (R None) rs)
    (FollowsFind awaited kind (S None) (rs ++ others)) a b
    (λ x y. find_front awaited kind (R None) (S None) rs others x y (goes None)) p q
does_front (Fetched getting syntax) contexts awaited abort R S R' S' rs others a b goes gone p q =
    then_front (Ask (Get getting) ∷ []) (FollowsGet contexts awaited syntax R (R None) rs)
    (FollowsGet contexts awaited syntax S (S None) (rs ++ others)) a b
    (λ x y. get_front contexts awaited syntax R S (R None) (S None) rs others x y goes (goes None)) p q

answers_front : (w : Within) (m : Message) (abort : List Deed) (R S : GoesBy) (R' S' : Goes) (rs others : List Reply)
    (a b : List Deed) → GoOnBy R S → GoOn R' S'
    → Answers w m abort R R' rs a → Answers w m abort S S' (rs ++ others) b → IsFront a b
answers_front w m abort R S R' S' rs others a b goes gone p q =
    does_front p.0 w.link.contexts (awaiting w.link m) abort R S R' S' rs others a b goes gone p.2
    (subst (λ (s : Service). Does s w.link.contexts (awaiting w.link m) abort S S' (rs ++ others) b)
    (sym (serves_once w m p.0 q.0 p.1 q.1)) q.2)

goes_on_front : (next : Option Retrieval) (contexts : List Context) (R S : GoesBy) (rs others : List Reply)
    (a b : List Deed) → GoOnBy R S → GoesOnBy next contexts R rs a → GoesOnBy next contexts S (rs ++ others) b
    → IsFront a b
goes_on_front None contexts R S rs others a b goes p q = goes None rs others a b p q
goes_on_front (Some r) contexts R S rs others a b goes p q =
    begins_front contexts r.progress r.left R S goes rs others a b p q

performs_front : (meaning : Meaning) (sub : SubOperation) (contexts : List Context) (abort : List Deed) (R S : GoesBy)
    (R' S' : Goes) (rs others : List Reply) (a b : List Deed) → GoOnBy R S → GoOn R' S'
    → Performs meaning sub contexts abort R R' rs a → Performs meaning sub contexts abort S S' (rs ++ others) b
    → IsFront a b
performs_front Cancelled sub contexts abort R S R' S' rs others a b goes gone p q =
    goes (Some (cancelling sub)) rs others a b p q
performs_front Unawaited sub contexts abort R S R' S' rs others a b goes gone p q = then_front abort (R' rs)
    (S' (rs ++ others)) a b (gone rs others) p q
performs_front (Performed outcome) sub contexts abort R S R' S' rs others a b goes gone p q =
    let same = responds_by_once sub.cancelled (performed sub outcome) sub.left p.0 q.0 p.1 q.1 p.2 q.2 in
    then_front (map Send p.0) (GoesOnBy p.1 contexts R rs) (GoesOnBy p.1 contexts S (rs ++ others)) a b
    (λ x y. goes_on_front p.1 contexts R S rs others x y goes) p.3
    (subst (λ (t : List Pdu). Then (map Send t) (GoesOnBy p.1 contexts S (rs ++ others)) b) (sym same.0)
    (subst (λ (n : Option Retrieval). Then (map Send q.0) (GoesOnBy n contexts S (rs ++ others)) b) (sym same.1) q.3))

attends_front : (sub : Option SubOperation) (w : Within) (m : Message) (abort : List Deed) (R S : GoesBy) (R' S' : Goes)
    (rs others : List Reply) (a b : List Deed) → GoOnBy R S → GoOn R' S'
    → Attends sub w m abort R R' rs a → Attends sub w m abort S S' (rs ++ others) b → IsFront a b
attends_front None w m abort R S R' S' rs others a b goes gone p q = answers_front w m abort R S R' S' rs others a b
    goes gone p q
attends_front (Some sub) w m abort R S R' S' rs others a b goes gone p q = performs_front (meaning_of sub.progress
    m.command) sub w.link.contexts abort R S R' S' rs others a b goes gone p q

in_state_front : (state : State) (R S R' S' : Goes) → GoOn R S → GoOn R' S' → GoOn (InState state R R')
    (InState state S S')
in_state_front Sta1 R S R' S' served dropped = dropped
in_state_front Sta2 R S R' S' served dropped = dropped
in_state_front Sta6 R S R' S' served dropped = served
in_state_front Sta13 R S R' S' served dropped = dropped

-- Whatever is heard or replied later only adds deeds.
pub talks_front : (titles : List (Title View)) (w : Within) (sub : Option SubOperation) (us more : List Heard)
    (rs others : List Reply) (a b : List Deed)
    → Talks titles w sub us rs a → Talks titles w sub (us ++ more) (rs ++ others) b → IsFront a b
talks_front titles w sub [] more rs others a b p q = none_front a b p
talks_front titles w sub (Met event ∷ us) more rs others a b p q =
    then_front (row titles w.state event) (Talks titles (met titles w event) sub us rs)
    (Talks titles (met titles w event) sub (us ++ more) (rs ++ others)) a b
    (talks_front titles (met titles w event) sub us more rs others) p q
talks_front titles w sub (Said m ∷ us) more rs others a b p q =
    let gone = met titles w LocalAbort in
    let abort = row titles w.state LocalAbort in
    in_state_front w.state
    (Attends sub w m abort (λ next. Talks titles w next us) (Talks titles gone None us))
    (Attends sub w m abort (λ next. Talks titles w next (us ++ more)) (Talks titles gone None (us ++ more)))
    (Talks titles w sub us) (Talks titles w sub (us ++ more))
    (λ rs' others' x y. attends_front sub w m abort (λ next. Talks titles w next us)
    (λ next. Talks titles w next (us ++ more)) (Talks titles gone None us) (Talks titles gone None (us ++ more)) rs'
    others' x y (λ next. talks_front titles w next us more) (talks_front titles gone None us more))
    (talks_front titles w sub us more) rs others a b p q

-- ---- one list

-- no list is longer than itself
none_longer : (a b : List Deed) (f g : List Deed) → b ≡ a ++ f → a ≡ b ++ g → a ≡ b
none_longer a b [] g p q = sym (append-nil a) ∙ sym p
none_longer a b (d ∷ f) g p q =
    let e : length b ≡ length a + suc (length f) = ap length p ∙ length-append a (d ∷ f) in
    let h : length a ≡ length b + length g = ap length q ∙ length-append b g in
    absurd (omega (arith, e, h))

talks_later : (titles : List (Title View)) (w : Within) (sub : Option SubOperation) (us : List Heard) (rs : List Reply)
    (a b : List Deed) → Talks titles w sub us rs a → Talks titles w sub us rs b → IsFront a b
talks_later titles w sub us rs a b p q =
    talks_front titles w sub us [] rs [] a b p
    (subst (λ (t : List Heard). Talks titles w sub t (rs ++ []) b) (sym (append-nil us))
    (subst (λ (t : List Reply). Talks titles w sub us t b) (sym (append-nil rs)) q))

-- What was heard and what was replied leave one list of deeds.
pub talks_once : (titles : List (Title View)) (w : Within) (sub : Option SubOperation) (us : List Heard)
    (rs : List Reply) (a b : List Deed) → Talks titles w sub us rs a → Talks titles w sub us rs b → a ≡ b
talks_once titles w sub us rs a b p q =
    let f = talks_later titles w sub us rs a b p q in
    let g = talks_later titles w sub us rs b a q p in
    none_longer a b f.0 g.0 f.1 g.1
