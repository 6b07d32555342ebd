-- Rows that are told, some in each turn.
use Rattle.std.proofs.Common.{◌≡◌, ◌<◌, ◌≤◌, ◌+◌, zero, suc, List, [], ◌∷◌, ◌++◌, map, length}
use Rattle.std.proofs.Common.{Option, Some, None}
use Rattle.std.proofs.Common.{refl, sym, ap, subst, ◌∙◌, append_assoc, append-nil, length-append, arith}
use Rattle.std.specs.Prelude.{IsSome, All, option_to_list}
use Rattle.archive_model.specs.declared.view.View.{View}
use Rattle.data_set.specs.Set.{Set}
use Rattle.pdu.specs.declared.value.Pdu.{Pdu}
use Rattle.pdu.specs.Spelling.{IsPdu}
use Rattle.std.proofs.lemmas.List.Elements.{All-append, All-map}
use Rattle.ul_state.specs.declared.titles.Title.{Title}
use Rattle.dimse.specs.declared.status.Status.{Status}
use Rattle.association_session.specs.declared.deed.Deed.{Deed}
use Rattle.association_session.specs.declared.deed.Deed.TheVariants.{Send, Reach}
use Rattle.association_session.specs.declared.deed.Moment.TheVariants.{FindAnswered}
use Rattle.association_session.specs.declared.pending_response.PendingResponse.{PendingResponse}
use Rattle.association_session.specs.declared.pending_response.PendingResponse.TheVariants as pendings
use Rattle.association_services.specs.declared.service.RowKind.{RowKind}
use Rattle.association_session.specs.declared.event.SessionEvent.TheVariants.{GoesOn}
use Rattle.association_session.specs.PendingResponse.{IsAnswered, IsAnsweredOrLoads, Fits}
use Rattle.association_services.specs.Find.{RespondsRow, AreRows, row_text}
use Rattle.association_session.specs.Projections.{state_after}
use Rattle.association_services.specs.Response.{Awaited, FitsLimit, response_to, response_with}
use Rattle.association_session.specs.Row.{Within}
use Rattle.association_session.specs.Session.{AssociationState, Turned, OwedAt, Stops, IsToldBy}
use Rattle.association_session.specs.inner.Telling.{TellsSome, IsEnd}
use Rattle.association_session.specs.Session.{IsWritable}
use Rattle.association_session.specs.Talks.{TellsRows, Talks}
use Rattle.association_services.proofs.DataLaws.{rows_data, sending_data}
use Rattle.association_session.proofs.DataLaws.{data_then, data_state}
use Rattle.association_services.proofs.ResponseLaws.{sending_goes}
use Rattle.association_session.proofs.HearLaws.{still, owed_at, none_pending, none_fits, none_answered, told_none}

-- ---- rows, one after another

abbrev telling_of : Awaited → RowKind → List Set → Status → PendingResponse
telling_of awaited kind rows status =
    pendings.Rows (record { awaited = awaited; kind = kind; rows = rows; status = status })

rows_join : (a : Awaited) (kind : RowKind) (told left : List Set) (ps qs : List Pdu) → AreRows a kind told ps
    → AreRows a kind left qs → AreRows a kind (told ++ left) (ps ++ qs)
rows_join a kind [] left ps qs p q = subst (λ (t : List Pdu). AreRows a kind left (t ++ qs)) (sym p) q
rows_join a kind (row ∷ told) left ps qs p q = (
  p.0,
  p.1 ++ qs,
  p.2,
  rows_join a kind told left p.1 qs p.3 q,
  ap (λ (t : List Pdu). t ++ qs) p.4 ∙ append_assoc p.0 p.1 qs,
)

one_row : (a : Awaited) (kind : RowKind) (row : Set) (ps : List Pdu) → RespondsRow a kind row ps
    → AreRows a kind (row ∷ []) ps
one_row a kind row ps p = (ps, [], p, refl, sym (append-nil ps))

pub sends_join : (ps qs : List Pdu) → map Send (ps ++ qs) ≡ map Send ps ++ map Send qs
sends_join [] qs = refl
sends_join (p ∷ ps) qs = ap (λ (t : List Deed). Send p ∷ t) (sends_join ps qs)

pub tells_none : (a : Awaited) (kind : RowKind) (rows : List Set) (deeds : List Deed) → TellsSome a kind rows rows deeds
    deeds
tells_none a kind rows deeds = record {
  told = [];
  responses = [];
  parts = refl;
  are = refl;
  deeds = sym (append-nil deeds);
}

-- a row more
pub tells_more : (a : Awaited) (kind : RowKind) (rows mid left : List Set) (row : Set) (found : Option Set)
    (d0 d1 d2 : List Deed) → TellsSome a kind rows mid d0 d1 → mid ≡ option_to_list found ++ left → found ≡ Some row
    → (response : List Pdu) × RespondsRow a kind row response × (d2 ≡ d1 ++ map Send response)
    → TellsSome a kind rows left d0 d2
tells_more a kind rows mid left row found d0 d1 d2 some next is p =
    let here : mid ≡ row ∷ left = next ∙ ap (λ (o : Option Set). option_to_list o ++ left) is in
    record {
      told = some.told ++ row ∷ [];
      responses = some.responses ++ p.0;
      parts = some.parts ∙ ap (λ (t : List Set). some.told ++ t) here ∙ sym (append_assoc some.told (row ∷ []) left);
      are = rows_join a kind some.told (row ∷ []) some.responses p.0 some.are (one_row a kind row p.0 p.1);
      deeds = p.2 ∙ ap (λ (t : List Deed). t ++ map Send p.0) some.deeds
          ∙ append_assoc d0 (map Send some.responses) (map Send p.0)
          ∙ ap (λ (t : List Deed). d0 ++ t) (sym (sends_join some.responses p.0));
    }

pub fewer_more : (a : Awaited) (kind : RowKind) (rows mid left : List Set) (row : Set) (found : Option Set)
    (d0 d1 : List Deed) → TellsSome a kind rows mid d0 d1 → mid ≡ option_to_list found ++ left → found ≡ Some row
    → length left < length rows
fewer_more a kind rows mid left row found d0 d1 some next is =
    let here : mid ≡ row ∷ left = next ∙ ap (λ (o : Option Set). option_to_list o ++ left) is in
    let all : length rows ≡ length some.told + length mid = ap length some.parts ∙ length-append some.told mid in
    let more : length mid ≡ suc (length left) = ap length here in
    omega (arith, all, more)

-- no row more
pub tells_still : (a : Awaited) (kind : RowKind) (rows mid left : List Set) (found : Option Set) (d0 d1 : List Deed)
    → TellsSome a kind rows mid d0 d1 → mid ≡ option_to_list found ++ left → found ≡ None
    → TellsSome a kind rows left d0 d1
tells_still a kind rows mid left found d0 d1 some next is =
    subst (λ (t : List Set). TellsSome a kind rows t d0 d1)
    (next ∙ ap (λ (o : Option Set). option_to_list o ++ left) is) some

-- ---- what is owed

tells_on : (a : Awaited) (kind : RowKind) (rows left : List Set) (status : Status) (R : List Deed → Type 0)
    (deeds rest : List Deed) → TellsSome a kind rows left [] deeds → TellsRows a kind left status R rest
    → TellsRows a kind rows status R (deeds ++ rest)
tells_on a kind rows left status R deeds rest some p = (
  some.responses ++ p.0,
  subst (λ (t : List Set). AreRows a kind t (some.responses ++ p.0)) (sym some.parts)
      (rows_join a kind some.told left some.responses p.0 some.are p.1),
  (
    p.2.0,
    ap (λ (t : List Deed). t ++ rest) some.deeds ∙ ap (λ (t : List Deed). map Send some.responses ++ t) p.2.1
        ∙ sym (append_assoc (map Send some.responses) (map Send p.0) p.2.0)
        ∙ ap (λ (t : List Deed). t ++ p.2.0) (sym (sends_join some.responses p.0)),
    p.2.2,
  ),
)

all_told : (a : Awaited) (kind : RowKind) (rows left : List Set) (d0 d1 : List Deed)
    (some : TellsSome a kind rows left d0 d1) → left ≡ [] → AreRows a kind rows some.responses
all_told a kind rows left d0 d1 some none =
    subst (λ (t : List Set). AreRows a kind t some.responses)
    (sym (some.parts ∙ ap (λ (t : List Set). some.told ++ t) none ∙ append-nil some.told)) some.are

tells_end : (a : Awaited) (kind : RowKind) (rows left : List Set) (status : Status) (R : List Deed → Type 0)
    (mid deeds rest : List Deed) → TellsSome a kind rows left [] mid → left ≡ [] → IsEnd a status mid deeds → R rest
    → TellsRows a kind rows status R (deeds ++ rest)
tells_end a kind rows left status R mid deeds rest some none end goes = (
  some.responses,
  all_told a kind rows left [] mid some none,
  (
    map Send end.0 ++ (Reach FindAnswered ∷ rest),
    ap (λ (t : List Deed). t ++ rest) (end.2 ∙ ap (λ (t : List Deed). t ++ (map Send end.0 ++ Reach FindAnswered ∷ []))
        some.deeds)
        ∙ append_assoc (map Send some.responses) (map Send end.0 ++ Reach FindAnswered ∷ []) rest
        ∙ ap (λ (t : List Deed). map Send some.responses ++ t) (append_assoc (map Send end.0) (Reach FindAnswered ∷ [])
        rest),
    (end.0, end.1, (Reach FindAnswered ∷ rest, refl, (rest, refl, goes))),
  ),
)

rows_are : (a : Awaited) (kind : RowKind) (rows : List Set) → 8 ≤ a.limit
    → (pdus : List Pdu) × AreRows a kind rows pdus
rows_are a kind [] least = ([], refl)
rows_are a kind (row ∷ rows) least =
    let first = sending_goes (response_with a kind.status (row_text kind.syntax row)) a.limit least in
    let rest = rows_are a kind rows least in
    (first.0 ++ rest.0, (first.0, rest.0, first.1, rest.1, refl))

-- Rows that are left can be told.
pub rows_go : (a : Awaited) (kind : RowKind) (rows : List Set) (status : Status) (R : List Deed → Type 0)
    → FitsLimit a.limit → R [] → (rest : List Deed) × TellsRows a kind rows status R rest
rows_go a kind rows status R fits goes =
    let are = rows_are a kind rows fits.0 in
    let end = sending_goes (response_to a status) a.limit fits.0 in (
      map Send are.0 ++ (map Send end.0 ++ Reach FindAnswered ∷ []),
      (
        are.0,
        are.1,
        (
          map Send end.0 ++ Reach FindAnswered ∷ [],
          refl,
          (end.0, end.1, (Reach FindAnswered ∷ [], refl, ([], refl, goes))),
        ),
      ),
    )

-- ---- where deeds stop

sends_stop : (ps : List Pdu) (a : Option PendingResponse) → IsAnswered a → Stops (map Send ps) a
sends_stop [] a answered = answered
sends_stop (p ∷ ps) a answered = sends_stop ps a answered

sends_stop_then : (ps : List Pdu) (ds : List Deed) (a : Option PendingResponse) → Stops ds a
    → Stops (map Send ps ++ ds) a
sends_stop_then [] ds a stops = stops
sends_stop_then (p ∷ ps) ds a stops = sends_stop_then ps ds a stops

-- ---- turns

-- rows that are told, and others that are left
pub told_some : (titles : List (Title View)) (now new : AssociationState) (a : Awaited) (kind : RowKind)
    (rows left : List Set) (status : Status) (deeds : List Deed)
    → now.awaited ≡ Some (telling_of a kind rows status) → new.within ≡ now.within → new.sub ≡ now.sub
    → new.stage ≡ now.stage → new.awaited ≡ Some (telling_of a kind left status) → new.queue ≡ now.queue
    → FitsLimit a.limit
    → TellsSome a kind rows left [] deeds → Turned titles now GoesOn deeds new
told_some titles now new a kind rows left status deeds has within sub stage pending queue fits some = record {
  said = [];
  values = still now new within stage queue;
  leads = within;
  takes = λ us rs rest owed.
      subst (λ (o : Option PendingResponse). OwedAt titles now.within now.sub o us rs (deeds ++ rest)) (sym has)
      (tells_on a kind rows left status (Talks titles now.within now.sub us rs) deeds rest some
      (owed_at titles new now.within now.sub (Some (telling_of a kind left status)) us rs rest within sub pending
      owed));
  stops = subst (λ (t : List Deed). Stops t new.awaited) (sym some.deeds)
      (sends_stop some.responses new.awaited (subst (λ (o : Option PendingResponse). IsAnswered o) (sym pending) tt));
  state = ap (λ (w : Within). w.state) within
      ∙ sym (ap (λ (t : List Deed). state_after now.within.state t) some.deeds
      ∙ data_state now.within.state some.responses (rows_data a kind some.told some.responses some.are));
  told = subst (λ (o : Option PendingResponse). IsToldBy GoesOn o new.awaited) (sym has)
      (subst (λ (o : Option PendingResponse). IsAnsweredOrLoads o) (sym pending) tt);
  opened = λ before more. ap (λ (w : Within). w.state) within
      ∙ before (subst (λ (o : Option PendingResponse). IsSome o) (sym has) refl);
  fits = subst (λ (o : Option PendingResponse). Fits o) (sym pending) fits;
}

-- rows that are told, and their end
pub told_all : (titles : List (Title View)) (now new : AssociationState) (a : Awaited) (kind : RowKind)
    (rows left : List Set) (status : Status) (mid deeds : List Deed)
    → now.awaited ≡ Some (telling_of a kind rows status) → new.within ≡ now.within → new.sub ≡ now.sub
    → new.stage ≡ now.stage → new.awaited ≡ None → new.queue ≡ now.queue → TellsSome a kind rows left [] mid → left ≡ []
    → IsEnd a status mid deeds → Turned titles now GoesOn deeds new
told_all titles now new a kind rows left status mid deeds has within sub stage none queue some empty end =
    let are = all_told a kind rows left [] mid some empty in
    let all : deeds ≡ map Send some.responses ++ (map Send end.0 ++ Reach FindAnswered ∷ []) =
    end.2 ∙ ap (λ (t : List Deed). t ++ (map Send end.0 ++ Reach FindAnswered ∷ [])) some.deeds in
    record {
      said = [];
      values = still now new within stage queue;
      leads = within;
      takes = λ us rs rest owed.
          subst (λ (o : Option PendingResponse). OwedAt titles now.within now.sub o us rs (deeds ++ rest)) (sym has)
          (tells_end a kind rows left status (Talks titles now.within now.sub us rs) mid deeds rest some empty end
          (owed_at titles new now.within now.sub None us rs rest within sub none owed));
      stops = subst (λ (t : List Deed). Stops t new.awaited) (sym all)
          (sends_stop_then some.responses (map Send end.0 ++ Reach FindAnswered ∷ []) new.awaited
          (sends_stop_then end.0 (Reach FindAnswered ∷ []) new.awaited (none_answered new.awaited none)));
      state = ap (λ (w : Within). w.state) within
          ∙ sym (ap (λ (t : List Deed). state_after now.within.state t) all
          ∙ data_then now.within.state some.responses (map Send end.0 ++ Reach FindAnswered ∷ [])
          (rows_data a kind rows some.responses are)
          ∙ data_then now.within.state end.0 (Reach FindAnswered ∷ []) (sending_data _ _ end.0 end.1));
      told = told_none GoesOn now.awaited new.awaited none;
      opened = λ before more. absurd (none_pending new.awaited none more);
      fits = none_fits new.awaited none;
    }

-- ---- what is left

-- ---- what can be written

pub all_put : (old new : List Deed) (ps : List Pdu) → All IsWritable old → All IsPdu ps → new ≡ old ++ map Send ps
    → All IsWritable new
all_put old new ps before lawful is = subst (λ (t : List Deed). All IsWritable t) (sym is)
    (All-append IsWritable old (map Send ps) before (All-map IsWritable Send ps lawful))

reached : All IsWritable (Reach FindAnswered ∷ [])
reached zero d less = tt
reached (suc k) d less = absurd (omega (arith, less))

pub all_ended : (old mid new : List Deed) (ps : List Pdu) → All IsWritable old → All IsPdu ps
    → mid ≡ old ++ map Send ps → new ≡ mid ++ Reach FindAnswered ∷ [] → All IsWritable new
all_ended old mid new ps before lawful is end = subst (λ (t : List Deed). All IsWritable t) (sym end)
    (All-append IsWritable mid (Reach FindAnswered ∷ []) (all_put old mid ps before lawful is) reached)
