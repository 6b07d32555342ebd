-- A message is answered in one way, and each answer is sent in one list of PDUs.
use Rattle.std.proofs.Common.{◌≡◌, ℕ, Bool, true, false, List, [], ◌∷◌, ◌++◌, drop, Option, Some, None, Result, Ok, Err}
use Rattle.std.proofs.Common.{inl, inr, sym, ap, ◌∙◌, arith}
use Rattle.std.specs.Prelude.{MatchOption}
use Rattle.pdu.specs.declared.value.Pdu.{Pdu}
use Rattle.pdu.specs.declared.context.Context.{Context}
use Rattle.dimse.specs.declared.command.Command.{Command}
use Rattle.dimse.specs.declared.message.Message.{Message}
use Rattle.dimse.specs.declared.status.Status.{Status}
use Rattle.dimse.specs.Sending.{Sends, IsSending, size_of}
use Rattle.operation.specs.declared.draft.Draft.{Draft}
use Rattle.operation.specs.declared.fault.OpFault.{OpFault}
use Rattle.operation.specs.Parts.{ContentParts}
use Rattle.operation.proofs.ContentLaws.{outcome_once}
use Rattle.archive_model.specs.declared.view.View.{View}
use Rattle.data_set.specs.Set.{Set}
use Rattle.data_set.specs.Tree.{Tree}
use Rattle.data_set.specs.declared.syntax.Syntax.{Syntax}
use Rattle.data_set.proofs.Sets.{spelled_once, fault_or_spelled}
use Rattle.archive_model.specs.Query.{query_of}
use Rattle.ul_state.specs.declared.acceptor.Settled.{Settled}
use Rattle.association_services.specs.declared.service.RowKind.{RowKind}
use Rattle.association_services.specs.declared.service.Kind.{Kind}
use Rattle.association_services.specs.declared.service.Kind.TheVariants as kinds
use Rattle.association_services.specs.declared.service.Service.{Service}
use Rattle.association_services.specs.declared.service.Service.TheVariants.{Ignored, Broken, Responded, Asked}
use Rattle.association_services.specs.declared.service.Service.TheVariants.{Queried, Fetched}
use Rattle.association_services.specs.Find.{AreRows, queried_by, ServesIdentifier, ServesFind, find_refusal}
use Rattle.association_services.specs.Get.{fetched_by, get_refusal, ServesSelection, ServesGet}
use Rattle.association_services.specs.SubOperation.{Retrieval}
use Rattle.association_services.specs.Retrieval.{RespondsIfLeft, RespondsBy}
use Rattle.association_services.specs.declared.retrieval.Progress.{Progress}
use Rattle.archive_model.specs.declared.listed.Listed.{Listed}
use Rattle.archive_model.specs.Selection.{selection_of}
use Rattle.association_services.specs.Response.{Awaited, Responds}
use Rattle.association_services.specs.Context.{syntax_of}
use Rattle.association_services.specs.Service.{kind_of, ServesOn, ServesKind}
use Rattle.association_services.specs.Store.{status_of_fault, draft_for, ServesStore, ServesDraft, store_refusal}

-- ---- one response, one service

-- A text goes in one list of fragments.
sends_once : (size context : ℕ) (command : Bool) (text : List ℕ) (a b : List Pdu) → Sends size context command text a
    → Sends size context command text b → a ≡ b
sends_once size context command text [] b p q = absurd p
sends_once size context command text (x ∷ []) [] p q = absurd q
sends_once size context command text (x ∷ []) (y ∷ []) p q = ap (λ (t : Pdu). t ∷ []) (p.1 ∙ sym q.1)
sends_once size context command text (x ∷ []) (y ∷ z ∷ b) p q = absurd (omega (arith, p.0, q.0))
sends_once size context command text (x ∷ w ∷ a) [] p q = absurd q
sends_once size context command text (x ∷ w ∷ a) (y ∷ []) p q = absurd (omega (arith, p.0, q.0))
sends_once size context command text (x ∷ w ∷ a) (y ∷ z ∷ b) p q =
    let first : x ≡ y = p.1 ∙ sym q.1 in
    let rest : w ∷ a ≡ z ∷ b = sends_once size context command (drop size text) (w ∷ a) (z ∷ b) p.2 q.2 in
    cc

-- A request has one response with a status.
pub response_once : (awaited : Awaited) (status : Status) (a b : List Pdu) → Responds awaited status a
    → Responds awaited status b → a ≡ b
response_once awaited status a b p q =
    let first : p.of_command ≡ q.of_command = sends_once _ _ _ _ p.of_command q.of_command p.command q.command in
    let rest : p.of_data ≡ q.of_data = p.data_set ∙ sym q.data_set in
    p.parts ∙ ap (λ (t : List Pdu). t ++ p.of_data) first ∙ ap (λ (t : List Pdu). q.of_command ++ t) rest ∙ sym q.parts

body_once : (size context : ℕ) (body : Option (List ℕ)) (a b : List Pdu)
    → MatchOption body (a ≡ []) (λ text. Sends size context false text a)
    → MatchOption body (b ≡ []) (λ text. Sends size context false text b) → a ≡ b
body_once size context None a b p q = p ∙ sym q
body_once size context (Some text) a b p q = sends_once size context false text a b p q

-- A message is sent in one list of PDUs.
pub sending_once : (m : Message) (max : ℕ) (a b : List Pdu) → IsSending m max a → IsSending m max b → a ≡ b
sending_once m max a b p q =
    let first : p.of_command ≡ q.of_command = sends_once _ _ _ _ p.of_command q.of_command p.command q.command in
    let rest : p.of_data ≡ q.of_data = body_once (size_of max) m.context m.body p.of_data q.of_data p.data_set
    q.data_set
    in
    p.parts ∙ ap (λ (t : List Pdu). t ++ p.of_data) first ∙ ap (λ (t : List Pdu). q.of_command ++ t) rest ∙ sym q.parts

-- Rows are responded in one list of PDUs.
pub rows_once : (awaited : Awaited) (kind : RowKind) (rows : List Set) (a b : List Pdu) → AreRows awaited kind rows a
    → AreRows awaited kind rows b → a ≡ b
rows_once awaited kind [] a b p q = p ∙ sym q
rows_once awaited kind (row ∷ rows) a b p q =
    let first : p.0 ≡ q.0 = sending_once _ _ p.0 q.0 p.2 q.2 in
    let rest : p.1 ≡ q.1 = rows_once awaited kind rows p.1 q.1 p.3 q.3 in
    p.4 ∙ ap (λ (t : List Pdu). t ++ p.1) first ∙ ap (λ (t : List Pdu). q.0 ++ t) rest ∙ sym q.4

abbrev outcome_of : OpFault → Result ContentParts OpFault
outcome_of fault = Err fault

same_fault : (f g : OpFault) → outcome_of f ≡ outcome_of g → f ≡ g
same_fault f g e = cc

draft_once : (draft : Draft) (a b : Service) → ServesDraft draft a → ServesDraft draft b → a ≡ b
draft_once draft (Asked c) (Asked d) p q = let e : Ok c ≡ Ok d = outcome_once draft (Ok c) (Ok d) p q in cc
draft_once draft (Asked c) (Responded t) p q = let e : Ok c ≡ Err q.0 = outcome_once draft (Ok c) (Err q.0) p q.1 in
    absurd cc
draft_once draft (Asked c) Ignored p q = absurd q
draft_once draft (Asked c) Broken p q = absurd q
draft_once draft (Asked c) (Queried f k) p q = absurd q
draft_once draft (Asked c) (Fetched f k) p q = absurd q
draft_once draft (Responded s) (Asked d) p q = let e : Err p.0 ≡ Ok d = outcome_once draft (Err p.0) (Ok d) p.1 q in
    absurd cc
draft_once draft (Responded s) (Responded t) p q =
    let f : p.0 ≡ q.0 = same_fault p.0 q.0 (outcome_once draft (Err p.0) (Err q.0) p.1 q.1) in
    ap (λ (x : Status). Responded x) (p.2 ∙ ap (λ (x : OpFault). status_of_fault x) f ∙ sym q.2)
draft_once draft (Responded s) Ignored p q = absurd q
draft_once draft (Responded s) Broken p q = absurd q
draft_once draft (Responded s) (Queried f k) p q = absurd q
draft_once draft (Responded s) (Fetched f k) p q = absurd q
draft_once draft Ignored b p q = absurd p
draft_once draft Broken b p q = absurd p
draft_once draft (Queried f k) b p q = absurd p
draft_once draft (Fetched f k) b p q = absurd p

store_once : (context : Context) (command : Command) (body : Option (List ℕ)) (refusal : Option Status) (a b : Service)
    → ServesStore context command body refusal a → ServesStore context command body refusal b → a ≡ b
store_once context command body (Some status) a b p q = p ∙ sym q
store_once context command None None a b p q = p ∙ sym q
store_once context command (Some body) None a b p q = draft_once (draft_for context command body) a b p q

identifier_once : (settled : Option (Settled View)) (syntax : Syntax) (text : List ℕ) (a b : Service)
    → ServesIdentifier settled syntax text a → ServesIdentifier settled syntax text b → a ≡ b
identifier_once settled syntax text a b (inl p) (inl q) =
    p.2 ∙ ap (λ (ts : List Tree). queried_by settled syntax (query_of ts)) (spelled_once syntax text p.0 q.0 p.1 q.1)
    ∙ sym q.2
identifier_once settled syntax text a b (inl p) (inr q) = absurd (fault_or_spelled syntax text p.0 q.0 p.1 q.1)
identifier_once settled syntax text a b (inr p) (inl q) = absurd (fault_or_spelled syntax text q.0 p.0 q.1 p.1)
identifier_once settled syntax text a b (inr p) (inr q) = p.2 ∙ sym q.2

find_once : (settled : Option (Settled View)) (context : Context) (body : Option (List ℕ)) (refusal : Option Status)
    (a b : Service) → ServesFind settled context body refusal a → ServesFind settled context body refusal b → a ≡ b
find_once settled context body (Some status) a b p q = p ∙ sym q
find_once settled context None None a b p q = p ∙ sym q
find_once settled context (Some text) None a b p q = identifier_once settled (syntax_of context) text a b p q

selection_once : (settled : Option (Settled View)) (syntax : Syntax) (text : List ℕ) (a b : Service)
    → ServesSelection settled syntax text a → ServesSelection settled syntax text b → a ≡ b
selection_once settled syntax text a b (inl p) (inl q) =
    p.2 ∙ ap (λ (ts : List Tree). fetched_by settled syntax (selection_of ts))
    (spelled_once syntax text p.0 q.0 p.1 q.1)
    ∙ sym q.2
selection_once settled syntax text a b (inl p) (inr q) = absurd (fault_or_spelled syntax text p.0 q.0 p.1 q.1)
selection_once settled syntax text a b (inr p) (inl q) = absurd (fault_or_spelled syntax text q.0 p.0 q.1 p.1)
selection_once settled syntax text a b (inr p) (inr q) = p.2 ∙ sym q.2

get_once : (settled : Option (Settled View)) (context : Context) (body : Option (List ℕ)) (refusal : Option Status)
    (a b : Service) → ServesGet settled context body refusal a → ServesGet settled context body refusal b → a ≡ b
get_once settled context body (Some status) a b p q = p ∙ sym q
get_once settled context None None a b p q = p ∙ sym q
get_once settled context (Some text) None a b p q = selection_once settled (syntax_of context) text a b p q

kind_once : (kind : Kind) (settled : Option (Settled View)) (context : Context) (command : Command) (body : Option
    (List ℕ)) (a b : Service)
    → ServesKind kind settled context command body a → ServesKind kind settled context command body b → a ≡ b
kind_once kinds.Response settled context command body a b p q = p ∙ sym q
kind_once kinds.Cancel settled context command body a b p q = p ∙ sym q
kind_once kinds.Find settled context command body a b p q = find_once settled context body (find_refusal context
    command)
    a b p q
kind_once kinds.Get settled context command body a b p q = get_once settled context body (get_refusal context command)
    a b p q
kind_once kinds.Echo settled context command body a b p q = p ∙ sym q
kind_once kinds.Store settled context command body a b p q = store_once context command body (store_refusal context
    command) a b
    p q
kind_once kinds.Unknown settled context command body a b p q = p ∙ sym q

-- A message is answered in one way.
pub serves_on_once : (settled : Option (Settled View)) (context : Option Context) (command : Command) (body : Option
    (List ℕ)) (a b : Service)
    → ServesOn settled context command body a → ServesOn settled context command body b → a ≡ b
serves_on_once settled None command body a b p q = p ∙ sym q
serves_on_once settled (Some context) command body a b p q = kind_once (kind_of command.field) settled context
    command body a b p q

-- ---- the PDUs of sub-operations

pub if_left_once : (g : Progress) (left : List Listed) (a b : List Pdu) → RespondsIfLeft g left a
    → RespondsIfLeft g left b
    → a ≡ b
if_left_once g [] a b p q = p ∙ sym q
if_left_once g (x ∷ left) a b p q = sending_once _ _ a b p q

-- Behind a sub-operation one list of PDUs is sent, and one C-GET goes on.
pub responds_by_once : (cancelled : Bool) (g : Progress) (left : List Listed) (a b : List Pdu)
    (m n : Option Retrieval) → RespondsBy cancelled g left a m → RespondsBy cancelled g left b n → (a ≡ b) × (m ≡ n)
responds_by_once true g left a b m n p q = (sending_once _ _ a b p.0 q.0, p.1 ∙ sym q.1)
responds_by_once false g left a b m n p q = (if_left_once g left a b p.0 q.0, p.1 ∙ sym q.1)
