-- Which statuses are pending, and which are final.
use Rattle.std.proofs.Common.{◌≡◌, ℕ, Bool, true, false, cond, List, Option, Some, None, Result, Ok, Err, inl, inr}
use Rattle.std.proofs.Common.{refl}
use Rattle.std.proofs.Common.{sym, ap, ◌∙◌}
use Rattle.std.specs.Prelude.{not, length, ◌==◌, ◌&&◌, nat_le}
use Rattle.std.proofs.lemmas.Bool.{eqb-true}
use Rattle.dictionary.specs.declared.commands.TheConstants.{RESPONSE_BIT, C_CANCEL_RQ, C_FIND_RQ, C_GET_RQ}
use Rattle.dictionary.specs.declared.commands.TheConstants.{C_ECHO_RQ, C_STORE_RQ}
use Rattle.dimse.specs.declared.status.Status.TheVariants.{UnableToPerformSubOperations, SubOperationsWithFailures}
use Rattle.archive_model.specs.declared.selection.Selection.{Selection}
use Rattle.archive_model.specs.Selection.{selection_of}
use Rattle.association_services.specs.declared.counts.Counts.{Counts}
use Rattle.association_services.specs.declared.call.Getting.{Getting}
use Rattle.association_services.specs.Get.{is_get, get_refusal, fetched_by, final_status, ServesSelection, ServesGet}
use Rattle.archive_model.specs.declared.view.View.{View}
use Rattle.data_set.specs.Set.{Set}
use Rattle.data_set.specs.declared.syntax.Syntax.{Syntax}
use Rattle.pdu.specs.declared.context.Context.{Context}
use Rattle.ul_state.specs.Answer.{is_storage}
use Rattle.ul_state.specs.declared.acceptor.Settled.{Settled}
use Rattle.dimse.specs.declared.command.Command.{Command}
use Rattle.dimse.specs.declared.status.Status.{Status}
use Rattle.dimse.specs.declared.status.Status.TheVariants.{Success, SopClassNotSupported, UnrecognizedOperation}
use Rattle.operation.specs.declared.fault.OpFault.{OpFault}
use Rattle.operation.specs.declared.fault.OpFault.TheVariants as faults
use Rattle.operation.specs.declared.taken.Taken.{Taken}
use Rattle.archive_model.specs.declared.fault.QueryFault.{QueryFault}
use Rattle.archive_model.specs.declared.query.Query.{Query}
use Rattle.archive_model.specs.Query.{query_of}
use Rattle.association_services.specs.declared.call.Finding.{Finding}
use Rattle.association_services.specs.declared.service.RowKind.{RowKind}
use Rattle.association_services.specs.declared.reply.PortFault.{PortFault}
use Rattle.association_services.specs.declared.reply.PortFault.TheVariants.{Memory, Busy, Collision, Shelf}
use Rattle.association_services.specs.declared.service.Kind.{Kind}
use Rattle.association_services.specs.declared.service.Kind.TheVariants as kinds
use Rattle.association_services.specs.declared.service.Service.{Service}
use Rattle.association_services.specs.declared.service.Service.TheVariants.{Responded, Queried, Fetched}
use Rattle.association_services.specs.Context.{is_other_class, syntax_of}
use Rattle.association_services.specs.Echo.{echo_status, is_verification}
use Rattle.association_services.specs.Find.{is_find, find_refusal, row_status, finding_of, queried_by, status_of_found}
use Rattle.association_services.specs.Find.{ServesIdentifier, ServesFind}
use Rattle.association_services.specs.Response.{is_pending}
use Rattle.association_services.specs.Service.{kind_of, unknown_status, ServesOn, ServesKind}
use Rattle.association_services.specs.Store.{store_refusal, status_of_fault, status_of_reply, ServesStore}

abbrev IsFinal : Status → Type 0
IsFinal status = is_pending status ≡ false

abbrev told_by : Status → Service
told_by status = Responded status

same_status : (a b : Status) → told_by a ≡ told_by b → a ≡ b
same_status a b e = cc

-- a response with a status that is final
final_as : (a b : Status) → told_by a ≡ told_by b → IsFinal b → IsFinal a
final_as a b e final = ap is_pending (same_status a b e) ∙ final

abbrev some_status : Status → Option Status
some_status status = Some status

same_some : (a b : Status) → some_status a ≡ some_status b → a ≡ b
same_some a b e = cc

refusal_by : (other wrong : Bool) (s : Status)
    → cond other (Some SopClassNotSupported) (cond wrong (Some UnrecognizedOperation) None) ≡ Some s → IsFinal s
refusal_by true wrong s e = ap is_pending (sym (same_some SopClassNotSupported s e))
refusal_by false true s e = ap is_pending (sym (same_some UnrecognizedOperation s e))
refusal_by false false s e = absurd cc

find_refused : (context : Context) (command : Command) (s : Status) → find_refusal context command ≡ Some s → IsFinal s
unfolding find_refusal
find_refused context command s e = refusal_by (is_other_class context command.affected_class) (not (is_find context))
    s e

get_refused : (context : Context) (command : Command) (s : Status) → get_refusal context command ≡ Some s → IsFinal s
unfolding get_refusal
get_refused context command s e = refusal_by (is_other_class context command.affected_class) (not (is_get context)) s e

store_refused : (context : Context) (command : Command) (s : Status) → store_refusal context command ≡ Some s
    → IsFinal s
unfolding store_refusal
store_refused context command s e = refusal_by (is_other_class context command.affected_class)
    (not (is_storage context.abstract_syntax)) s e

echo_by : (other is : Bool) → IsFinal (cond other SopClassNotSupported (cond is Success UnrecognizedOperation))
echo_by true is = refl
echo_by false true = refl
echo_by false false = refl

echo_final : (context : Context) (command : Command) → IsFinal (echo_status context command)
unfolding echo_status
echo_final context command = echo_by (is_other_class context command.affected_class) (is_verification context)

unknown_by : (other : Bool) → IsFinal (cond other SopClassNotSupported UnrecognizedOperation)
unknown_by true = refl
unknown_by false = refl

unknown_final : (context : Context) (command : Command) → IsFinal (unknown_status context command)
unfolding unknown_status
unknown_final context command = unknown_by (is_other_class context command.affected_class)

fault_final : (fault : OpFault) → IsFinal (status_of_fault fault)
fault_final faults.NoUid = refl
fault_final faults.Mismatch = refl
fault_final faults.BadSet = refl
fault_final faults.BadNote = refl
fault_final faults.TooLong = refl
fault_final faults.BadCorrection = refl
fault_final faults.UnknownKind = refl
fault_final faults.Shape = refl
fault_final faults.Memory = refl

-- what a reply to a store is told by
pub stored_final : (reply : Result Taken PortFault) → is_pending (status_of_reply reply) ≡ false
stored_final (Ok taken) = refl
stored_final (Err Memory) = refl
stored_final (Err Busy) = refl
stored_final (Err Collision) = refl
stored_final (Err Shelf) = refl

-- and what rows are ended by
pub found_final : (reply : Result (List Set) PortFault) → is_pending (status_of_found reply) ≡ false
found_final (Ok rows) = refl
found_final (Err fault) = refl

queried_final : (settled : Option (Settled View)) (syntax : Syntax) (r : Result Query QueryFault) (status : Status)
    → told_by status ≡ queried_by settled syntax r → IsFinal status
queried_final settled syntax (Ok query) status e = absurd cc
queried_final settled syntax (Err fault) status e = final_as status _ e refl

identifier_final : (settled : Option (Settled View)) (syntax : Syntax) (text : List ℕ) (status : Status)
    → ServesIdentifier settled syntax text (Responded status) → IsFinal status
identifier_final settled syntax text status (inl p) = queried_final settled syntax (query_of p.0) status p.2
identifier_final settled syntax text status (inr p) = final_as status _ p.2 refl

find_final : (settled : Option (Settled View)) (context : Context) (command : Command) (body : Option (List ℕ))
    (refusal : Option Status) (status : Status) → find_refusal context command ≡ refusal
    → ServesFind settled context body refusal (Responded status) → IsFinal status
find_final settled context command body (Some s) status is p = final_as status s p (find_refused context command s is)
find_final settled context command None None status is p = final_as status _ p refl
find_final settled context command (Some text) None status is p = identifier_final settled (syntax_of context) text
    status p

fetched_final : (settled : Option (Settled View)) (syntax : Syntax) (r : Result Selection QueryFault) (status : Status)
    → told_by status ≡ fetched_by settled syntax r → IsFinal status
fetched_final settled syntax (Ok selection) status e = absurd cc
fetched_final settled syntax (Err fault) status e = final_as status _ e refl

selection_final : (settled : Option (Settled View)) (syntax : Syntax) (text : List ℕ) (status : Status)
    → ServesSelection settled syntax text (Responded status) → IsFinal status
selection_final settled syntax text status (inl p) = fetched_final settled syntax (selection_of p.0) status p.2
selection_final settled syntax text status (inr p) = final_as status _ p.2 refl

get_final : (settled : Option (Settled View)) (context : Context) (command : Command) (body : Option (List ℕ))
    (refusal : Option Status) (status : Status) → get_refusal context command ≡ refusal
    → ServesGet settled context body refusal (Responded status) → IsFinal status
get_final settled context command body (Some s) status is p = final_as status s p (get_refused context command s is)
get_final settled context command None None status is p = final_as status _ p refl
get_final settled context command (Some text) None status is p = selection_final settled (syntax_of context) text
    status p

store_final : (context : Context) (command : Command) (body : Option (List ℕ)) (refusal : Option Status)
    (status : Status) → store_refusal context command ≡ refusal
    → ServesStore context command body refusal (Responded status) → IsFinal status
store_final context command body (Some s) status is p = final_as status s p (store_refused context command s is)
store_final context command None None status is p = final_as status _ p refl
store_final context command (Some text) None status is p = ap is_pending p.2 ∙ fault_final p.0

kind_final : (kind : Kind) (settled : Option (Settled View)) (context : Context) (command : Command)
    (body : Option (List ℕ)) (status : Status) → ServesKind kind settled context command body (Responded status)
    → IsFinal status
kind_final kinds.Response settled context command body status p = absurd cc
kind_final kinds.Cancel settled context command body status p = absurd cc
kind_final kinds.Find settled context command body status p = find_final settled context command
    body (find_refusal context command) status refl p
kind_final kinds.Get settled context command body status p = get_final settled context command
    body (get_refusal context command) status refl p
kind_final kinds.Echo settled context command body status p = final_as status _ p (echo_final context command)
kind_final kinds.Store settled context command body status p = store_final context command
    body (store_refusal context command) status refl p
kind_final kinds.Unknown settled context command body status p = final_as status _ p (unknown_final context command)

-- what a message is responded at once is final
pub on_final : (settled : Option (Settled View)) (context : Option Context) (command : Command) (body : Option (List ℕ))
    (status : Status) → ServesOn settled context command body (Responded status) → is_pending status ≡ false
on_final settled None command body status p = absurd cc
on_final settled (Some context) command body status p = kind_final (kind_of command.field) settled context command body
    status p

-- ---- rows

pub row_pending : (partial : Bool) → is_pending (row_status partial) ≡ true
row_pending true = refl
row_pending false = refl

abbrev asks_by : Finding → RowKind → Service
asks_by finding kind = Queried finding kind

same_kind : (f g : Finding) (k l : RowKind) → asks_by f k ≡ asks_by g l → k ≡ l
same_kind f g k l e = cc

same_finding : (f g : Finding) (k l : RowKind) → asks_by f k ≡ asks_by g l → f ≡ g
same_finding f g k l e = cc

of_query : (settled : Option (Settled View)) (query : Query) → (finding_of settled query).query ≡ query
of_query None query = refl
of_query (Some settled) query = refl

queried_kind : (settled : Option (Settled View)) (syntax : Syntax) (r : Result Query QueryFault) (finding : Finding)
    (kind : RowKind) → asks_by finding kind ≡ queried_by settled syntax r
    → kind.status ≡ row_status finding.query.partial
queried_kind settled syntax (Ok query) finding kind e =
    ap (λ (k : RowKind). k.status) (same_kind finding _ kind _ e)
    ∙ ap (λ (q : Query). row_status q.partial)
    (sym (ap (λ (f : Finding). f.query) (same_finding finding _ kind _ e) ∙ of_query settled query))
queried_kind settled syntax (Err fault) finding kind e = absurd cc

identifier_kind : (settled : Option (Settled View)) (syntax : Syntax) (text : List ℕ) (finding : Finding)
    (kind : RowKind) → ServesIdentifier settled syntax text (Queried finding kind)
    → kind.status ≡ row_status finding.query.partial
identifier_kind settled syntax text finding kind (inl p) = queried_kind settled syntax (query_of p.0) finding kind
    p.2
identifier_kind settled syntax text finding kind (inr p) = absurd (let e = p.2 in cc)

find_kind : (settled : Option (Settled View)) (context : Context) (body : Option (List ℕ)) (refusal : Option Status)
    (finding : Finding) (kind : RowKind) → ServesFind settled context body refusal (Queried finding kind)
    → kind.status ≡ row_status finding.query.partial
find_kind settled context body (Some s) finding kind p = absurd cc
find_kind settled context None None finding kind p = absurd cc
find_kind settled context (Some text) None finding kind p = identifier_kind settled (syntax_of context) text
    finding kind p

store_none : (context : Context) (command : Command) (body : Option (List ℕ)) (refusal : Option Status)
    (finding : Finding) (kind : RowKind) → ServesStore context command body refusal (Queried finding kind) → ⊥
store_none context command body (Some s) finding kind p = cc
store_none context command None None finding kind p = cc
store_none context command (Some text) None finding kind p = p

fetched_none : (settled : Option (Settled View)) (syntax : Syntax) (r : Result Selection QueryFault) (finding : Finding)
    (kind : RowKind) → asks_by finding kind ≡ fetched_by settled syntax r → ⊥
fetched_none settled syntax (Ok selection) finding kind e = cc
fetched_none settled syntax (Err fault) finding kind e = cc

get_none : (settled : Option (Settled View)) (context : Context) (body : Option (List ℕ)) (refusal : Option Status)
    (finding : Finding) (kind : RowKind) → ServesGet settled context body refusal (Queried finding kind) → ⊥
get_none settled context body (Some s) finding kind p = cc
get_none settled context None None finding kind p = cc
get_none settled context (Some text) None finding kind (inl p) = fetched_none settled (syntax_of context)
    (selection_of p.0) finding kind p.2
get_none settled context (Some text) None finding kind (inr p) = let e = p.2 in cc

kind_kind : (of : Kind) (settled : Option (Settled View)) (context : Context) (command : Command)
    (body : Option (List ℕ)) (finding : Finding) (kind : RowKind)
    → ServesKind of settled context command body (Queried finding kind) → kind.status ≡ row_status finding.query.partial
kind_kind kinds.Response settled context command body finding kind p = absurd cc
kind_kind kinds.Cancel settled context command body finding kind p = absurd cc
kind_kind kinds.Find settled context command body finding kind p = find_kind settled context
    body (find_refusal context command) finding kind p
kind_kind kinds.Get settled context command body finding kind p = absurd (get_none settled context
    body (get_refusal context command) finding kind p)
kind_kind kinds.Echo settled context command body finding kind p = absurd cc
kind_kind kinds.Store settled context command body finding kind p = absurd (store_none context command
    body (store_refusal context command) finding kind p)
kind_kind kinds.Unknown settled context command body finding kind p = absurd cc

-- The status of a query's rows says whether it is partial.
pub on_kind : (settled : Option (Settled View)) (context : Option Context) (command : Command) (body : Option (List ℕ))
    (finding : Finding) (kind : RowKind) → ServesOn settled context command body (Queried finding kind)
    → kind.status ≡ row_status finding.query.partial
on_kind settled None command body finding kind p = absurd cc
on_kind settled (Some context) command body finding kind p = kind_kind (kind_of command.field) settled context
    command body finding kind p

-- ---- a C-GET

abbrev fetches_by : Getting → Syntax → Service
fetches_by getting syntax = Fetched getting syntax

queried_no_get : (settled : Option (Settled View)) (syntax : Syntax) (r : Result Query QueryFault) (getting : Getting)
    (of : Syntax) → fetches_by getting of ≡ queried_by settled syntax r → ⊥
queried_no_get settled syntax (Ok query) getting of e = cc
queried_no_get settled syntax (Err fault) getting of e = cc

find_no_get : (settled : Option (Settled View)) (context : Context) (body : Option (List ℕ)) (refusal : Option Status)
    (getting : Getting) (of : Syntax) → ServesFind settled context body refusal (Fetched getting of) → ⊥
find_no_get settled context body (Some s) getting of p = cc
find_no_get settled context None None getting of p = cc
find_no_get settled context (Some text) None getting of (inl p) = queried_no_get settled (syntax_of context)
    (query_of p.0) getting of p.2
find_no_get settled context (Some text) None getting of (inr p) = let e = p.2 in cc

store_no_get : (context : Context) (command : Command) (body : Option (List ℕ)) (refusal : Option Status)
    (getting : Getting) (of : Syntax) → ServesStore context command body refusal (Fetched getting of) → ⊥
store_no_get context command body (Some s) getting of p = cc
store_no_get context command None None getting of p = cc
store_no_get context command (Some text) None getting of p = p

kind_is_get : (kind : Kind) (settled : Option (Settled View)) (context : Context) (command : Command)
    (body : Option (List ℕ)) (getting : Getting) (of : Syntax)
    → ServesKind kind settled context command body (Fetched getting of) → kind ≡ kinds.Get
kind_is_get kinds.Response settled context command body getting of p = absurd cc
kind_is_get kinds.Cancel settled context command body getting of p = absurd cc
kind_is_get kinds.Find settled context command body getting of p = absurd (find_no_get settled context
    body (find_refusal context command) getting of p)
kind_is_get kinds.Get settled context command body getting of p = refl
kind_is_get kinds.Echo settled context command body getting of p = absurd cc
kind_is_get kinds.Store settled context command body getting of p = absurd (store_no_get context command
    body (store_refusal context command) getting of p)
kind_is_get kinds.Unknown settled context command body getting of p = absurd cc

field_by : (response cancel find get echo store : Bool)
    → cond response kinds.Response (cond cancel kinds.Cancel (cond find kinds.Find (cond get kinds.Get (cond echo
    kinds.Echo (cond store kinds.Store kinds.Unknown))))) ≡ kinds.Get → get ≡ true
field_by true cancel find get echo store e = absurd cc
field_by false true find get echo store e = absurd cc
field_by false false true get echo store e = absurd cc
field_by false false false true echo store e = refl
field_by false false false false true store e = absurd cc
field_by false false false false false true e = absurd cc
field_by false false false false false false e = absurd cc

field_is : (field : ℕ) → kind_of field ≡ kinds.Get → field ≡ C_GET_RQ
field_is field e = eqb-true field C_GET_RQ (field_by (nat_le RESPONSE_BIT field) (field == C_CANCEL_RQ)
    (field == C_FIND_RQ) (field == C_GET_RQ) (field == C_ECHO_RQ) (field == C_STORE_RQ) e)

-- What the port is asked to get is asked by a C-GET.
pub on_is_get : (settled : Option (Settled View)) (context : Option Context) (command : Command)
    (body : Option (List ℕ)) (getting : Getting) (of : Syntax)
    → ServesOn settled context command body (Fetched getting of) → command.field ≡ C_GET_RQ
on_is_get settled None command body getting of p = absurd cc
on_is_get settled (Some context) command body getting of p = field_is command.field (kind_is_get (kind_of
    command.field) settled context command body getting of p)

end_by : (none some : Bool) → is_pending (cond none Success (cond some UnableToPerformSubOperations
    SubOperationsWithFailures)) ≡ false
end_by true some = refl
end_by false true = refl
end_by false false = refl

-- what sub-operations are ended by
pub counts_final : (k : Counts) → is_pending (final_status k) ≡ false
counts_final k = end_by (length k.failed == 0 && k.warning == 0) (k.completed == 0 && k.warning == 0)
