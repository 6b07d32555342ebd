-- The text that is written for a PDU, and which PDUs have one.
use Rattle.std.specs.Prelude.{◌≡◌, ◌≢◌, ◌<◌, ◌≤◌, ℕ, ◌+◌, ◌^◌, Bool, true, false, IsTrue, List, [], ◌∷◌, ◌++◌, ◌==◌}
use Rattle.std.specs.Prelude.{length, map, Option, Some, None, IfSome, if◌then◌else◌, ⊤}
use Rattle.std.specs.List.{flat_map, list_all, AllByRecursion}
use Rattle.std.specs.Int.{w16, w32, to_be_bytes}
use Rattle.pdu.specs.declared.header.TheConstants.{LONGEST_BODY, LONGEST_ACCEPT, P_DATA}
use Rattle.pdu.specs.declared.item.TheConstants.{APPLICATION_CONTEXT, PROPOSED_CONTEXT, ANSWERED_CONTEXT}
use Rattle.pdu.specs.declared.item.TheConstants.{ABSTRACT_SYNTAX, TRANSFER_SYNTAX, USER_INFORMATION, MAXIMUM_LENGTH}
use Rattle.pdu.specs.declared.item.TheConstants.{IMPLEMENTATION_CLASS, ROLE_SELECTION}
use Rattle.pdu.specs.declared.item.Item.{Item}
use Rattle.pdu.specs.declared.user.Role.{Role}
use Rattle.pdu.specs.declared.user.UserInformation.{UserInformation}
use Rattle.pdu.specs.declared.context.ProposedContext.{ProposedContext}
use Rattle.pdu.specs.declared.context.AnsweredContext.{AnsweredContext}
use Rattle.pdu.specs.declared.opening.Opening.{Opening}
use Rattle.pdu.specs.declared.request.Request.{Request}
use Rattle.pdu.specs.declared.accept.Accept.{Accept}
use Rattle.pdu.specs.declared.pdv.Pdv.{Pdv}
use Rattle.pdu.specs.declared.value.Pdu.{Pdu}
use Rattle.pdu.specs.declared.value.Pdu.TheVariants.{AssociateRq, AssociateAc, AssociateRj, PData, ReleaseRq, ReleaseRp}
use Rattle.pdu.specs.declared.value.Pdu.TheVariants.{Abort}
use Rattle.octets.specs.Graphic.{is_graphic}
use Rattle.octets.specs.Padding.{without_padding}
use Rattle.pdu.specs.Grammar.{is_odd, are_distinct, code_of}

-- ---- items

abbrev pub item_of : ℕ → List ℕ → Item
item_of kind content = record { kind = kind; content = content }

-- a type, a byte 00, the length of two bytes, and the content
abbrev pub item_text : Item → List ℕ
item_text item = item.kind ∷ 0 ∷ (to_be_bytes w16 (length item.content) ++ item.content)

abbrev pub items_text : List Item → List ℕ
items_text items = flat_map item_text items

abbrev pub HasLength : Item → Type 0
HasLength item = length item.content < 2 ^ 16

-- ---- user information

abbrev pub role_text : Role → List ℕ
role_text role = to_be_bytes w16 (length role.class) ++ (role.class ++ role.scu ∷ role.scp ∷ [])

abbrev pub role_item : Role → Item
role_item role = item_of ROLE_SELECTION (role_text role)

-- no limit is not said
abbrev pub length_items : ℕ → List Item
length_items n = if n == 0 then [] else item_of MAXIMUM_LENGTH (to_be_bytes w32 n) ∷ []

abbrev pub class_items : Option (List ℕ) → List Item
class_items None = []
class_items (Some class) = item_of IMPLEMENTATION_CLASS class ∷ []

abbrev pub user_items : UserInformation → List Item
user_items user = length_items user.maximum_length ++ (class_items user.implementation_class ++ map role_item
    user.roles)

abbrev pub user_item : UserInformation → Item
user_item user = item_of USER_INFORMATION (items_text (user_items user))

-- ---- presentation contexts

abbrev pub syntax_item : List ℕ → Item
syntax_item syntax = item_of TRANSFER_SYNTAX syntax

abbrev pub proposal_items : ProposedContext → List Item
proposal_items context = item_of ABSTRACT_SYNTAX context.abstract_syntax ∷ map syntax_item context.transfer_syntaxes

abbrev pub proposal_item : ProposedContext → Item
proposal_item context = item_of PROPOSED_CONTEXT (context.id ∷ 0 ∷ 0 ∷ 0 ∷ items_text (proposal_items context))

abbrev pub answer_items : AnsweredContext → List Item
answer_items context = syntax_item context.transfer_syntax ∷ []

abbrev pub answer_item : AnsweredContext → Item
answer_item context = item_of ANSWERED_CONTEXT (context.id ∷ 0 ∷ context.result ∷ 0 ∷ items_text (answer_items context))

-- ---- bodies

abbrev pub opening_text : Opening → List ℕ
opening_text opening = to_be_bytes w16 opening.version ++ 0 ∷ 0
    ∷ (opening.called ++ (opening.calling ++ opening.reserved))

-- the application context, the presentation contexts and the user information
abbrev pub request_items : Request → List Item
request_items request = item_of APPLICATION_CONTEXT request.application_context ∷ (map proposal_item request.contexts
    ++ user_item request.user ∷ [])

abbrev pub accept_items : Accept → List Item
accept_items accept = item_of APPLICATION_CONTEXT accept.application_context
    ∷ (map answer_item accept.contexts ++ user_item accept.user ∷ [])

abbrev pub control_of : Bool → Bool → ℕ
control_of false false = 0
control_of true false = 1
control_of false true = 2
control_of true true = 3

-- what stands before a fragment: the length, the context and the control header (PS3.8, 9.3.5.1 and E.2)
abbrev pub pdv_head : Pdv → List ℕ
pdv_head v = to_be_bytes w32 (2 + length v.fragment) ++ (v.context ∷ control_of v.command v.last ∷ [])

abbrev pub pdv_text : Pdv → List ℕ
pdv_text v = to_be_bytes w32 (2 + length v.fragment) ++ (v.context ∷ control_of v.command v.last ∷ v.fragment)

abbrev pub body_text : Pdu → List ℕ
body_text (AssociateRq request) = opening_text request.opening ++ items_text (request_items request)
body_text (AssociateAc accept) = opening_text accept.opening ++ items_text (accept_items accept)
body_text (AssociateRj reject) = 0 ∷ reject.result ∷ reject.source ∷ reject.reason ∷ []
body_text (PData values) = flat_map pdv_text values
body_text ReleaseRq = 0 ∷ 0 ∷ 0 ∷ 0 ∷ []
body_text ReleaseRp = 0 ∷ 0 ∷ 0 ∷ 0 ∷ []
body_text (Abort source reason) = 0 ∷ 0 ∷ source ∷ reason ∷ []

-- what stands before the values of a P-DATA-TF (PS3.8, 9.3.5)
abbrev pub data_head : List Pdv → List ℕ
data_head values = P_DATA ∷ 0 ∷ to_be_bytes w32 (length (flat_map pdv_text values))

-- the type, a byte 00, the length of four bytes, and the body
unfoldable pub text_of : Pdu → List ℕ
text_of p = code_of p ∷ 0 ∷ (to_be_bytes w32 (length (body_text p)) ++ body_text p)

-- ---- which values are PDUs

-- bytes 20 to 7E with no padding at the end
abbrev pub IsUidText : List ℕ → Type 0
IsUidText uid = (uid ≡ without_padding uid) × IsTrue (list_all is_graphic uid)

pub record FitsRole (role : Role) : Type 0 where
  pub class : IsUidText role.class
  pub short : length role.class < 2 ^ 16

pub record FitsUser (user : UserInformation) : Type 0 where
  pub maximum_length : user.maximum_length < 2 ^ 32
  pub class : IfSome user.implementation_class IsUidText
  pub roles : AllByRecursion FitsRole user.roles
  pub lengths : AllByRecursion HasLength (user_items user)

pub record FitsProposal (context : ProposedContext) : Type 0 where
  pub odd : IsTrue (is_odd context.id)
  pub abstract_syntax : IsUidText context.abstract_syntax
  pub some : length context.transfer_syntaxes ≢ 0
  pub transfer_syntaxes : AllByRecursion IsUidText context.transfer_syntaxes
  pub lengths : AllByRecursion HasLength (proposal_items context)

pub record FitsAnswer (context : AnsweredContext) : Type 0 where
  pub odd : IsTrue (is_odd context.id)
  pub transfer_syntax : IsUidText context.transfer_syntax
  pub lengths : AllByRecursion HasLength (answer_items context)

pub record FitsOpening (opening : Opening) : Type 0 where
  pub version : opening.version < 2 ^ 16
  pub called : length opening.called ≡ 16
  pub calling : length opening.calling ≡ 16
  pub reserved : length opening.reserved ≡ 32

pub record FitsRequest (request : Request) : Type 0 where
  pub opening : FitsOpening request.opening
  pub application_context : IsUidText request.application_context
  pub contexts : AllByRecursion FitsProposal request.contexts
  pub distinct : IsTrue (are_distinct (map (λ c. c.id) request.contexts))
  pub user : FitsUser request.user
  pub lengths : AllByRecursion HasLength (request_items request)
  pub whole : length (body_text (AssociateRq request)) ≤ LONGEST_BODY

pub record FitsAccept (accept : Accept) : Type 0 where
  pub opening : FitsOpening accept.opening
  pub application_context : IsUidText accept.application_context
  pub contexts : AllByRecursion FitsAnswer accept.contexts
  pub distinct : IsTrue (are_distinct (map (λ c. c.id) accept.contexts))
  pub user : FitsUser accept.user
  pub lengths : AllByRecursion HasLength (accept_items accept)
  pub whole : length (body_text (AssociateAc accept)) ≤ LONGEST_ACCEPT

-- a value that the grammar has: a rejection, a release or an abort is always one
abbrev pub IsPdu : Pdu → Type 0
IsPdu (AssociateRq request) = FitsRequest request
IsPdu (AssociateAc accept) = FitsAccept accept
IsPdu (AssociateRj reject) = ⊤
IsPdu (PData values) = (length values ≢ 0) × (length (body_text (PData values)) ≤ LONGEST_BODY)
IsPdu ReleaseRq = ⊤
IsPdu ReleaseRp = ⊤
IsPdu (Abort source reason) = ⊤
