-- Which texts spell a PDU (PS3.8, 9.3; PS3.7, D.3.3), from the side of the value.
use Rattle.std.specs.Prelude.{◌≡◌, ◌≢◌, ◌<◌, ◌≤◌, ◌⊎◌, ℕ, ◌+◌, ◌/◌, ◌%◌, Result, Ok, Err, take, slice_index, Bool, true}
use Rattle.std.specs.Prelude.{IsTrue, not, List, [], ◌∷◌, ◌++◌, ◌==◌, ◌&&◌, length, map, Option, Some}
use Rattle.std.specs.Prelude.{None, if◌then◌else◌, ⊤}
use Rattle.std.specs.List.{list_all, list_any}
use Rattle.std.specs.Int.{w16, w32, from_be_bytes}
use Rattle.octets.specs.Graphic.{is_graphic}
use Rattle.octets.specs.Padding.{without_padding}
use Rattle.pdu.specs.declared.header.TheConstants.{HEADER_LENGTH, ASSOCIATE_RQ, ASSOCIATE_AC, ASSOCIATE_RJ, P_DATA}
use Rattle.pdu.specs.declared.header.TheConstants.{RELEASE_RQ, RELEASE_RP, ABORT, FIXED_LENGTH}
use Rattle.pdu.specs.declared.item.TheConstants.{APPLICATION_CONTEXT, PROPOSED_CONTEXT, ANSWERED_CONTEXT}
use Rattle.pdu.specs.declared.item.TheConstants.{ABSTRACT_SYNTAX, TRANSFER_SYNTAX, USER_INFORMATION, MAXIMUM_LENGTH}
use Rattle.pdu.specs.declared.item.TheConstants.{IMPLEMENTATION_CLASS, ROLE_SELECTION}
use Rattle.pdu.specs.declared.item.Item.{Item}
use Rattle.pdu.specs.declared.user.Role.{Role}
use Rattle.pdu.specs.declared.user.UserInformation.{UserInformation}
use Rattle.pdu.specs.declared.context.ProposedContext.{ProposedContext}
use Rattle.pdu.specs.declared.context.AnsweredContext.{AnsweredContext}
use Rattle.pdu.specs.declared.opening.Opening.{Opening}
use Rattle.pdu.specs.declared.request.Request.{Request}
use Rattle.pdu.specs.declared.accept.Accept.{Accept}
use Rattle.pdu.specs.declared.pdv.Pdv.{Pdv}
use Rattle.pdu.specs.declared.value.Pdu.{Pdu}
use Rattle.pdu.specs.declared.value.Pdu.TheVariants.{AssociateRq, AssociateAc, AssociateRj, PData, ReleaseRq, ReleaseRp}
use Rattle.pdu.specs.declared.value.Pdu.TheVariants.{Abort}
use Rattle.pdu.specs.declared.value.Step.{Step}
use Rattle.pdu.specs.declared.value.Step.TheVariants.{Need, Done}
use Rattle.pdu.specs.declared.fault.PduFault.{PduFault}
use Rattle.pdu.specs.Header.{header_fault, HeaderParts}

-- ---- lists in a text

-- one after the other, up to the end of the text
abbrev pub Fill : {V : Type 0} → (V → List ℕ → List ℕ → Type 0) → List V → List ℕ → Type 0
Fill Begins [] text = text ≡ []
Fill Begins (v ∷ vs) text = (rest : List ℕ) × Begins v text rest × Fill Begins vs rest

-- a value for each content, in order
abbrev pub Each : {V : Type 0} → (V → List ℕ → Type 0) → List V → List (List ℕ) → Type 0
Each Is [] [] = ⊤
Each Is [] (content ∷ contents) = ⊥
Each Is (v ∷ vs) [] = ⊥
Each Is (v ∷ vs) (content ∷ contents) = Is v content × Each Is vs contents

-- one content and no other, which is the value's
abbrev pub Sole : {V : Type 0} → (V → List ℕ → Type 0) → V → List (List ℕ) → Type 0
Sole Is v contents = (content : List ℕ) × (contents ≡ content ∷ []) × Is v content

-- ---- items (PS3.8, 9.3.2)

-- a type, a reserved byte, the length of the content with the high byte first, and the content
abbrev pub BeginsItem : Item → List ℕ → List ℕ → Type 0
BeginsItem item text rest = (reserved high low : ℕ)
    × (from_be_bytes w16 (high ∷ low ∷ []) ≡ length item.content)
    × (text ≡ item.kind ∷ reserved ∷ high ∷ low ∷ (item.content ++ rest))

-- the contents of the items of one kind, in order
abbrev pub contents_of : ℕ → List Item → List (List ℕ)
contents_of kind [] = []
contents_of kind (item ∷ items) =
    if item.kind == kind then item.content ∷ contents_of kind items else contents_of kind items

-- a UID is its content without padding, of bytes 20 to 7E
abbrev pub IsUid : List ℕ → List ℕ → Type 0
IsUid uid content = (uid ≡ without_padding content) × IsTrue (list_all is_graphic uid)

-- ---- user information (PS3.8, 9.3.2.3)

-- four bytes, the high one first (PS3.8, D.1)
abbrev pub IsLength : ℕ → List ℕ → Type 0
IsLength n content = (a b c d : ℕ) × (from_be_bytes w32 (a ∷ b ∷ c ∷ d ∷ []) ≡ n) × (content ≡ a ∷ b ∷ c ∷ d ∷ [])

-- a UID behind its length, and the bytes of both roles (PS3.7, D.3.3.4)
pub record IsRole (role : Role) (content : List ℕ) : Type 0 where
  pub high : ℕ
  pub low : ℕ
  pub text : List ℕ
  pub size : from_be_bytes w16 (high ∷ low ∷ []) ≡ length text
  pub uid : IsUid role.class text
  pub parts : content ≡ high ∷ low ∷ (text ++ role.scu ∷ role.scp ∷ [])

abbrev pub first_or : ℕ → List ℕ → ℕ
first_or n [] = n
first_or n (x ∷ xs) = x

abbrev pub first_of : List (List ℕ) → Option (List ℕ)
first_of [] = None
first_of (x ∷ xs) = Some x

-- sub-items in any order; of several lengths or classes the first counts, and a missing length is 0
pub record IsUser (user : UserInformation) (text : List ℕ) : Type 0 where
  pub items : List Item
  pub filled : Fill BeginsItem items text
  pub lengths : List ℕ
  pub are_lengths : Each IsLength lengths (contents_of MAXIMUM_LENGTH items)
  pub maximum_length : first_or 0 lengths ≡ user.maximum_length
  pub classes : List (List ℕ)
  pub are_classes : Each IsUid classes (contents_of IMPLEMENTATION_CLASS items)
  pub implementation_class : first_of classes ≡ user.implementation_class
  pub roles : Each IsRole user.roles (contents_of ROLE_SELECTION items)

-- ---- presentation contexts (PS3.8, 9.3.2.2 and 9.3.3.2)

abbrev pub is_odd : ℕ → Bool
is_odd n = n % 2 == 1

-- an odd ID, three reserved bytes, one abstract syntax and one transfer syntax or more
pub record IsProposal (context : ProposedContext) (content : List ℕ) : Type 0 where
  pub a : ℕ
  pub b : ℕ
  pub c : ℕ
  pub text : List ℕ
  pub parts : content ≡ context.id ∷ a ∷ b ∷ c ∷ text
  pub odd : IsTrue (is_odd context.id)
  pub items : List Item
  pub filled : Fill BeginsItem items text
  pub abstract_syntax : Sole IsUid context.abstract_syntax (contents_of ABSTRACT_SYNTAX items)
  pub transfer_syntaxes : Each IsUid context.transfer_syntaxes (contents_of TRANSFER_SYNTAX items)
  pub some : length context.transfer_syntaxes ≢ 0

-- an odd ID, a reserved byte, the result, a reserved byte and one transfer syntax
pub record IsAnswer (context : AnsweredContext) (content : List ℕ) : Type 0 where
  pub a : ℕ
  pub b : ℕ
  pub text : List ℕ
  pub parts : content ≡ context.id ∷ a ∷ context.result ∷ b ∷ text
  pub odd : IsTrue (is_odd context.id)
  pub items : List Item
  pub filled : Fill BeginsItem items text
  pub transfer_syntax : Sole IsUid context.transfer_syntax (contents_of TRANSFER_SYNTAX items)

abbrev pub is_among : ℕ → List ℕ → Bool
is_among n ns = list_any (λ m. m == n) ns

-- no number stands twice
abbrev pub are_distinct : List ℕ → Bool
are_distinct [] = true
are_distinct (n ∷ ns) = not (is_among n ns) && are_distinct ns

-- ---- bodies

-- the version, two reserved bytes, both titles and 32 bytes (PS3.8, 9.3.2)
pub record BeginsOpening (opening : Opening) (text rest : List ℕ) : Type 0 where
  pub high : ℕ
  pub low : ℕ
  pub a : ℕ
  pub b : ℕ
  pub version : from_be_bytes w16 (high ∷ low ∷ []) ≡ opening.version
  pub called : length opening.called ≡ 16
  pub calling : length opening.calling ≡ 16
  pub reserved : length opening.reserved ≡ 32
  pub parts : text ≡ high ∷ low ∷ a ∷ b ∷ (opening.called ++ (opening.calling ++ (opening.reserved ++ rest)))

-- items in any order, one of them the application context, one the user information (PS3.8, 9.3.2)
pub record IsRequest (request : Request) (body : List ℕ) : Type 0 where
  pub text : List ℕ
  pub opening : BeginsOpening request.opening body text
  pub items : List Item
  pub filled : Fill BeginsItem items text
  pub application_context : Sole IsUid request.application_context (contents_of APPLICATION_CONTEXT items)
  pub contexts : Each IsProposal request.contexts (contents_of PROPOSED_CONTEXT items)
  pub distinct : IsTrue (are_distinct (map (λ c. c.id) request.contexts))
  pub user : Sole IsUser request.user (contents_of USER_INFORMATION items)

-- the same, with answered contexts (PS3.8, 9.3.3)
pub record IsAccept (accept : Accept) (body : List ℕ) : Type 0 where
  pub text : List ℕ
  pub opening : BeginsOpening accept.opening body text
  pub items : List Item
  pub filled : Fill BeginsItem items text
  pub application_context : Sole IsUid accept.application_context (contents_of APPLICATION_CONTEXT items)
  pub contexts : Each IsAnswer accept.contexts (contents_of ANSWERED_CONTEXT items)
  pub distinct : IsTrue (are_distinct (map (λ c. c.id) accept.contexts))
  pub user : Sole IsUser accept.user (contents_of USER_INFORMATION items)

-- bits 0 and 1 of a control byte (PS3.8, E.2); the others are not tested
abbrev pub is_command : ℕ → Bool
is_command control = control % 2 == 1

abbrev pub is_last : ℕ → Bool
is_last control = control / 2 % 2 == 1

-- the length of what follows, a context, a control byte and a fragment (PS3.8, 9.3.5.1)
abbrev pub BeginsPdv : Pdv → List ℕ → List ℕ → Type 0
BeginsPdv v text rest = (a b c d control : ℕ)
    × (from_be_bytes w32 (a ∷ b ∷ c ∷ d ∷ []) ≡ 2 + length v.fragment)
    × (is_command control ≡ v.command) × (is_last control ≡ v.last)
    × (text ≡ a ∷ b ∷ c ∷ d ∷ v.context ∷ control ∷ (v.fragment ++ rest))

-- what stands behind the header
abbrev pub IsBody : Pdu → List ℕ → Type 0
IsBody (AssociateRq request) body = IsRequest request body
IsBody (AssociateAc accept) body = IsAccept accept body
IsBody (AssociateRj reject) body = (reserved : ℕ) × (body ≡ reserved ∷ reject.result ∷ reject.source ∷ reject.reason
    ∷ [])
IsBody (PData values) body = (length values ≢ 0) × Fill BeginsPdv values body
IsBody ReleaseRq body = length body ≡ FIXED_LENGTH
IsBody ReleaseRp body = length body ≡ FIXED_LENGTH
IsBody (Abort source reason) body = (a b : ℕ) × (body ≡ a ∷ b ∷ source ∷ reason ∷ [])

-- the type (PS3.8, 9.3.1)
abbrev pub code_of : Pdu → ℕ
code_of (AssociateRq request) = ASSOCIATE_RQ
code_of (AssociateAc accept) = ASSOCIATE_AC
code_of (AssociateRj reject) = ASSOCIATE_RJ
code_of (PData values) = P_DATA
code_of ReleaseRq = RELEASE_RQ
code_of ReleaseRp = RELEASE_RP
code_of (Abort source reason) = ABORT

-- the type, a reserved byte, a lawful length with the high byte first, and a body of that length
pub record Spells (p : Pdu) (text : List ℕ) : Type 0 where
  pub reserved : ℕ
  pub a : ℕ
  pub b : ℕ
  pub c : ℕ
  pub d : ℕ
  pub body : List ℕ
  pub size : from_be_bytes w32 (a ∷ b ∷ c ∷ d ∷ []) ≡ length body
  pub lawful : header_fault (code_of p) (length body) ≡ None
  pub is_body : IsBody p body
  pub parts : text ≡ code_of p ∷ reserved ∷ a ∷ b ∷ c ∷ d ∷ body

-- ---- what else the front of a stream can be

abbrev pub type_of : List ℕ → ℕ
type_of bytes = slice_index bytes 0

-- the length in the header, the high byte first
abbrev pub size_of : List ℕ → ℕ
size_of bytes = from_be_bytes w32 (slice_index bytes 2 ∷ slice_index bytes 3 ∷ slice_index bytes 4 ∷ slice_index bytes 5
    ∷ [])

-- a whole header with this fault, whatever stands behind it
abbrev pub HasHeaderFault : PduFault → List ℕ → Type 0
HasHeaderFault fault bytes = (HEADER_LENGTH ≤ length bytes)
    × (header_fault (type_of bytes) (size_of bytes) ≡ Some fault)

-- a whole header with no fault
abbrev pub HasLawfulHeader : List ℕ → Type 0
HasLawfulHeader bytes = (HEADER_LENGTH ≤ length bytes) × (header_fault (type_of bytes) (size_of bytes) ≡ None)

-- six bytes that say this type and this length
abbrev pub IsHeader : HeaderParts → List ℕ → Type 0
IsHeader header bytes = (length bytes ≡ HEADER_LENGTH) × (type_of bytes ≡ header.code) × (size_of bytes ≡ header.length)

-- fewer bytes than a header, or a lawful header whose body is not whole
abbrev pub IsUnfinished : List ℕ → Type 0
IsUnfinished bytes = (length bytes < HEADER_LENGTH)
    ⊎ (HasLawfulHeader bytes × (length bytes < size_of bytes + HEADER_LENGTH))

-- a lawful header and a whole body, which together spell no PDU
abbrev pub HasBadBody : List ℕ → Type 0
HasBadBody bytes = HasLawfulHeader bytes × (size_of bytes + HEADER_LENGTH ≤ length bytes)
    × ((p : Pdu) → Spells p (take (size_of bytes + HEADER_LENGTH) bytes) → ⊥)

-- P of the PDU that was read and of how many bytes it took
abbrev pub IfDone : Result Step PduFault → (Pdu → ℕ → Type 0) → Type 0
IfDone (Ok (Done p n)) P = P p n
IfDone (Ok Need) P = ⊤
IfDone (Err fault) P = ⊤
