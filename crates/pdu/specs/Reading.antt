-- How a body is read, step by step. Each step is a function of the text.
use Rattle.std.specs.Prelude.{◌≡◌, ℕ, zero, suc, ◌+◌, ◌-◌, not, List, [], ◌∷◌, ◌==◌, ◌&&◌, length, take, drop, map}
use Rattle.std.specs.Prelude.{slice_index, nat_lt, Option, Some, None, Result, Ok, Err, if◌then◌else◌}
use Rattle.std.specs.List.{list_all}
use Rattle.std.specs.Int.{w16, w32, from_be_bytes}
use Rattle.octets.specs.Gives.{◌>>=◌}
use Rattle.pdu.specs.declared.fault.PduFault.{PduFault}
use Rattle.pdu.specs.declared.fault.PduFault.TheVariants.{BadItem}
use Rattle.pdu.specs.declared.header.TheConstants.{HEADER_LENGTH, OPENING_LENGTH, ASSOCIATE_RQ, ASSOCIATE_AC}
use Rattle.pdu.specs.declared.header.TheConstants.{ASSOCIATE_RJ, P_DATA, RELEASE_RQ, RELEASE_RP}
use Rattle.pdu.specs.declared.item.TheConstants.{APPLICATION_CONTEXT, PROPOSED_CONTEXT, ANSWERED_CONTEXT}
use Rattle.pdu.specs.declared.item.TheConstants.{ABSTRACT_SYNTAX, TRANSFER_SYNTAX, USER_INFORMATION, MAXIMUM_LENGTH}
use Rattle.pdu.specs.declared.item.TheConstants.{IMPLEMENTATION_CLASS, ROLE_SELECTION}
use Rattle.pdu.specs.declared.item.Item.{Item}
use Rattle.pdu.specs.declared.user.Role.{Role}
use Rattle.pdu.specs.declared.user.UserInformation.{UserInformation}
use Rattle.pdu.specs.declared.context.ProposedContext.{ProposedContext}
use Rattle.pdu.specs.declared.context.AnsweredContext.{AnsweredContext}
use Rattle.pdu.specs.declared.opening.Opening.{Opening}
use Rattle.pdu.specs.declared.request.Request.{Request}
use Rattle.pdu.specs.declared.accept.Accept.{Accept}
use Rattle.pdu.specs.declared.reject.Reject.{Reject}
use Rattle.pdu.specs.declared.pdv.Pdv.{Pdv}
use Rattle.pdu.specs.declared.value.Pdu.{Pdu}
use Rattle.pdu.specs.declared.value.Pdu.TheVariants.{AssociateRq, AssociateAc, AssociateRj, PData, ReleaseRq, ReleaseRp}
use Rattle.pdu.specs.declared.value.Pdu.TheVariants.{Abort}
use Rattle.pdu.specs.declared.value.Step.{Step}
use Rattle.pdu.specs.declared.value.Step.TheVariants.{Need, Done}
use Rattle.pdu.specs.Fault.{Gives}
use Rattle.pdu.specs.Header.{HeaderParts, header_at}
use Rattle.octets.specs.Graphic.{is_graphic}
use Rattle.octets.specs.Padding.{without_padding}
use Rattle.pdu.specs.Grammar.{type_of, size_of, contents_of, first_or, first_of, is_odd}
use Rattle.pdu.specs.Grammar.{are_distinct, is_command, is_last}

-- a piece at the front, and what comes behind it
abbrev pub Piece : Type 0 → Type 0
Piece V = Result (V × List ℕ) PduFault

-- pieces one after the other up to the end, of which there are at most n
abbrev pub pieces_in : {V : Type 0} → (List ℕ → Piece V) → ℕ → List ℕ → Result (List V) PduFault
pieces_in at n [] = Ok []
pieces_in at zero (b ∷ bs) = Err BadItem
pieces_in at (suc n) (b ∷ bs) = do
  first ← at (b ∷ bs)
  others ← pieces_in at n first.1
  Ok (first.0 ∷ others)

-- each piece has a byte or more, so there are at most as many pieces as bytes
unfoldable pub pieces_of : {V : Type 0} → (List ℕ → Piece V) → List ℕ → Result (List V) PduFault
pieces_of at text = pieces_in at (length text) text

-- an item's type, a reserved byte, a length of two bytes and that many bytes
abbrev pub item_at : List ℕ → Piece Item
item_at (kind ∷ reserved ∷ high ∷ low ∷ rest) =
    let size = from_be_bytes w16 (high ∷ low ∷ []) in
    if nat_lt (length rest) size then Err BadItem
    else Ok (record { kind = kind; content = take size rest }, drop size rest)
item_at _ = Err BadItem

-- each content, read
abbrev pub each_at : {V : Type 0} → (List ℕ → Result V PduFault) → List (List ℕ) → Result (List V) PduFault
each_at at [] = Ok []
each_at at (content ∷ contents) = do
  first ← at content
  others ← each_at at contents
  Ok (first ∷ others)

-- the only content, read
abbrev pub sole_at : {V : Type 0} → (List ℕ → Result V PduFault) → List (List ℕ) → Result V PduFault
sole_at at (content ∷ []) = at content
sole_at at _ = Err BadItem

unfoldable pub uid_at : List ℕ → Result (List ℕ) PduFault
uid_at content = if list_all is_graphic (without_padding content) then Ok (without_padding content) else Err BadItem

-- ---- user information

-- a maximum length (PS3.8, D.1)
abbrev pub length_at : List ℕ → Result ℕ PduFault
length_at (a ∷ b ∷ c ∷ d ∷ []) = Ok (from_be_bytes w32 (a ∷ b ∷ c ∷ d ∷ []))
length_at _ = Err BadItem

-- a UID behind its length, and two roles (PS3.7, D.3.3.4)
unfoldable pub role_at : List ℕ → Result Role PduFault
role_at (high ∷ low ∷ rest) =
    let size = from_be_bytes w16 (high ∷ low ∷ []) in
    if length rest == size + 2 then (do
      class ← uid_at (take size rest)
      Ok (record { class = class; scu = slice_index rest size; scp = slice_index rest (size + 1) }))
    else Err BadItem
role_at _ = Err BadItem

-- the first of several counts
unfoldable pub user_at : List ℕ → Result UserInformation PduFault
user_at text = do
  items ← pieces_of item_at text
  lengths ← each_at length_at (contents_of MAXIMUM_LENGTH items)
  classes ← each_at uid_at (contents_of IMPLEMENTATION_CLASS items)
  roles ← each_at role_at (contents_of ROLE_SELECTION items)
  Ok (record { maximum_length = first_or 0 lengths; implementation_class = first_of classes; roles = roles })

-- ---- presentation contexts

unfoldable pub proposal_at : List ℕ → Result ProposedContext PduFault
proposal_at (id ∷ a ∷ b ∷ c ∷ text) = do
  items ← pieces_of item_at text
  abstract ← sole_at uid_at (contents_of ABSTRACT_SYNTAX items)
  syntaxes ← each_at uid_at (contents_of TRANSFER_SYNTAX items)
  if is_odd id && not (length syntaxes == 0)
      then Ok (record { id = id; abstract_syntax = abstract; transfer_syntaxes = syntaxes })
      else Err BadItem
proposal_at _ = Err BadItem

unfoldable pub answer_at : List ℕ → Result AnsweredContext PduFault
answer_at (id ∷ a ∷ result ∷ b ∷ text) = do
  items ← pieces_of item_at text
  syntax ← sole_at uid_at (contents_of TRANSFER_SYNTAX items)
  if is_odd id
      then Ok (record { id = id; result = result; transfer_syntax = syntax })
      else Err BadItem
answer_at _ = Err BadItem

-- ---- bodies

-- what stands before the items
unfoldable pub opening_at : List ℕ → Result Opening PduFault
opening_at (v ∷ w ∷ r ∷ s ∷ rest) =
    if nat_lt (length rest) 64 then Err BadItem
    else Ok (record {
      version = from_be_bytes w16 (v ∷ w ∷ []);
      called = take 16 rest;
      calling = take 16 (drop 16 rest);
      reserved = take 32 (drop 32 rest);
    })
opening_at _ = Err BadItem

unfoldable pub request_in : Opening → List Item → Result Request PduFault
request_in opening items = do
  context ← sole_at uid_at (contents_of APPLICATION_CONTEXT items)
  contexts ← each_at proposal_at (contents_of PROPOSED_CONTEXT items)
  user ← sole_at user_at (contents_of USER_INFORMATION items)
  if are_distinct (map (λ c. c.id) contexts)
      then Ok (record { opening = opening; application_context = context; contexts = contexts; user = user })
      else Err BadItem

unfoldable pub request_at : List ℕ → Result Request PduFault
request_at body = do
  opening ← opening_at body
  items ← pieces_of item_at (drop OPENING_LENGTH body)
  request_in opening items

unfoldable pub accept_in : Opening → List Item → Result Accept PduFault
accept_in opening items = do
  context ← sole_at uid_at (contents_of APPLICATION_CONTEXT items)
  contexts ← each_at answer_at (contents_of ANSWERED_CONTEXT items)
  user ← sole_at user_at (contents_of USER_INFORMATION items)
  if are_distinct (map (λ c. c.id) contexts)
      then Ok (record { opening = opening; application_context = context; contexts = contexts; user = user })
      else Err BadItem

unfoldable pub accept_at : List ℕ → Result Accept PduFault
accept_at body = do
  opening ← opening_at body
  items ← pieces_of item_at (drop OPENING_LENGTH body)
  accept_in opening items

-- a length, a context, a control byte and a fragment (PS3.8, 9.3.5.1)
abbrev pub pdv_at : List ℕ → Piece Pdv
pdv_at (a ∷ b ∷ c ∷ d ∷ context ∷ control ∷ rest) =
    let size = from_be_bytes w32 (a ∷ b ∷ c ∷ d ∷ []) in
    if nat_lt size 2 then Err BadItem
    else if nat_lt (length rest) (size - 2) then Err BadItem
    else Ok (
      record {
        context = context;
        command = is_command control;
        last = is_last control;
        fragment =
            take (size - 2) rest;
      },
      drop (size - 2) rest,
    )
pdv_at _ = Err BadItem

unfoldable pub data_at : List ℕ → Result (List Pdv) PduFault
data_at body = do
  values ← pieces_of pdv_at body
  if length values == 0 then Err BadItem else Ok values

abbrev pub reject_at : List ℕ → Result Reject PduFault
reject_at (reserved ∷ result ∷ source ∷ reason ∷ []) = Ok (record { result = result; source = source; reason = reason })
reject_at _ = Err BadItem

abbrev pub abort_at : List ℕ → Result Pdu PduFault
abort_at (a ∷ b ∷ source ∷ reason ∷ []) = Ok (Abort source reason)
abort_at _ = Err BadItem

-- the body of a PDU of a known type and a lawful length
unfoldable pub body_at : ℕ → List ℕ → Result Pdu PduFault
body_at code body =
    if code == ASSOCIATE_RQ then (request_at body >>= λ r. Ok (AssociateRq r))
    else if code == ASSOCIATE_AC then (accept_at body >>= λ a. Ok (AssociateAc a))
    else if code == ASSOCIATE_RJ then (reject_at body >>= λ r. Ok (AssociateRj r))
    else if code == P_DATA then (data_at body >>= λ vs. Ok (PData vs))
    else if code == RELEASE_RQ then Ok ReleaseRq
    else if code == RELEASE_RP then Ok ReleaseRp
    else abort_at body

-- ---- the front of a stream

abbrev pub behind_header : Result HeaderParts PduFault → List ℕ → Result (Option HeaderParts) PduFault
behind_header (Err fault) bytes = Err fault
behind_header (Ok header) bytes = if nat_lt (length bytes - HEADER_LENGTH) header.length then Ok None
    else Ok (Some header)

-- the header at the front, once the body behind it is whole
unfoldable pub front_at : List ℕ → Result (Option HeaderParts) PduFault
front_at bytes = if nat_lt (length bytes) HEADER_LENGTH then Ok None else behind_header
    (header_at (type_of bytes) (size_of bytes)) bytes

abbrev pub Behind : Result (Option HeaderParts) PduFault → List ℕ → Result Step PduFault → Type 0
Behind (Err fault) bytes result = result ≡ Err fault
Behind (Ok None) bytes result = result ≡ Ok Need
Behind (Ok (Some header)) bytes result =
    Gives result (body_at header.code (take header.length (drop HEADER_LENGTH bytes)) >>=
    λ p. Ok (Done p (header.length + HEADER_LENGTH)))

-- what is told of a front: want of memory only where a body is read
unfoldable pub Answers : Result Step PduFault → List ℕ → Type 0
Answers result bytes = Behind (front_at bytes) bytes result
