-- What an acceptance answers (PS3.8, 9.3.3; PS3.7, D.3.3.4).
use Rattle.std.specs.Prelude.{ℕ, ◌<◌, Bool, true, false, not, List, ◌==◌, ◌&&◌, ◌||◌, map, filter, nat_eq, Option, Some}
use Rattle.std.specs.Prelude.{None, Result, Ok, Err, if◌then◌else◌}
use Rattle.std.specs.List.{list_any, filter_map, starts_with}
use Rattle.pdu.specs.declared.user.Role.{Role}
use Rattle.pdu.specs.declared.opening.Opening.{Opening}
use Rattle.pdu.specs.declared.context.ProposedContext.{ProposedContext}
use Rattle.pdu.specs.declared.context.AnsweredContext.{AnsweredContext}
use Rattle.pdu.specs.declared.context.Context.{Context}
use Rattle.pdu.specs.declared.request.Request.{Request}
use Rattle.pdu.specs.declared.accept.Accept.{Accept}
use Rattle.dictionary.specs.declared.uids.TheConstants.{VERIFICATION, STUDY_ROOT_FIND, STUDY_ROOT_GET, STORAGE_ROOT}
use Rattle.dictionary.specs.declared.uids.TheConstants.{IMPLICIT_VR_LITTLE_ENDIAN, EXPLICIT_VR_LITTLE_ENDIAN}
use Rattle.ul_state.specs.declared.answer.TheConstants.{IMPLEMENTATION_CLASS, MAXIMUM_LENGTH, ACCEPTANCE}
use Rattle.ul_state.specs.declared.answer.TheConstants.{NO_ABSTRACT_SYNTAX, NO_TRANSFER_SYNTAX}
use Rattle.ul_state.specs.Titles.{is_text}

-- an ID of one byte, as its type keeps
abbrev pub HasByteId : ProposedContext → Type 0
HasByteId context = context.id < 256

-- verification, Study Root FIND and GET
unfoldable pub is_verification_or_query : List ℕ → Bool
is_verification_or_query class = is_text class VERIFICATION || is_text class STUDY_ROOT_FIND || is_text class
    STUDY_ROOT_GET

unfoldable pub is_storage : List ℕ → Bool
is_storage class = starts_with nat_eq class STORAGE_ROOT

abbrev pub has_scp : List Role → List ℕ → Bool
has_scp roles class = list_any (λ role. role.scp == 1 && is_text role.class class) roles

-- a storage class of which the requestor asks for the SCP role
unfoldable pub has_scp_role : List Role → List ℕ → Bool
has_scp_role roles class = is_storage class && has_scp roles class

abbrev pub proposes : List (List ℕ) → List ℕ → Bool
proposes syntaxes syntax = list_any (λ proposed. is_text proposed syntax) syntaxes

-- whether the explicit syntax is taken: what comes first where it is proposed, else the other
abbrev pub chosen : Bool → Bool → Bool → Option Bool
chosen true true explicit = Some false
chosen true false true = Some true
chosen true false false = None
chosen false implicit true = Some true
chosen false true false = Some false
chosen false false false = None

abbrev pub or_refused : Option Bool → Result Bool ℕ
or_refused None = Err NO_TRANSFER_SYNTAX
or_refused (Some explicit) = Ok explicit

-- whether the explicit syntax is taken for a context, or the number of its refusal
unfoldable pub taken_syntax : List Role → ProposedContext → Result Bool ℕ
taken_syntax roles context =
    if not (is_verification_or_query context.abstract_syntax) && not (is_storage context.abstract_syntax) then Err
    NO_ABSTRACT_SYNTAX
    else or_refused (chosen (has_scp_role roles context.abstract_syntax)
    (proposes context.transfer_syntaxes IMPLICIT_VR_LITTLE_ENDIAN)
    (proposes context.transfer_syntaxes EXPLICIT_VR_LITTLE_ENDIAN))

-- the number of an answer and the syntax that it names
abbrev pub answer_number : Result Bool ℕ → ℕ
answer_number (Ok explicit) = ACCEPTANCE
answer_number (Err number) = number

abbrev pub answer_syntax : Result Bool ℕ → List ℕ
answer_syntax (Ok true) = EXPLICIT_VR_LITTLE_ENDIAN
answer_syntax (Ok false) = IMPLICIT_VR_LITTLE_ENDIAN
answer_syntax (Err number) = IMPLICIT_VR_LITTLE_ENDIAN

unfoldable pub answered : List Role → ProposedContext → AnsweredContext
answered roles context = record {
  id = context.id;
  result = answer_number (taken_syntax roles context);
  transfer_syntax = answer_syntax (taken_syntax roles context);
}

abbrev pub accepted_as : List Role → ProposedContext → Result Bool ℕ → Option Context
accepted_as roles context (Ok explicit) =
    Some (record {
      id = context.id;
      abstract_syntax = context.abstract_syntax;
      explicit = explicit;
      scp = has_scp_role
          roles context.abstract_syntax;
    })
accepted_as roles context (Err number) = None

-- the context as both sides use it, where it is accepted
unfoldable pub accepted : List Role → ProposedContext → Option Context
accepted roles context = accepted_as roles context (taken_syntax roles context)

-- the accepted contexts of a request, in order
unfoldable pub contexts_for : Request → List Context
contexts_for request = filter_map (accepted request.user.roles) request.contexts

abbrev pub opening_back : Opening → Opening
opening_back opening = record {
  version = 1;
  called = opening.called;
  calling = opening.calling;
  reserved =
      opening.reserved;
}

-- one answer for each proposed context, in order, and the roles of storage classes as proposed
unfoldable pub accept_for : Request → Accept
accept_for request = record {
  opening = opening_back request.opening;
  application_context = request.application_context;
  contexts = map (answered request.user.roles) request.contexts;
  user = record {
    maximum_length = MAXIMUM_LENGTH;
    implementation_class = Some IMPLEMENTATION_CLASS;
    roles = filter (λ role. is_storage role.class) request.user.roles;
  };
}
