-- The command fields (PS3.7, section E.1).
use Rattle.std.specs.Prelude.{◌≡◌, ◌≢◌, ℕ, Bool, ◌==◌, ◌||◌, nat_le, Result, MatchResult}
use Rattle.dictionary.specs.declared.commands.TheConstants.{C_STORE_RQ, C_STORE_RSP, C_GET_RQ, C_GET_RSP, C_FIND_RQ}
use Rattle.dictionary.specs.declared.commands.TheConstants.{C_FIND_RSP, C_ECHO_RQ, C_ECHO_RSP, C_CANCEL_RQ}
use Rattle.dictionary.specs.declared.commands.TheConstants.{RESPONSE_BIT}
use Rattle.dimse.specs.declared.command_field.CommandField.{CommandField}
use Rattle.dimse.specs.declared.command_field.CommandField.TheVariants.{StoreRequest, StoreResponse, GetRequest}
use Rattle.dimse.specs.declared.command_field.CommandField.TheVariants.{GetResponse, FindRequest, FindResponse}
use Rattle.dimse.specs.declared.command_field.CommandField.TheVariants.{EchoRequest, EchoResponse, CancelRequest}
use Rattle.dimse.specs.declared.command_field.UnknownField.{UnknownField}

-- the value of a command field
abbrev pub code_of : CommandField → ℕ
code_of StoreRequest = C_STORE_RQ
code_of StoreResponse = C_STORE_RSP
code_of GetRequest = C_GET_RQ
code_of GetResponse = C_GET_RSP
code_of FindRequest = C_FIND_RQ
code_of FindResponse = C_FIND_RSP
code_of EchoRequest = C_ECHO_RQ
code_of EchoResponse = C_ECHO_RSP
code_of CancelRequest = C_CANCEL_RQ

-- the field with this value, or an error with a value that no field has
abbrev pub Decodes : ℕ → Result CommandField UnknownField → Type 0
Decodes code r = MatchResult r (λ field. code_of field ≡ code) (λ e. (e.0 ≡ code)
    × ((field : CommandField) → code_of field ≢ code))

-- A response has the highest bit set, also one of no service here; a C-CANCEL answers a request too.
abbrev pub is_response_code : ℕ → Bool
is_response_code code = nat_le RESPONSE_BIT code || code == C_CANCEL_RQ

-- the requests of C-STORE, C-GET, C-FIND and C-ECHO
abbrev pub names_class_code : ℕ → Bool
names_class_code code = code == C_STORE_RQ || code == C_GET_RQ || code == C_FIND_RQ || code == C_ECHO_RQ
