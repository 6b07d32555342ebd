-- What answers a request (PS3.7, 9.3).
use Rattle.std.specs.Prelude.{◌≡◌, ◌⊎◌, ℕ, ◌+◌, ◌==◌, nat_lt, true, false, List, Option, Some, None, if◌then◌else◌}
use Rattle.dimse.specs.declared.command.Command.{Command}
use Rattle.dictionary.specs.declared.commands.TheConstants.{C_STORE_RQ, NO_DATA_SET, RESPONSE_BIT}
use Rattle.dimse.specs.CommandField.{is_response_code}

-- the request's UID, or none
abbrev pub IsToldOf : Option (List ℕ) → Option (List ℕ) → Type 0
IsToldOf request response = (response ≡ request) ⊎ (response ≡ None)

-- the field of a response and the request's ID, with the request's class and its instance where they are told
pub record IsResponseTo (request response : Command) : Type 0 where
  pub asked : is_response_code request.field ≡ false
  pub field : is_response_code response.field ≡ true
  pub responded_to : response.responded_to ≡ request.message_id
  pub affected_class : IsToldOf request.affected_class response.affected_class
  pub affected_instance : IsToldOf request.affected_instance response.affected_instance

-- the field with its highest bit set
abbrev pub response_code : ℕ → ℕ
response_code code = if nat_lt code RESPONSE_BIT then code + RESPONSE_BIT else code

-- the instance is told of a C-STORE
abbrev pub told_instance : Command → Option (List ℕ)
told_instance request = if request.field == C_STORE_RQ then request.affected_instance else None

-- the response without a data set
unfoldable pub response_of : Command → ℕ → Command
response_of request status = record {
  affected_class = request.affected_class;
  field = response_code request.field;
  message_id = None;
  responded_to = request.message_id;
  priority = None;
  data_set_type = NO_DATA_SET;
  status = Some status;
  affected_instance = told_instance request;
  remaining = None;
  completed = None;
  failed = None;
  warning = None;
}
