-- How a request is responded (PS3.7, 9.3).
use Rattle.std.specs.Prelude.{◌≡◌, ◌≤◌, ℕ, Bool, true, false, List, Some, None}
use Rattle.std.specs.List.{flat_map}
use Rattle.pdu.specs.declared.value.Pdu.{Pdu}
use Rattle.pdu.specs.Spelling.{text_of}
use Rattle.dimse.specs.declared.command.Command.{Command}
use Rattle.dimse.specs.declared.command.TheConstants.{DATA_SET_FOLLOWS}
use Rattle.dimse.specs.declared.message.Message.{Message}
use Rattle.dimse.specs.declared.status.Status.{Status}
use Rattle.dimse.specs.declared.status.Status.TheVariants.{Success, SopClassNotSupported, UnrecognizedOperation}
use Rattle.dimse.specs.declared.status.Status.TheVariants.{OutOfResources, UnableToPerformSubOperations}
use Rattle.dimse.specs.declared.status.Status.TheVariants.{DataSetMismatch, SubOperationsWithFailures, CannotUnderstand}
use Rattle.dimse.specs.declared.status.Status.TheVariants.{Cancel, Pending, PendingWithoutOptionalKeys}
use Rattle.dimse.specs.Command.{IsCommand, HasRoom}
use Rattle.dimse.specs.CommandField.{is_response_code}
use Rattle.dimse.specs.Response.{response_of}
use Rattle.dimse.specs.Status.{status_code}
use Rattle.dimse.specs.Sending.{IsSending}

-- a request that awaits its response: its context, its command set, and the most bytes of a P-DATA-TF's body that are
-- sent
pub record Awaited : Type 0 where
  pub context : ℕ
  pub limit : ℕ
  pub command : Command

-- how long what is sent may be: one fragment has room, and a PDU is no longer than is read
abbrev pub FitsLimit : ℕ → Type 0
FitsLimit limit = (8 ≤ limit) × (limit ≤ 65536)

-- a request that can be written, and no response and no C-CANCEL, within such a limit
pub record CanBeResponded (awaited : Awaited) : Type 0 where
  pub asked : is_response_code awaited.command.field ≡ false
  pub lawful : IsCommand awaited.command
  pub room : HasRoom awaited.command
  pub limit : FitsLimit awaited.limit

-- the response, on the request's context and without a data set
abbrev pub response_to : Awaited → Status → Message
response_to awaited status =
    record { context = awaited.context; command = response_of awaited.command (status_code status); body = None }

-- the PDUs of a response
abbrev pub Responds : Awaited → Status → List Pdu → Type 0
Responds awaited status pdus = IsSending (response_to awaited status) awaited.limit pdus

-- the same command set, which announces a data set
abbrev pub announcing : Command → Command
announcing command = record {
  affected_class = command.affected_class;
  field = command.field;
  message_id = command.message_id;
  responded_to = command.responded_to;
  priority = command.priority;
  data_set_type = DATA_SET_FOLLOWS;
  status = command.status;
  affected_instance = command.affected_instance;
  remaining = command.remaining;
  completed = command.completed;
  failed = command.failed;
  warning = command.warning;
}

-- a response with a data set, on the request's context
abbrev pub response_with : Awaited → Status → List ℕ → Message
response_with awaited status text = record {
  context = awaited.context;
  command = announcing (response_of awaited.command (status_code status));
  body = Some text;
}

-- its PDUs
abbrev pub RespondsWith : Awaited → Status → List ℕ → List Pdu → Type 0
RespondsWith awaited status text pdus = IsSending (response_with awaited status text) awaited.limit pdus

-- the bytes of a response
abbrev pub IsResponse : Awaited → Status → List ℕ → Type 0
IsResponse awaited status out = (pdus : List Pdu) × Responds awaited status pdus × (out ≡ flat_map text_of pdus)

-- more responses follow one with this status (PS3.7, C.1)
abbrev pub is_pending : Status → Bool
is_pending Success = false
is_pending SopClassNotSupported = false
is_pending UnrecognizedOperation = false
is_pending OutOfResources = false
is_pending UnableToPerformSubOperations = false
is_pending DataSetMismatch = false
is_pending SubOperationsWithFailures = false
is_pending CannotUnderstand = false
is_pending Cancel = false
is_pending Pending = true
is_pending PendingWithoutOptionalKeys = true
