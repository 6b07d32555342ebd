-- Which stores were refused, and which rows queries were answered with, as their responses say (PS3.7, 9.3.1.2 and
-- 9.3.2.2).
use Rattle.std.specs.Prelude.{ℕ, Bool, false, ◌==◌, ◌&&◌, ◌||◌, not, Option, Some, None, if◌then◌else◌}
use Rattle.dictionary.specs.declared.commands.TheConstants.{C_FIND_RSP, C_STORE_RSP}
use Rattle.dictionary.specs.declared.statuses.TheConstants.{STATUS_SUCCESS, STATUS_PENDING}
use Rattle.dictionary.specs.declared.statuses.TheConstants.{STATUS_PENDING_WITHOUT_OPTIONAL_KEYS}
use Rattle.dimse.specs.declared.command.Command.{Command}
use Rattle.archive_server.specs.declared.answers.RefusedStore.{RefusedStore}

-- what a response to a C-STORE says whose status is this, where it is none of success
abbrev pub refused_with : Command → Option ℕ → Option RefusedStore
refused_with command None = None
refused_with command (Some status) =
    if (command.field == C_STORE_RSP) && not (status == STATUS_SUCCESS)
    then Some (record { status = status; instance = command.affected_instance }) else None

-- the store that a command says was refused: it is a response to one
abbrev pub refusal_of : Command → Option RefusedStore
refusal_of command = refused_with command command.status

-- a status with which a row comes (PS3.4, C.4.1.1.4)
abbrev pub is_pending_status : ℕ → Bool
is_pending_status status = (status == STATUS_PENDING) || (status == STATUS_PENDING_WITHOUT_OPTIONAL_KEYS)

-- a response to a C-FIND that has such a one
abbrev pub is_row_with : Command → Option ℕ → Bool
is_row_with command None = false
is_row_with command (Some status) = (command.field == C_FIND_RSP) && is_pending_status status

abbrev pub is_row_of : Command → Bool
is_row_of command = is_row_with command command.status
