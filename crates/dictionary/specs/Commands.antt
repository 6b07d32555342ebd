-- The elements of command sets and the values of two of them (PS3.7, E.1), each constant with its number.
use Rattle.std.specs.Prelude.{ℕ, List, [], ◌∷◌}
use Rattle.dictionary.specs.declared.commands.TheConstants.{COMMAND_GROUP_LENGTH, AFFECTED_SOP_CLASS_UID, COMMAND_FIELD}
use Rattle.dictionary.specs.declared.commands.TheConstants.{MESSAGE_ID, MESSAGE_ID_BEING_RESPONDED_TO, PRIORITY}
use Rattle.dictionary.specs.declared.commands.TheConstants.{COMMAND_DATA_SET_TYPE, STATUS, AFFECTED_SOP_INSTANCE_UID}
use Rattle.dictionary.specs.declared.commands.TheConstants.{NUMBER_OF_REMAINING_SUBOPERATIONS}
use Rattle.dictionary.specs.declared.commands.TheConstants.{NUMBER_OF_COMPLETED_SUBOPERATIONS}
use Rattle.dictionary.specs.declared.commands.TheConstants.{NUMBER_OF_FAILED_SUBOPERATIONS}
use Rattle.dictionary.specs.declared.commands.TheConstants.{NUMBER_OF_WARNING_SUBOPERATIONS, C_STORE_RQ, C_STORE_RSP}
use Rattle.dictionary.specs.declared.commands.TheConstants.{C_GET_RQ, C_GET_RSP, C_FIND_RQ, C_FIND_RSP, C_ECHO_RQ}
use Rattle.dictionary.specs.declared.commands.TheConstants.{RESPONSE_BIT, C_ECHO_RSP, C_CANCEL_RQ, NO_DATA_SET}

abbrev pub elements : List (ℕ × ℕ)
elements =
    (COMMAND_GROUP_LENGTH, 0x0000_0000)
    ∷ (AFFECTED_SOP_CLASS_UID, 0x0000_0002)
    ∷ (COMMAND_FIELD, 0x0000_0100)
    ∷ (MESSAGE_ID, 0x0000_0110)
    ∷ (MESSAGE_ID_BEING_RESPONDED_TO, 0x0000_0120)
    ∷ (PRIORITY, 0x0000_0700)
    ∷ (COMMAND_DATA_SET_TYPE, 0x0000_0800)
    ∷ (STATUS, 0x0000_0900)
    ∷ (AFFECTED_SOP_INSTANCE_UID, 0x0000_1000)
    ∷ (NUMBER_OF_REMAINING_SUBOPERATIONS, 0x0000_1020)
    ∷ (NUMBER_OF_COMPLETED_SUBOPERATIONS, 0x0000_1021)
    ∷ (NUMBER_OF_FAILED_SUBOPERATIONS, 0x0000_1022)
    ∷ (NUMBER_OF_WARNING_SUBOPERATIONS, 0x0000_1023)
    ∷ []

-- the bit of responses and the values of (0000,0100) Command Field, and 0101H, by which (0000,0800) says that no data
-- set follows
abbrev pub values : List (ℕ × ℕ)
values =
    (RESPONSE_BIT, 0x8000)
    ∷ (C_STORE_RQ, 0x0001)
    ∷ (C_STORE_RSP, 0x8001)
    ∷ (C_GET_RQ, 0x0010)
    ∷ (C_GET_RSP, 0x8010)
    ∷ (C_FIND_RQ, 0x0020)
    ∷ (C_FIND_RSP, 0x8020)
    ∷ (C_ECHO_RQ, 0x0030)
    ∷ (C_ECHO_RSP, 0x8030)
    ∷ (C_CANCEL_RQ, 0x0fff)
    ∷ (NO_DATA_SET, 0x0101)
    ∷ []
