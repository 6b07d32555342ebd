-- The values of (0000,0900) Status (PS3.7, annex C; PS3.4, B.2.3, C.4.1.1.4 and C.4.3.1.4), each constant with its
-- number.
use Rattle.std.specs.Prelude.{ℕ, List, [], ◌∷◌}
use Rattle.dictionary.specs.declared.statuses.TheConstants.{STATUS_SUCCESS, STATUS_SOP_CLASS_NOT_SUPPORTED}
use Rattle.dictionary.specs.declared.statuses.TheConstants.{STATUS_UNRECOGNIZED_OPERATION, STATUS_OUT_OF_RESOURCES}
use Rattle.dictionary.specs.declared.statuses.TheConstants.{STATUS_UNABLE_TO_PERFORM_SUBOPERATIONS}
use Rattle.dictionary.specs.declared.statuses.TheConstants.{STATUS_DATA_SET_DOES_NOT_MATCH}
use Rattle.dictionary.specs.declared.statuses.TheConstants.{STATUS_SUBOPERATIONS_WITH_FAILURES}
use Rattle.dictionary.specs.declared.statuses.TheConstants.{STATUS_CANNOT_UNDERSTAND, STATUS_CANCELED, STATUS_PENDING}
use Rattle.dictionary.specs.declared.statuses.TheConstants.{STATUS_PENDING_WITHOUT_OPTIONAL_KEYS}
use Rattle.dictionary.specs.declared.statuses.TheConstants.{FIRST_WARNING_STATUS, LAST_WARNING_STATUS}

abbrev pub statuses : List (ℕ × ℕ)
statuses =
    (STATUS_SUCCESS, 0x0000)
    ∷ (STATUS_SOP_CLASS_NOT_SUPPORTED, 0x0122)
    ∷ (STATUS_UNRECOGNIZED_OPERATION, 0x0211)
    ∷ (STATUS_OUT_OF_RESOURCES, 0xa700)
    ∷ (STATUS_UNABLE_TO_PERFORM_SUBOPERATIONS, 0xa702)
    ∷ (STATUS_DATA_SET_DOES_NOT_MATCH, 0xa900)
    ∷ (FIRST_WARNING_STATUS, 0xb000)
    ∷ (LAST_WARNING_STATUS, 0xbfff)
    ∷ (STATUS_SUBOPERATIONS_WITH_FAILURES, 0xb000)
    ∷ (STATUS_CANNOT_UNDERSTAND, 0xc000)
    ∷ (STATUS_CANCELED, 0xfe00)
    ∷ (STATUS_PENDING, 0xff00)
    ∷ (STATUS_PENDING_WITHOUT_OPTIONAL_KEYS, 0xff01)
    ∷ []
