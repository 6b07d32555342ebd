-- The statuses (PS3.7, annex C; PS3.4, B.2.3 and C.4).
use Rattle.std.specs.Prelude.{ℕ}
use Rattle.dictionary.specs.declared.statuses.TheConstants.{STATUS_SUCCESS, STATUS_SOP_CLASS_NOT_SUPPORTED}
use Rattle.dictionary.specs.declared.statuses.TheConstants.{STATUS_UNRECOGNIZED_OPERATION, STATUS_OUT_OF_RESOURCES}
use Rattle.dictionary.specs.declared.statuses.TheConstants.{STATUS_UNABLE_TO_PERFORM_SUBOPERATIONS}
use Rattle.dictionary.specs.declared.statuses.TheConstants.{STATUS_DATA_SET_DOES_NOT_MATCH}
use Rattle.dictionary.specs.declared.statuses.TheConstants.{STATUS_SUBOPERATIONS_WITH_FAILURES}
use Rattle.dictionary.specs.declared.statuses.TheConstants.{STATUS_CANNOT_UNDERSTAND, STATUS_CANCELED, STATUS_PENDING}
use Rattle.dictionary.specs.declared.statuses.TheConstants.{STATUS_PENDING_WITHOUT_OPTIONAL_KEYS}
use Rattle.dimse.specs.declared.status.Status.{Status}
use Rattle.dimse.specs.declared.status.Status.TheVariants.{Success, SopClassNotSupported, UnrecognizedOperation}
use Rattle.dimse.specs.declared.status.Status.TheVariants.{OutOfResources, UnableToPerformSubOperations}
use Rattle.dimse.specs.declared.status.Status.TheVariants.{DataSetMismatch, SubOperationsWithFailures, CannotUnderstand}
use Rattle.dimse.specs.declared.status.Status.TheVariants.{Cancel, Pending, PendingWithoutOptionalKeys}

-- the value of a status
abbrev pub status_code : Status → ℕ
status_code Success = STATUS_SUCCESS
status_code SopClassNotSupported = STATUS_SOP_CLASS_NOT_SUPPORTED
status_code UnrecognizedOperation = STATUS_UNRECOGNIZED_OPERATION
status_code OutOfResources = STATUS_OUT_OF_RESOURCES
status_code UnableToPerformSubOperations = STATUS_UNABLE_TO_PERFORM_SUBOPERATIONS
status_code DataSetMismatch = STATUS_DATA_SET_DOES_NOT_MATCH
status_code SubOperationsWithFailures = STATUS_SUBOPERATIONS_WITH_FAILURES
status_code CannotUnderstand = STATUS_CANNOT_UNDERSTAND
status_code Cancel = STATUS_CANCELED
status_code Pending = STATUS_PENDING
status_code PendingWithoutOptionalKeys = STATUS_PENDING_WITHOUT_OPTIONAL_KEYS
