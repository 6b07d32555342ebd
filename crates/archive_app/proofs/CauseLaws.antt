-- What is said of a full disk.
use Rattle.std.proofs.Common.{◌≡◌, ◌==◌, ◌∙◌, List, ℕ, false, codes, length, refl, sym, ap}
use Rattle.std.proofs.lemmas.Bool.{false≢true}
use Rattle.sqlite.specs.declared.error.Error.{Error}
use Rattle.sqlite.specs.declared.error.Error.TheVariants as error
use Rattle.sqlite.specs.declared.error.ErrorCode.TheVariants as code
use Rattle.op_shelf.specs.Fault.{fault_of}
use Rattle.archive_app.specs.declared.output.ending.CommandFault.TheVariants as fault
use Rattle.archive_app.specs.Causes.{words_of_fault, SaysFullOfAFullDisk}

-- A text of another length is not this one.
not_full : {A : Type 0} (text : List ℕ) → (length text == 16) ≡ false → text ≡ codes "the disk is full" → A
not_full text other same = absurd (false≢true (sym other ∙ ap (λ (t : List ℕ). length t == 16) same))

-- No other error is told so.
only_full : (e : Error) → words_of_fault (fault.Shelf (fault_of e)) ≡ codes "the disk is full"
    → e ≡ error.SqliteFailure code.DiskFull
only_full (error.SqliteFailure (code.ConstraintViolation _)) same = not_full _ refl same
only_full (error.SqliteFailure code.TypeMismatch) same = not_full _ refl same
only_full (error.SqliteFailure code.IntegerOverflow) same = not_full _ refl same
only_full (error.SqliteFailure code.NoRowid) same = not_full _ refl same
only_full (error.SqliteFailure code.ForeignKeyMismatch) same = not_full _ refl same
only_full (error.SqliteFailure code.TooDeep) same = not_full _ refl same
only_full (error.SqliteFailure code.NoClock) same = not_full _ refl same
only_full (error.SqliteFailure code.NameTaken) same = not_full _ refl same
only_full (error.SqliteFailure code.BadName) same = not_full _ refl same
only_full (error.SqliteFailure code.BadKey) same = not_full _ refl same
only_full (error.SqliteFailure code.BadText) same = not_full _ refl same
only_full (error.SqliteFailure code.SchemaTooBig) same = not_full _ refl same
only_full (error.SqliteFailure code.TransactionState) same = not_full _ refl same
only_full (error.SqliteFailure code.NoSuchSavepoint) same = not_full _ refl same
only_full (error.SqliteFailure code.OperationInterrupted) same = not_full _ refl same
only_full (error.SqliteFailure code.NotADatabase) same = not_full _ refl same
only_full (error.SqliteFailure code.DatabaseCorrupt) same = not_full _ refl same
only_full (error.SqliteFailure code.CannotOpen) same = not_full _ refl same
only_full (error.SqliteFailure code.DatabaseBusy) same = not_full _ refl same
only_full (error.SqliteFailure code.TooBig) same = not_full _ refl same
only_full (error.SqliteFailure code.OutOfMemory) same = not_full _ refl same
only_full (error.SqliteFailure code.SystemIoFailure) same = not_full _ refl same
only_full (error.SqliteFailure code.DiskFull) same = refl
only_full (error.SqliteFailure code.Closed) same = not_full _ refl same
only_full (error.SqlInputError _) same = not_full _ refl same
only_full (error.InvalidParameterCount _ _) same = not_full _ refl same
only_full error.ExecuteReturnedResults same = not_full _ refl same
only_full error.InvalidQuery same = not_full _ refl same
only_full error.MultipleStatement same = not_full _ refl same
only_full error.QueryReturnedNoRows same = not_full _ refl same
only_full (error.InvalidColumnIndex _) same = not_full _ refl same
only_full (error.InvalidColumnType _ _) same = not_full _ refl same
only_full (error.IntegralValueOutOfRange _) same = not_full _ refl same
only_full (error.Utf8Error _) same = not_full _ refl same

pub full_alike : SaysFullOfAFullDisk
full_alike e = (only_full e, λ is. ap (λ (x : Error). words_of_fault (fault.Shelf (fault_of x))) is)
