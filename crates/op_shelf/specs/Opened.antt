-- What an open finds, and why it is refused.
use Rattle.std.specs.Prelude.{◌≡◌, ◌⊎◌, Option, None, IfSome, Result, IfErr, IsTrue}
use Rattle.sqlite_disk.specs.declared.Disk.{Ghosts}
use Rattle.sqlite_disk.specs.declared.Files.{Files}
use Rattle.sqlite.specs.declared.error.Error.{Error}
use Rattle.sqlite.specs.declared.error.Error.TheVariants.{SqliteFailure}
use Rattle.sqlite.specs.declared.error.ErrorCode.TheVariants.{CannotOpen, OutOfMemory, DatabaseBusy}
use Rattle.sqlite.specs.declared.file.Leftover.{Leftover}
use Rattle.sqlite.specs.declared.FileStore.{FileStore}
use Rattle.sqlite.specs.Held.{Held}
use Rattle.sqlite.specs.Files.{file_state, over_files, IsOpened, IsCleanLeft, FailsToOpenFiles, LeavesFiles}
use Rattle.sqlite.specs.Opening.{is_open_error}
use Rattle.sqlite.specs.Recovery.{Image}
use Rattle.sqlite.specs.Start.{FindsIn}
use Rattle.sqlite.specs.State.{HasCleanDisk}
use Rattle.op_shelf.specs.declared.fault.ShelfFault.{ShelfFault}
use Rattle.op_shelf.specs.Fault.{fault_of}
use Rattle.op_shelf.specs.States.{StandsFor, IsGivenUp}

-- the shelf stands for the database that the files held
pub record IsFound {D : Type 0} {g : Ghosts D} (start : Image) (shelf : Held (FileStore D g)) : Type 0 where
  pub was : Held (FileStore D g)
  pub opened : IsOpened was
  pub found : FindsIn start (file_state was)
  pub stands : StandsFor (file_state was) (file_state shelf)

-- the errors of files that can't be opened at all
abbrev pub IsNoFile : Error → Type 0
IsNoFile error = (error ≡ SqliteFailure CannotOpen)
    ⊎ ((error ≡ SqliteFailure OutOfMemory) ⊎ (error ≡ SqliteFailure DatabaseBusy))

-- The files that were opened could not be read as a database, for the cause that the error names, and are as they were.
abbrev pub IsNoDatabase : {D : Type 0} → {g : Ghosts D} → Error → Leftover D g → Type 0
IsNoDatabase {D} error left = (files : Files D) × (IsCleanLeft left → FailsToOpenFiles files left error
    × LeavesFiles files left)

-- no database was opened
pub record IsUnopened {D : Type 0} (g : Ghosts D) (e : ShelfFault) : Type 0 where
  pub error : Error
  pub left : Option (Leftover D g)
  pub told : e ≡ fault_of error
  pub named : IsTrue (is_open_error error)
  pub none : left ≡ None → IsNoFile error
  pub cause : IfSome left (IsNoDatabase error)

-- the database that was found was given up, as it was
pub record IsLet {D : Type 0} (g : Ghosts D) (start : Image) (e : ShelfFault) : Type 0 where
  pub was : Held (FileStore D g)
  pub last : Held (FileStore D g)
  pub opened : HasCleanDisk (file_state last) → IsOpened was
  pub found : HasCleanDisk (file_state last) → FindsIn start (file_state was)
  pub given_up : IsGivenUp over_files was last e

-- An open is refused only so.
abbrev pub IsRefused : {D : Type 0} → {g : Ghosts D} → Image → Result (Held (FileStore D g)) ShelfFault → Type 0
IsRefused {D} {g} start result = IfErr result (λ e. IsUnopened g e ⊎ IsLet g start e)
