-- The public numbers of faults, and what an error of the database is to a shelf.
use Rattle.std.specs.Prelude.{◌≢◌, ℕ, Result, IsErrOf}
use Rattle.sqlite.specs.declared.error.ErrorCode.{ErrorCode}
use Rattle.sqlite.specs.declared.error.ErrorCode.TheVariants as code
use Rattle.sqlite.specs.declared.error.Error.{Error}
use Rattle.sqlite.specs.declared.error.Error.TheVariants.{SqliteFailure}
use Rattle.operation.specs.declared.fault.OpFault.{OpFault}
use Rattle.operation.specs.declared.fault.OpFault.TheVariants.{Memory as out_of_memory}
use Rattle.op_shelf.specs.declared.fault.ShelfFault.{ShelfFault}
use Rattle.op_shelf.specs.declared.fault.ShelfFault.TheVariants.{Store, BadRow, Memory}
use Rattle.op_shelf.specs.declared.fault.StoreCause.{StoreCause}
use Rattle.op_shelf.specs.declared.fault.StoreCause.TheVariants as cause

abbrev pub number_of : ShelfFault → ℕ
number_of (Store _) = 1
number_of BadRow = 2
number_of Memory = 3

-- why the database refused, by its code
abbrev pub cause_of : ErrorCode → StoreCause
cause_of code.DiskFull = cause.Full
cause_of code.SystemIoFailure = cause.Failed
cause_of code.Closed = cause.Closed
cause_of code.DatabaseCorrupt = cause.Damaged
cause_of code.NotADatabase = cause.Damaged
cause_of _ = cause.Other

-- want of memory is told as such, and every other error is Store, with its cause
abbrev pub fault_of : Error → ShelfFault
fault_of (SqliteFailure code.OutOfMemory) = Memory
fault_of (SqliteFailure failure) = Store (cause_of failure)
fault_of _ = Store cause.Other

-- where the database refused, its cause is so
abbrev pub IfStore : {A : Type 0} → Result A ShelfFault → (StoreCause → Type 0) → Type 0
IfStore result P = (why : StoreCause) → IsErrOf result (Store why) → P why

-- a fault that is none of the database
abbrev pub IsNoStore : ShelfFault → Type 0
IsNoStore fault = (why : StoreCause) → fault ≢ Store why

-- what decoding refuses is no row of an operation
abbrev pub fault_of_op : OpFault → ShelfFault
fault_of_op out_of_memory = Memory
fault_of_op _ = BadRow
