-- The public numbers of faults, and what those of the two files are to a log of operations.
use Rattle.std.specs.Prelude.{ℕ}
use Rattle.body_log.specs.declared.fault.BodyFault.{BodyFault}
use Rattle.body_log.specs.declared.fault.BodyFault.TheVariants as of_bodies
use Rattle.head_log.specs.declared.fault.HeadFault.{HeadFault}
use Rattle.head_log.specs.declared.fault.HeadFault.TheVariants as of_heads
use Rattle.op_log.specs.declared.folder_fault.FolderFault.{FolderFault}
use Rattle.op_log.specs.declared.folder_fault.FolderFault.TheVariants as of_folders
use Rattle.op_log.specs.declared.fault.LogFault.{LogFault}
use Rattle.op_log.specs.declared.fault.LogFault.TheVariants.{Disk, Closed, TooLong, DamagedHeads, DamagedBody}
use Rattle.op_log.specs.declared.fault.LogFault.TheVariants.{Collision, Memory}

abbrev pub number_of : LogFault → ℕ
number_of Disk = 1
number_of Closed = 2
number_of TooLong = 3
number_of (DamagedHeads at) = 4
number_of (DamagedBody at) = 5
number_of Collision = 6
number_of Memory = 7

abbrev pub fault_of_heads : HeadFault → LogFault
fault_of_heads of_heads.Disk = Disk
fault_of_heads of_heads.Closed = Closed
fault_of_heads of_heads.TooLong = TooLong
fault_of_heads (of_heads.Damaged at) = DamagedHeads at
fault_of_heads of_heads.Memory = Memory

abbrev pub fault_of_bodies : BodyFault → LogFault
fault_of_bodies of_bodies.Disk = Disk
fault_of_bodies of_bodies.Closed = Closed
fault_of_bodies of_bodies.TooLong = TooLong

-- what a call that only reads data sets tells
abbrev pub IsOfLook : LogFault → Type 0
IsOfLook Disk = Unit {0}
IsOfLook Closed = Unit {0}
IsOfLook TooLong = ⊥
IsOfLook (DamagedHeads at) = ⊥
IsOfLook (DamagedBody at) = Unit {0}
IsOfLook Collision = ⊥
IsOfLook Memory = Unit {0}

-- what a read of a data set tells
abbrev pub IsOfRead : LogFault → Type 0
IsOfRead Disk = Unit {0}
IsOfRead Closed = Unit {0}
IsOfRead TooLong = ⊥
IsOfRead (DamagedHeads at) = ⊥
IsOfRead (DamagedBody at) = ⊥
IsOfRead Collision = ⊥
IsOfRead Memory = Unit {0}

-- what a call tells that lists what can't be read
abbrev pub IsOfSorting : LogFault → Type 0
IsOfSorting Disk = ⊥
IsOfSorting Closed = Unit {0}
IsOfSorting TooLong = ⊥
IsOfSorting (DamagedHeads at) = ⊥
IsOfSorting (DamagedBody at) = ⊥
IsOfSorting Collision = ⊥
IsOfSorting Memory = Unit {0}

-- what a write of data sets or heads tells
abbrev pub IsOfWrite : LogFault → Type 0
IsOfWrite Disk = Unit {0}
IsOfWrite Closed = Unit {0}
IsOfWrite TooLong = Unit {0}
IsOfWrite (DamagedHeads at) = ⊥
IsOfWrite (DamagedBody at) = ⊥
IsOfWrite Collision = ⊥
IsOfWrite Memory = Unit {0}

-- what a put tells
abbrev pub IsOfPut : LogFault → Type 0
IsOfPut Disk = Unit {0}
IsOfPut Closed = Unit {0}
IsOfPut TooLong = Unit {0}
IsOfPut (DamagedHeads at) = ⊥
IsOfPut (DamagedBody at) = ⊥
IsOfPut Collision = Unit {0}
IsOfPut Memory = Unit {0}

-- what an open tells
abbrev pub IsOfOpen : LogFault → Type 0
IsOfOpen Disk = Unit {0}
IsOfOpen Closed = ⊥
IsOfOpen TooLong = ⊥
IsOfOpen (DamagedHeads at) = Unit {0}
IsOfOpen (DamagedBody at) = ⊥
IsOfOpen Collision = ⊥
IsOfOpen Memory = Unit {0}

-- what is told of a group that is taken into memory
abbrev pub IsOfFill : LogFault → Type 0
IsOfFill Disk = ⊥
IsOfFill Closed = ⊥
IsOfFill TooLong = ⊥
IsOfFill (DamagedHeads at) = Unit {0}
IsOfFill (DamagedBody at) = ⊥
IsOfFill Collision = ⊥
IsOfFill Memory = Unit {0}

-- no log refused, but the system, or the port of its files
abbrev pub IsNoLog : FolderFault → Type 0
IsNoLog (of_folders.System error) = Unit {0}
IsNoLog of_folders.Busy = Unit {0}
IsNoLog of_folders.Journal = Unit {0}
IsNoLog (of_folders.Log fault) = ⊥
IsNoLog of_folders.Memory = Unit {0}
