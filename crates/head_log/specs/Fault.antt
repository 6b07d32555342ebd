-- The public numbers of the faults, and when they are told.
use Rattle.std.specs.Prelude.{ℕ, Result}
use Rattle.body_log.specs.Fault.{CountsAs}
use Rattle.head_log.specs.declared.fault.HeadFault.{HeadFault}
use Rattle.head_log.specs.declared.fault.HeadFault.TheVariants.{Disk, Closed, TooLong, Damaged, Memory}

abbrev pub number_of : HeadFault → ℕ
number_of Disk = 1
number_of Closed = 2
number_of TooLong = 3
number_of (Damaged at) = 4
number_of Memory = 5

-- what an open tells
abbrev pub IsOfOpen : HeadFault → Type 0
IsOfOpen Disk = Unit {0}
IsOfOpen Closed = ⊥
IsOfOpen TooLong = ⊥
IsOfOpen (Damaged at) = Unit {0}
IsOfOpen Memory = ⊥

-- the count of the disk's failures stays at `Ok`, and rises where `Disk` is told
abbrev pub CountsDisk : {V : Type 0} → Result V HeadFault → ℕ → ℕ → Type 0
CountsDisk result old new = CountsAs Disk result old new
