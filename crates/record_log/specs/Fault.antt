-- Which faults are told.
use Rattle.head_log.specs.declared.fault.HeadFault.{HeadFault}
use Rattle.head_log.specs.declared.fault.HeadFault.TheVariants.{Disk, Closed, TooLong, Damaged, Memory}

-- what is told where records are read
abbrev pub IsOfReading : HeadFault → Type 0
IsOfReading Disk = Unit {0}
IsOfReading Closed = Unit {0}
IsOfReading TooLong = ⊥
IsOfReading (Damaged at) = Unit {0}
IsOfReading Memory = Unit {0}

-- and where they are added
abbrev pub IsOfAdding : HeadFault → Type 0
IsOfAdding Disk = Unit {0}
IsOfAdding Closed = Unit {0}
IsOfAdding TooLong = Unit {0}
IsOfAdding (Damaged at) = ⊥
IsOfAdding Memory = Unit {0}
