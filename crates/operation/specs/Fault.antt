-- What tells want of memory from the faults of operations.
use Rattle.std.specs.Prelude.{ℕ, Bool, true, false}
use Rattle.data_set.specs.declared.fault.SetFault.{SetFault}
use Rattle.data_set.specs.declared.fault.SetFault.TheVariants.{Memory as set_memory}
use Rattle.rejection_note.specs.declared.fault.NoteFault.{NoteFault}
use Rattle.rejection_note.specs.declared.fault.NoteFault.TheVariants.{Memory as note_memory}
use Rattle.operation.specs.declared.fault.OpFault.{OpFault}
use Rattle.operation.specs.declared.fault.OpFault.TheVariants.{NoUid, Mismatch, BadSet, BadNote, BadCorrection, TooLong}
use Rattle.operation.specs.declared.fault.OpFault.TheVariants.{UnknownKind, Memory, Shape}

abbrev pub is_memory : OpFault → Bool
is_memory Memory = true
is_memory fault = false

-- the public numbers of the faults
abbrev pub number_of : OpFault → ℕ
number_of NoUid = 1
number_of Mismatch = 2
number_of BadSet = 3
number_of BadNote = 4
number_of BadCorrection = 5
number_of TooLong = 6
number_of UnknownKind = 7
number_of Memory = 8
number_of Shape = 9

-- what the fault of a data set, or of a note, makes of a content
abbrev pub fault_of_set : SetFault → OpFault
fault_of_set set_memory = Memory
fault_of_set fault = BadSet

abbrev pub fault_of_note : NoteFault → OpFault
fault_of_note note_memory = Memory
fault_of_note fault = BadNote
