-- The faults of the parts of a run.
use Rattle.std.specs.Prelude.{Bool, true, false, Result, Err}
use Rattle.association_run.specs.declared.fault.RunFault.{RunFault}
use Rattle.association_run.specs.declared.fault.RunFault.TheVariants as runs
use Rattle.association_run.specs.declared.fault.ReadFault.{ReadFault}
use Rattle.association_run.specs.declared.fault.ReadFault.TheVariants as reads
use Rattle.association_run.specs.declared.fault.WriteFault.{WriteFault}
use Rattle.association_run.specs.declared.fault.WriteFault.TheVariants as writes

-- the fault of a run that one of reading is, or one of writing
abbrev pub fault_of_read : ReadFault → RunFault
fault_of_read reads.Read = runs.Read
fault_of_read reads.Memory = runs.Memory

abbrev pub fault_of_write : WriteFault → RunFault
fault_of_write writes.Write = runs.Write
fault_of_write writes.Memory = runs.Memory

-- whether a failure of the reader, or of the writer, is told
abbrev pub fails_read : {A : Type 0} → Result A ReadFault → Bool
fails_read (Err reads.Read) = true
fails_read _ = false

abbrev pub fails_write : {A : Type 0} → Result A WriteFault → Bool
fails_write (Err writes.Write) = true
fails_write _ = false

abbrev pub tells_turns : {A : Type 0} → Result A RunFault → Bool
tells_turns (Err runs.Turns) = true
tells_turns _ = false
