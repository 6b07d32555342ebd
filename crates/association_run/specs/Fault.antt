-- The faults of a run.
use Rattle.std.specs.Prelude.{◌≡◌, ℕ, Bool, true, false, Result, Err, MatchBool}
use Rattle.devices.specs.Failures.{Rose}
use Rattle.association_run.specs.declared.fault.RunFault.{RunFault}
use Rattle.association_run.specs.declared.fault.RunFault.TheVariants.{Read, Write, Memory, Turns}

-- the public numbers of the faults
abbrev pub number_of : RunFault → ℕ
number_of Read = 1
number_of Write = 2
number_of Memory = 3
number_of Turns = 4

-- whether a fault of the reader, or of the writer, is told
abbrev pub tells_read : {A : Type 0} → Result A RunFault → Bool
tells_read (Err Read) = true
tells_read _ = false

abbrev pub tells_write : {A : Type 0} → Result A RunFault → Bool
tells_write (Err Write) = true
tells_write _ = false

-- the failures of a device were counted where one is told, and else there was none
abbrev pub CountedWhere : Bool → ℕ → ℕ → Type 0
CountedWhere told old new = MatchBool told (Rose old new) (new ≡ old)
