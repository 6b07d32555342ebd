-- Faults, and what a function that reads may answer.
use Rattle.std.specs.Prelude.{ℕ, Bool, true, false, Result}
use Rattle.dimse.specs.declared.fault.DimseFault.{DimseFault}
use Rattle.dimse.specs.declared.fault.DimseFault.TheVariants.{BadContext, Interleaved, BadCommand, TooLong, Memory}
use Rattle.dimse.specs.declared.fault.DimseFault.TheVariants.{Failed}
use Rattle.octets.specs.Gives.{Gives as GivesBy}

-- the public number of a fault
abbrev pub number_of : DimseFault → ℕ
number_of BadContext = 1
number_of Interleaved = 2
number_of BadCommand = 3
number_of TooLong = 4
number_of Memory = 5
number_of Failed = 6

-- Want of memory says nothing of the text.
abbrev pub is_memory : DimseFault → Bool
is_memory BadContext = false
is_memory Interleaved = false
is_memory BadCommand = false
is_memory TooLong = false
is_memory Memory = true
is_memory Failed = false

-- A function gave what reading comes to, unless memory ran out.
abbrev pub Gives : {X Y : Type 0} → (X → Y) → Result X DimseFault → Result Y DimseFault → Type 0
Gives view given read = GivesBy is_memory view given read
