-- Faults, and what a function that reads may answer.
use Rattle.std.specs.Prelude.{ℕ, Bool, true, false, Result, ⊤}
use Rattle.pdu.specs.declared.fault.PduFault.{PduFault}
use Rattle.pdu.specs.declared.fault.PduFault.TheVariants.{UnknownType, BadLength, BadItem, TooLong, Memory}
use Rattle.octets.specs.Gives.{Gives as GivesBy}

-- the public number of a fault
abbrev pub number_of : PduFault → ℕ
number_of UnknownType = 1
number_of BadLength = 2
number_of BadItem = 3
number_of TooLong = 4
number_of Memory = 5

-- Want of memory says nothing of the text.
abbrev pub is_memory : PduFault → Bool
is_memory UnknownType = false
is_memory BadLength = false
is_memory BadItem = false
is_memory TooLong = false
is_memory Memory = true

-- A function gave what reading comes to, unless memory ran out.
abbrev pub Gives : {X : Type 0} → Result X PduFault → Result X PduFault → Type 0
Gives given read = GivesBy is_memory (λ x. x) given read

-- a body that is malformed, or want of memory: the type and the length were told of before
abbrev pub IsBodyFault : PduFault → Type 0
IsBodyFault UnknownType = ⊥
IsBodyFault BadLength = ⊥
IsBodyFault BadItem = ⊤
IsBodyFault TooLong = ⊥
IsBodyFault Memory = ⊤
