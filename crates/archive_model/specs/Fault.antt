-- What tells want of memory from the faults of an identifier.
use Rattle.std.specs.Prelude.{ℕ, Bool, true, false}
use Rattle.archive_model.specs.declared.fault.QueryFault.{QueryFault}
use Rattle.archive_model.specs.declared.fault.QueryFault.TheVariants.{NoLevel, MissingUpperKey, BadKey, Memory}

abbrev pub is_memory : QueryFault → Bool
is_memory NoLevel = false
is_memory MissingUpperKey = false
is_memory BadKey = false
is_memory Memory = true

-- the public numbers of the faults
abbrev pub number_of : QueryFault → ℕ
number_of NoLevel = 1
number_of MissingUpperKey = 2
number_of BadKey = 3
number_of Memory = 4
