-- What tells want of memory from the faults of a text.
use Rattle.std.specs.Prelude.{ℕ, Bool, true, false}
use Rattle.data_set.specs.declared.fault.SetFault.{SetFault}
use Rattle.data_set.specs.declared.fault.SetFault.TheVariants.{Truncated, Order, Depth, Undefined, BadVr, Group, Memory}

abbrev pub is_memory : SetFault → Bool
is_memory Memory = true
is_memory fault = false

-- the public numbers of the faults
abbrev pub number_of : SetFault → ℕ
number_of Truncated = 1
number_of Order = 2
number_of Depth = 3
number_of Undefined = 4
number_of BadVr = 5
number_of Group = 6
number_of Memory = 7
