-- What tells want of memory from the faults of a note.
use Rattle.std.specs.Prelude.{ℕ, Bool, true, false}
use Rattle.rejection_note.specs.declared.fault.NoteFault.{NoteFault}
use Rattle.rejection_note.specs.declared.fault.NoteFault.TheVariants.{NoTitle, NoReference, Memory}

abbrev pub is_memory : NoteFault → Bool
is_memory NoTitle = false
is_memory NoReference = false
is_memory Memory = true

-- the public numbers of the faults
abbrev pub number_of : NoteFault → ℕ
number_of NoTitle = 1
number_of NoReference = 2
number_of Memory = 3
