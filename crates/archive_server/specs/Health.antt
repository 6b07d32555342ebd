-- What the last put to a shelf came to, as a number.
use Rattle.std.specs.Prelude.{ℕ, ◌==◌, if◌then◌else◌, Option, Some, None}
use Rattle.op_shelf.specs.declared.fault.ShelfFault.{ShelfFault}
use Rattle.op_shelf.specs.declared.fault.ShelfFault.TheVariants.{Store, BadRow, Memory}
use Rattle.op_shelf.specs.declared.fault.StoreCause.{StoreCause}
use Rattle.op_shelf.specs.declared.fault.StoreCause.TheVariants.{Full, Failed, Closed, Damaged, Other}

abbrev pub number_of_cause : StoreCause → ℕ
number_of_cause Full = 1
number_of_cause Failed = 2
number_of_cause Closed = 3
number_of_cause Damaged = 4
number_of_cause Other = 5

-- 0 where it was taken, and else why it was refused
abbrev pub number_of_last : Option ShelfFault → ℕ
number_of_last None = 0
number_of_last (Some (Store cause)) = number_of_cause cause
number_of_last (Some BadRow) = 6
number_of_last (Some Memory) = 7

-- what has this number
abbrev pub last_of : ℕ → Option ShelfFault
last_of number = if number == 1 then Some (Store Full)
    else (if number == 2 then Some (Store Failed)
    else (if number == 3 then Some (Store Closed)
    else (if number == 4 then Some (Store Damaged)
    else (if number == 5 then Some (Store Other)
    else (if number == 6 then Some BadRow
    else (if number == 7 then Some Memory else None))))))
