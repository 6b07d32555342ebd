use Rattle.std.proofs.Common.{◌≡◌, Option, Some, None, refl}
use Rattle.op_shelf.specs.declared.fault.ShelfFault.{ShelfFault}
use Rattle.op_shelf.specs.declared.fault.ShelfFault.TheVariants.{Store, BadRow, Memory}
use Rattle.op_shelf.specs.declared.fault.StoreCause.TheVariants.{Full, Failed, Closed, Damaged, Other}
use Rattle.archive_server.specs.Health.{number_of_last, last_of}
use Rattle.archive_server.proofs.health.each_end_of_a_put_has_its_number.Goals as goal

read_back : (last : Option ShelfFault) → last_of (number_of_last last) ≡ last
read_back None = refl
read_back (Some (Store Full)) = refl
read_back (Some (Store Failed)) = refl
read_back (Some (Store Closed)) = refl
read_back (Some (Store Damaged)) = refl
read_back (Some (Store Other)) = refl
read_back (Some BadRow) = refl
read_back (Some Memory) = refl

-- Each number is that of one end alone.
pub returns : goal.returns
returns c = read_back
