-- What a port replies.
use Rattle.std.specs.Prelude.{ℕ}
use Rattle.association_services.specs.declared.reply.PortFault.{PortFault}
use Rattle.association_services.specs.declared.reply.PortFault.TheVariants.{Memory, Busy, Collision, Shelf}

-- the public number of a port's fault
abbrev pub number_of : PortFault → ℕ
number_of Memory = 1
number_of Busy = 2
number_of Collision = 3
number_of Shelf = 4
