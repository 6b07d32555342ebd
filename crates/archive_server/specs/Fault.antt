-- The faults of a server.
use Rattle.std.specs.Prelude.{ℕ}
use Rattle.op_shelf.specs.declared.fault.ShelfFault.{ShelfFault}
use Rattle.op_shelf.specs.declared.fault.ShelfFault.TheVariants as shelf_faults
use Rattle.association_services.specs.declared.reply.PortFault.{PortFault}
use Rattle.association_services.specs.declared.reply.PortFault.TheVariants.{Memory, Shelf}
use Rattle.archive_server.specs.declared.fault.NetFault.{NetFault}
use Rattle.archive_server.specs.declared.fault.NetFault.TheVariants as net_faults

-- what a fault of the shelf is to an association
abbrev pub port_fault_of : ShelfFault → PortFault
port_fault_of (shelf_faults.Store _) = Shelf
port_fault_of shelf_faults.BadRow = Shelf
port_fault_of shelf_faults.Memory = Memory

-- the public numbers of what the network refused
abbrev pub number_of : NetFault → ℕ
number_of net_faults.Listen = 1
number_of net_faults.Accept = 2
number_of net_faults.Connect = 3
