-- How commands end.
use Rattle.std.specs.Prelude.{ℕ, ◌+◌, List, [], ◌∷◌, ◌++◌, codes}
use Rattle.site_simulation.specs.Simulation.{number_of as number_of_script}
use Rattle.op_shelf.specs.Fault.{number_of as number_of_shelf}
use Rattle.op_shelf.specs.declared.fault.ShelfFault.TheVariants.{BadRow}
use Rattle.site_state.specs.Fault.{number_of as number_of_site}
use Rattle.site_hub.specs.Fault.{number_of as number_of_hub}
use Rattle.association_run.specs.Fault.{number_of as number_of_run}
use Rattle.exchange.specs.Fault.{number_of_exchange}
use Rattle.archive_server.specs.declared.fault.ServeFault.{ServeFault}
use Rattle.archive_server.specs.declared.fault.ServeFault.TheVariants.{Run as of_run, Exchange as of_exchange}
use Rattle.archive_server.specs.declared.fault.ServeFault.TheVariants.{Net as of_net}
use Rattle.archive_server.specs.Fault.{number_of as number_of_net}
use Rattle.shelved_site.specs.declared.fault.ShelvedFault.{ShelvedFault}
use Rattle.shelved_site.specs.declared.fault.ShelvedFault.TheVariants.{Shelf as of_shelf, Site as of_site}
use Rattle.shelved_site.specs.declared.fault.ShelvedFault.TheVariants.{Hub as of_hub, Hidden as of_hidden}
use Rattle.site_desk.specs.declared.ask_fault.AskFault.{AskFault}
use Rattle.site_desk.specs.declared.ask_fault.AskFault.TheVariants.{Broken, TooLong, NoAnswer, Memory, Refused}
use Rattle.site_desk.specs.declared.ask_fault.AskFault.TheVariants.{Unready, Unsaid}
use Rattle.archive_app.specs.declared.output.ending.CommandFault.{CommandFault}
use Rattle.archive_app.specs.declared.output.ending.CommandFault.TheVariants.{Simulate, Shelf, Site, Hub, Run}
use Rattle.archive_app.specs.declared.output.ending.CommandFault.TheVariants.{Exchange, Net, Ask}

-- the line of a fault: whose it is, and its public number there, which is below 10
abbrev pub fault_line : List ℕ → ℕ → List ℕ
fault_line whose number = codes "fault " ++ (whose ++ (32 ∷ (48 + number) ∷ []))

-- the line where a running site was asked in vain
abbrev pub line_of_ask : AskFault → List ℕ
line_of_ask Broken = fault_line (codes "ask") 1
line_of_ask TooLong = fault_line (codes "ask") 2
line_of_ask NoAnswer = fault_line (codes "ask") 3
line_of_ask Memory = fault_line (codes "ask") 4
line_of_ask (Refused fault) = fault_line (codes "ask") 5
line_of_ask Unready = fault_line (codes "ask") 6
line_of_ask Unsaid = fault_line (codes "ask") 7

-- the line on standard error of a command that did not do what it was asked for
abbrev pub line_of_fault : CommandFault → List ℕ
line_of_fault (Simulate fault) = fault_line (codes "simulate") (number_of_script fault)
line_of_fault (Shelf fault) = fault_line (codes "shelf") (number_of_shelf fault)
line_of_fault (Site fault) = fault_line (codes "site") (number_of_site fault)
line_of_fault (Hub fault) = fault_line (codes "hub") (number_of_hub fault)
line_of_fault (Run fault) = fault_line (codes "run") (number_of_run fault)
line_of_fault (Exchange fault) = fault_line (codes "exchange") (number_of_exchange fault)
line_of_fault (Net fault) = fault_line (codes "net") (number_of_net fault)
line_of_fault (Ask fault) = line_of_ask fault

-- the fault of a site on a shelf as a command tells it
abbrev pub fault_of_shelved : ShelvedFault → CommandFault
fault_of_shelved (of_shelf fault) = Shelf fault
fault_of_shelved (of_site fault) = Site fault
fault_of_shelved (of_hub fault) = Hub fault
fault_of_shelved of_hidden = Shelf BadRow

-- the fault of a server as a command tells it
abbrev pub fault_of_served : ServeFault → CommandFault
fault_of_served (of_run fault) = Run fault
fault_of_served (of_exchange fault) = Exchange fault
fault_of_served (of_net fault) = Net fault
