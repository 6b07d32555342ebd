-- What a thread of a server has done, and what one connection more comes to.
use Rattle.std.specs.Prelude.{ℕ, ◌≡◌, List, Option, Some, None, Result, Ok, Err}
use Rattle.operation.specs.declared.op.Op.{Op}
use Rattle.site_state.specs.Site.{Map, ops_of}
use Rattle.site_hub.specs.Hub.{Seat, HasLooked}
use Rattle.site_hub.specs.History.{set_of}
use Rattle.ul_state.specs.declared.titles.Title.{Title}
use Rattle.archive_model.specs.declared.view.View.{View}
use Rattle.association_run.specs.declared.end.End.{End}
use Rattle.association_run.specs.declared.fault.RunFault.{RunFault}
use Rattle.association_run.specs.Output.{Output, FrontOfOutput}
use Rattle.association_run.specs.Parts.{Sides}
use Rattle.exchange.specs.declared.fault.ExchangeFault.{ExchangeFault}
use Rattle.exchange.specs.declared.fault.HolderFault.{HolderFault}
use Rattle.exchange.specs.declared.role.Role.{Role}
use Rattle.exchange.specs.declared.role.Ended.{Ended}
use Rattle.exchange.specs.Run.{Ends, Exchanged, EndsEarly}
use Rattle.archive_server.specs.declared.fault.ServeFault.{ServeFault}
use Rattle.archive_server.specs.declared.fault.ServeFault.TheVariants.{Run, Exchange}

-- where a clerk stands: its pass, and the beginning of the shelf's ledger that it knows
pub record Standing : Type 0 where
  pub pass : Seat
  pub known : List (List ℕ)

-- a clerk that only looked
pub record HasOnlyLooked (before after : Standing) : Type 0 where
  pub looked : HasLooked before.pass after.pass
  pub known : after.known ≡ before.known

-- its clerk, how many connections it accepted, how often an accept failed, and the first fault
pub record Deeds : Type 0 where
  pub clerk : Standing
  pub accepted : ℕ
  pub failed : ℕ
  pub fault : Option ServeFault

-- the set of what a pass has seen, and the operations of it
abbrev pub seen_by : Map → Seat → Map
seen_by opening s = set_of opening s.seen

abbrev pub ops_seen : Map → Seat → List Op
ops_seen opening s = ops_of (set_of opening s.seen)

-- what is a pass's own
abbrev pub own_of : Seat → List (List ℕ)
own_of s = s.mine

-- All that an association does for what it read and was replied over the set that its pass sees; a front of it after a
-- fault.
abbrev pub Attends : Map → List (Title View) → Option (List ℕ) → Option (List ℕ) → Sides Seat → Sides Seat
    → Result End RunFault → Type 0
Attends opening titles r0 r1 from to (Ok end) = Output (ops_seen opening) own_of titles r0 r1 from to end
Attends opening titles r0 r1 from to (Err fault) = FrontOfOutput (ops_seen opening) own_of titles r0 r1 from to

-- A whole exchange over the set that its pass sees, which loads may be refused so, or one that was broken off.
abbrev pub Converses : Map → (Seat → Seat → List ℕ → HolderFault → Type 0) → Role → Ends Seat → Ends Seat
    → Result Ended ExchangeFault → Type 0
Converses opening refuses role from to (Ok ended) = Exchanged (seen_by opening) (λ _. ⊥) refuses role from to ended
Converses opening refuses role from to (Err fault) = EndsEarly (seen_by opening) (λ _. ⊥) refuses role from to fault

-- the fault of an association, and of an exchange
abbrev pub fault_of_run : Result End RunFault → Option ServeFault
fault_of_run (Ok end) = None
fault_of_run (Err fault) = Some (Run fault)

abbrev pub fault_of_exchange : Result Ended ExchangeFault → Option ServeFault
fault_of_exchange (Ok ended) = None
fault_of_exchange (Err fault) = Some (Exchange fault)
