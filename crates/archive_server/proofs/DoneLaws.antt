-- Laws of associations, exchanges and responses that came to something.
use Rattle.std.proofs.Common.{ℕ, List, Option, Result, Ok, Err, IfOk, IfErr, OnErr}
use Rattle.site_state.specs.Site.{Map}
use Rattle.site_hub.specs.Hub.{Seat}
use Rattle.ul_state.specs.declared.titles.Title.{Title}
use Rattle.archive_model.specs.declared.view.View.{View}
use Rattle.association_run.specs.declared.end.End.{End}
use Rattle.association_run.specs.declared.fault.RunFault.{RunFault}
use Rattle.association_run.specs.Output.{Output, FrontOfOutput}
use Rattle.association_run.specs.Parts.{Sides}
use Rattle.exchange.specs.declared.fault.ExchangeFault.{ExchangeFault}
use Rattle.exchange.specs.declared.fault.HolderFault.{HolderFault}
use Rattle.exchange.specs.declared.role.Role.{Role}
use Rattle.exchange.specs.declared.role.Ended.{Ended}
use Rattle.exchange.specs.Run.{Ends, Exchanged, EndsEarly}
use Rattle.archive_server.specs.Done.{seen_by, ops_seen, own_of, Attends, Converses}

-- an association that ended, or was broken off
pub attends_as : (opening : Map) (titles : List (Title View)) (r0 r1 : Option (List ℕ)) (from to : Sides Seat)
    (ended : Result End RunFault) → IfOk ended (Output (ops_seen opening) own_of titles r0 r1 from to)
    → OnErr ended (FrontOfOutput (ops_seen opening) own_of titles r0 r1 from to)
    → Attends opening titles r0 r1 from to ended
attends_as opening titles r0 r1 from to (Ok end) ok err = ok
attends_as opening titles r0 r1 from to (Err fault) ok err = err

-- an exchange that ended, or was broken off
pub converses_as : (opening : Map) (refuses : Seat → Seat → List ℕ → HolderFault → Type 0) (role : Role)
    (from to : Ends Seat) (ended : Result Ended ExchangeFault)
    → IfOk ended (Exchanged (seen_by opening) (λ _. ⊥) refuses role from to)
    → IfErr ended (EndsEarly (seen_by opening) (λ _. ⊥) refuses role from to)
    → Converses opening refuses role from to ended
converses_as opening refuses role from to (Ok ended) ok err = ok
converses_as opening refuses role from to (Err fault) ok err = err
