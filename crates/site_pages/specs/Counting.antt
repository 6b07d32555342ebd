-- What is counted of an association and of an exchange that have ended.
use Rattle.std.specs.Prelude.{ℕ, Bool, true, false, ◌&&◌, ◌==◌, Result, Ok, Err, if◌then◌else◌}
use Rattle.association_run.specs.declared.end.End.{End}
use Rattle.association_run.specs.declared.end.End.TheVariants.{Released, Aborted, Closed, Dropped}
use Rattle.association_run.specs.declared.fault.RunFault.{RunFault}
use Rattle.exchange.specs.declared.fault.ExchangeFault.{ExchangeFault}
use Rattle.exchange.specs.declared.role.Ended.{Ended}
use Rattle.site_pages.specs.declared.ends.AssociationEnd.{AssociationEnd}
use Rattle.site_pages.specs.declared.ends.AssociationEnd.TheVariants as association
use Rattle.site_pages.specs.declared.ends.ExchangeEnd.{ExchangeEnd}
use Rattle.site_pages.specs.declared.ends.ExchangeEnd.TheVariants as exchange
use Rattle.site_pages.specs.declared.meters.Met.{Met}

-- an association is counted by its fault, if it has one, or as rejected, or by its end
abbrev pub association_end : Result End RunFault → Bool → AssociationEnd
association_end (Err fault) rejected = association.Fault
association_end (Ok end) true = association.Rejected
association_end (Ok Released) false = association.Released
association_end (Ok Aborted) false = association.Aborted
association_end (Ok Closed) false = association.Closed
association_end (Ok Dropped) false = association.Dropped

-- whether both sides agreed, and all that was to be given could be read
abbrev pub has_agreed : Ended → Bool
has_agreed ended = ended.agreed && (ended.unread == 0)

-- an exchange that was not broken off is counted by whether all that was asked for was given, and then by whether
-- both sides agreed
abbrev pub exchange_end : Ended → ExchangeEnd
exchange_end ended =
    if ended.finished then (if has_agreed ended then exchange.Agreed else exchange.NotAgreed) else exchange.Unfinished

-- what came of a call in a second, of a peer that was not reached
abbrev pub unreached_in : ℕ → Met
unreached_in at = record { end = exchange.NotReached; given = 0; unread = 0; taken = 0; at = at }

-- what came of an exchange that ended in a second
abbrev pub met_in : Result Ended ExchangeFault → ℕ → Met
met_in (Err fault) at = record { end = exchange.Fault; given = 0; unread = 0; taken = 0; at = at }
met_in (Ok ended) at = record {
  end = exchange_end ended;
  given = ended.given;
  unread = ended.unread;
  taken = ended.taken;
  at = at;
}
