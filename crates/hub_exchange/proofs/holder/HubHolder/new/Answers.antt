use Rattle.std.proofs.Common.{sym, subst}
use Rattle.site_hub.specs.Hub.{Seat}
use Rattle.hub_exchange.specs.Putting.{WasWritten}
use Rattle.hub_exchange.specs.Onward.{IsOnward}
use Rattle.hub_exchange.proofs.OnwardLaws.{onward_self}
use Rattle.hub_exchange.proofs.holder.HubHolder.new.Goals as goal

-- The pass is what it was at entry.
pub invariant_of-result : goal.invariant_of-result
invariant_of-result g c = record {
  onward = subst (λ (s : Seat). IsOnward (WasWritten c.args.extract) g.E.AtEntry.seat s) (sym c.requires.entry)
      (onward_self (WasWritten c.args.extract) g.E.AtEntry.seat);
  lent = c.requires.lent;
}
