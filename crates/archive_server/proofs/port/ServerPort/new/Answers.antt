use Rattle.std.proofs.Common.{sym, subst, ◌∙◌}
use Rattle.site_hub.specs.Hub.{Seat}
use Rattle.archive_server.specs.Serving.{IsOnward, WasWritten}
use Rattle.archive_server.proofs.OnwardLaws.{onward_self}
use Rattle.archive_server.proofs.port.ServerPort.new.Goals as goal

-- The pass is what it was at entry.
pub invariant_of-result : goal.invariant_of-result
invariant_of-result g c = record {
  onward = subst (λ (s : Seat). IsOnward (WasWritten c.args.extract) g.E.AtEntry.seat s)
      (sym (c.new.ensures ∙ c.requires.entry)) (onward_self (WasWritten c.args.extract) g.E.AtEntry.seat);
  lent = c.requires.lent;
}
