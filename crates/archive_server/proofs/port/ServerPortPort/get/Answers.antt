use Rattle.archive_server.proofs.OnwardLaws.{onward_looked}
use Rattle.archive_server.proofs.port.ServerPortPort.get.Goals as goal

-- A look makes nothing the pass's own.
pub invariant_of-self : goal.invariant_of-self
invariant_of-self g c = record {
  onward = onward_looked _ _ _ _ c.self.invariant.onward c.listed-listed.ensures.later
      c.listed-listed.ensures.gets.own_kept;
  lent = c.self.invariant.lent;
}
