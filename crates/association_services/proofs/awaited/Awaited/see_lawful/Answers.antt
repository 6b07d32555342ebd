use Rattle.std.proofs.Common.{subst}
use Rattle.association_services.specs.Response.{Awaited, CanBeResponded}
use Rattle.association_services.proofs.awaited.Awaited.see_lawful.Goals as goal

-- Its type keeps it.
pub returns : goal.returns
returns c = subst (λ (a : Awaited). CanBeResponded a) c.self.view_is c.self.invariant
