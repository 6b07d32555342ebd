use Rattle.std.proofs.Common.{subst}
use Rattle.association_services.specs.Response.{Awaited, FitsLimit}
use Rattle.association_services.proofs.awaited.Awaited.see_room.Goals as goal

-- Its type keeps it.
pub returns : goal.returns
returns c = subst (λ (a : Awaited). FitsLimit a.limit) c.self.view_is c.self.invariant.limit
