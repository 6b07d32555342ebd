use Rattle.std.proofs.Common.{subst}
use Rattle.association_services.specs.Response.{Awaited, CanBeResponded}
use Rattle.association_services.proofs.ResponseLaws.{response_whole}
use Rattle.association_services.proofs.awaited.Awaited.respond.Goals as goal

-- A response is a whole message: it has no data set.
pub of-requires-clause-whole : goal.of-requires-clause-whole
of-requires-clause-whole c =
    response_whole c.args.self.now c.args.status c.in_ok-message.message (subst (λ (a : Awaited). CanBeResponded a)
    c.self.view_is c.self.invariant) c.in_ok-message.ensures
