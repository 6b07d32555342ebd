use Rattle.std.proofs.Common.{subst}
use Rattle.association_services.specs.Response.{Awaited, CanBeResponded}
use Rattle.association_services.proofs.ResponseLaws.{with_whole}
use Rattle.association_services.proofs.awaited.Awaited.respond_with.Goals as goal

-- The response is lawful, and announces its data set.
pub of-requires-clause-whole : goal.of-requires-clause-whole
of-requires-clause-whole c =
    with_whole c.args.self.now c.args.status c.args.text c.in_ok-message.message
    (subst (λ (a : Awaited). CanBeResponded a) c.self.view_is c.self.invariant) c.in_ok-message.ensures
