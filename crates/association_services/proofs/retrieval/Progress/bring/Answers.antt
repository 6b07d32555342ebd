use Rattle.association_services.proofs.UidLaws.{bringing_whole}
use Rattle.association_services.proofs.retrieval.Progress.bring.Goals as goal

-- The request is lawful, and announces its data set.
pub of-requires-clause-whole : goal.of-requires-clause-whole
of-requires-clause-whole c = bringing_whole c.args.self.now c.args.way c.args.prepared.now
    c.in_ok-message.message c.body-body.ensures.content c.in_ok-message.ensures
