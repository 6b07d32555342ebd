use Rattle.association_services.proofs.UidLaws.{counting_whole}
use Rattle.association_services.proofs.retrieval.Progress.respond.Goals as goal

-- The response is lawful, and announces a data set where it has one.
pub of-requires-clause-whole : goal.of-requires-clause-whole
of-requires-clause-whole c = counting_whole c.args.self.now c.args.status c.args.remaining c.args.body
    c.in_ok-message.message c.see_lawful.ensures c.in_ok-message.ensures
