use Rattle.association_run.proofs.StepLaws.{halts_of}
use Rattle.association_run.proofs.act.tell.Goals as goal

-- What a session does ends with a call or a close.
pub act-requires-clause-halts : goal.act-requires-clause-halts
act-requires-clause-halts g c = halts_of c.in_ok-deeds.deeds c.on.new.self.association.awaited
    (c.in_ok-deeds.ensures.turned c.requires.turn).stops
