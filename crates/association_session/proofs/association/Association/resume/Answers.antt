use Rattle.association_session.proofs.association.Association.resume.Goals as goal

-- The reply that is awaited is taken.
pub returns-clause-turned : goal.returns-clause-turned
returns-clause-turned c = λ titles turn. c.take.ensures.turned titles
