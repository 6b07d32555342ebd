use Rattle.hub_exchange.proofs.Lines.{digests_begin}
use Rattle.hub_exchange.proofs.book.Extract.learn.Goals as goal

-- What it knew begins what it knows.
pub returns-clause-this : goal.returns-clause-this
returns-clause-this g c = rw (← c.self.view_is) (digests_begin _ _ _ c.learn.ensures.2)

-- What the other one knew begins it too.
pub returns-clause-that : goal.returns-clause-that
returns-clause-that g c = rw (← c.other.view_is) (digests_begin _ _ _ c.learn.ensures.3)
