use Rattle.archive_server.proofs.PagingLaws.{only_self}
use Rattle.archive_server.proofs.paging.with_entered.Goals as goal

-- Where nobody came the clerk stays.
pub returns-in-Err-clause-looked : goal.returns-in-Err-clause-looked
returns-in-Err-clause-looked g c = rw c.with_none.ensures.clerk (only_self _)

-- Whoever may not come leaves the clerk as it is.
pub returns-in-Ok-TurnedAway-clause-looked : goal.returns-in-Ok-TurnedAway-clause-looked
returns-in-Ok-TurnedAway-clause-looked g c = rw c.with_turned_away.ensures.clerk (only_self _)
