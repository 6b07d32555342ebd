use Rattle.archive_server.proofs.CountLaws.{told_of_none}
use Rattle.archive_server.proofs.OnwardLaws.{gone_self}
use Rattle.archive_server.proofs.exchanging.next_exchange.Goals as goal

-- Where nobody came the clerk stays.
pub returns-in-Err-clause-onward : goal.returns-in-Err-clause-onward
returns-in-Err-clause-onward g c = rw c.with_none.ensures.clerk (gone_self _)

-- Whoever may not come leaves the clerk as it is.
pub returns-in-Ok-TurnedAway-clause-onward : goal.returns-in-Ok-TurnedAway-clause-onward
returns-in-Ok-TurnedAway-clause-onward g c = rw c.with_turned_away.ensures.clerk (gone_self _)

-- An accept that failed is told, unless the server was ended.
pub returns-in-Err-clause-told : goal.returns-in-Err-clause-told
returns-in-Err-clause-told g c =
    told_of_none c.args.hall.now.manner.ending c.is_ended.result _ _ _ _ _ c.is_ended.ensures.asked
    c.with_none.ensures.fault
