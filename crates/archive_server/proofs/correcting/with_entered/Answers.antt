use Rattle.archive_server.proofs.CorrectingLaws.{answered_none}
use Rattle.archive_server.proofs.correcting.with_entered.Goals as goal

-- Where nobody came the clerk stays.
pub returns-in-Err-clause-answered : goal.returns-in-Err-clause-answered
returns-in-Err-clause-answered g c =
    answered_none g.H.HubName.opening _ _ _ c.args.stamps c.with_none.ensures.clerk

-- Whoever may not come leaves the clerk as it is.
pub returns-in-Ok-TurnedAway-clause-answered : goal.returns-in-Ok-TurnedAway-clause-answered
returns-in-Ok-TurnedAway-clause-answered g c =
    answered_none g.H.HubName.opening _ _ _ c.args.stamps c.with_turned_away.ensures.clerk
