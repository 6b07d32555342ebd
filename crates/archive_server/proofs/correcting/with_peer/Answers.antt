use Rattle.archive_server.specs.Correcting.{at_desk}
use Rattle.archive_server.proofs.CorrectingLaws.{answered_by}
use Rattle.archive_server.proofs.correcting.with_peer.Goals as goal

-- What was answered on the connection is all that was.
pub returns-clause-answered : goal.returns-clause-answered
returns-clause-answered g c =
    let with_one = c.with_corrections-done in let served = with_one.ensures.served in
    answered_by g.H.HubName.opening (at_desk c.args.correcting.names.now c.args.done.clerk c.args.stamps)
    (at_desk c.args.correcting.names.now with_one.result.0.clerk with_one.result.1) served.0 served.2
