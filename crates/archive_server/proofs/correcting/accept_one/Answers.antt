use Rattle.std.proofs.Common.{refl}
use Rattle.archive_server.specs.Correcting.{at_desk}
use Rattle.archive_server.proofs.CorrectingLaws.{answered_none, answered_self, answered_on}
use Rattle.archive_server.proofs.correcting.accept_one.Goals as goal

-- Where nobody comes the clerk stays.
pub returns-then-is_nobody : goal.returns-then-is_nobody
returns-then-is_nobody g c =
    record { answered = answered_none g.H.HubName.opening _ _ _ c.args.stamps c.nothing-done.ensures.clerk }

-- Else it is what came of the accept.
pub returns : goal.returns
returns g c = let names = c.args.correcting.names.now in record {
  answered = answered_on g.H.HubName.opening names c.args.clerk c.args.clerk c.nothing-done.result.clerk
      c.with_entered-done.result.0.clerk c.with_entered-done.result.0.clerk c.args.stamps c.args.stamps
      c.with_entered-done.result.1 (answered_self g.H.HubName.opening (at_desk names c.args.clerk c.args.stamps))
      c.nothing-done.ensures.clerk c.with_entered-done.ensures.answered refl;
}
