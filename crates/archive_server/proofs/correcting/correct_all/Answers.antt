use Rattle.archive_server.proofs.CorrectingLaws.{answered_none}
use Rattle.archive_server.proofs.correcting.correct_all.Goals as goal

-- A thread whose accepts would not end gives its pass back as it came.
pub returns-then-is_err : goal.returns-then-is_err
returns-then-is_err g c = record {
  corrected = (
    record { site = c.args.correcting.site; last = 0 },
    answered_none g.H.HubName.opening _ _ _ (record { site = c.args.correcting.site; last = 0 })
        c.nothing.ensures.clerk,
  );
}

-- The desk began with the site's number and no counter.
pub returns : goal.returns
returns g c = record { corrected = (c.accept_again-done.result.1, c.accept_again-done.ensures.answered) }
