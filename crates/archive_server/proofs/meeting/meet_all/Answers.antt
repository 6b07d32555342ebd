use Rattle.archive_server.proofs.meeting.meet_all.Goals as goal

-- The clerk is that of the last call.
pub returns : goal.returns
returns g c = record { onward = rw c.nothing.ensures.clerk c.call_again-onward.ensures.onward }
