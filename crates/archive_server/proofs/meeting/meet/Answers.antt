use Rattle.archive_server.proofs.OnwardLaws.{gone_self}
use Rattle.archive_server.proofs.meeting.meet.Goals as goal

-- Where the call was refused the clerk stays.
pub returns-in-Err : goal.returns-in-Err
returns-in-Err g c = record { onward = gone_self _ }
