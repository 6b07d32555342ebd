use Rattle.archive_server.proofs.PagingLaws.{only_self}
use Rattle.archive_server.proofs.paging.accept_one.Goals as goal

-- Where nobody comes the clerk stays.
pub returns-then-is_nobody : goal.returns-then-is_nobody
returns-then-is_nobody g c = record { looked = rw c.nothing-done.ensures.clerk (only_self _) }
