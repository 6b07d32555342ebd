use Rattle.archive_server.proofs.PagingLaws.{only_self}
use Rattle.archive_server.proofs.paging.page_all.Goals as goal

-- A thread whose accepts would not end gives its pass back as it came.
pub returns-then-is_err : goal.returns-then-is_err
returns-then-is_err g c = record { looked = rw c.nothing.ensures.clerk (only_self _) }
