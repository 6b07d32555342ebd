use Rattle.archive_query.proofs.DateLeads.{up_open}
use Rattle.archive_query.proofs.walks.end_of_range.Goals as goal

-- Whatever a date leads to is before what stands behind all of the attribute.
pub returns-then-is_empty : goal.returns-then-is_empty
returns-then-is_empty c = up_open c.args.tag c.args.last.now c.empty.result c.in_ok-end.end c.empty.ensures
    c.in_ok-end.ensures
