use Rattle.std.proofs.Common.{◌≡◌, take, map}
use Rattle.site_tables.specs.Rejected.{row_by}
use Rattle.site_tables.proofs.rejected.rows_at.Given as goal

-- The rows are those of the UIDs so far.
abbrev pub invariant-loop-uid : goal.invariant-loop-uid
invariant-loop-uid l = l.rows.items ≡ map (row_by l.entries) (take l.uid-index l.uids)
