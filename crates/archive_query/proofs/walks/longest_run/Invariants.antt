use Rattle.std.proofs.Common.{length, ◌-◌}
use Rattle.archive_query.specs.Leads.{IsRunOf}
use Rattle.archive_query.proofs.walks.longest_run.Given as goal

-- the longest so far is a run of the key
abbrev pub invariant-loop-at : goal.invariant-loop-at
invariant-loop-at l = IsRunOf l.key l.longest

abbrev pub decreases-loop-at : goal.decreases-loop-at
decreases-loop-at l = length l.key - l.at
