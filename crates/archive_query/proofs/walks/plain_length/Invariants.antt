use Rattle.std.proofs.Common.{length, ◌-◌, ◌≡◌, ◌≤◌, true, take}
use Rattle.std.specs.List.{list_all}
use Rattle.archive_query.specs.Leads.{is_plain}
use Rattle.archive_query.proofs.walks.plain_length.Given as goal

-- no wild card stands among the bytes so far
abbrev pub invariant-loop-n : goal.invariant-loop-n
invariant-loop-n l = (l.n ≤ length l.key) × (list_all is_plain (take l.n l.key) ≡ true)

abbrev pub decreases-loop-n : goal.decreases-loop-n
decreases-loop-n l = length l.key - l.n
