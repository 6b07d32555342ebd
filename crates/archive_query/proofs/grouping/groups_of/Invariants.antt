use Rattle.std.proofs.Common.{◌≡◌, ◌++◌, ◌≤◌, ◌-◌, map, length, drop}
use Rattle.archive_query.specs.Grouping.{groups_by, Ascends}
use Rattle.archive_model.specs.Rows.{uid_at}
use Rattle.archive_query.proofs.grouping.groups_of.Given as goal

-- What is left ascends, and the groups so far, with its groups, are the groups of all contents.
abbrev pub invariant-loop-start : goal.invariant-loop-start
invariant-loop-start l = record {
  within : l.start ≤ length l.sorted;
  up : Ascends (λ c. uid_at l.level c.now) (drop l.start l.sorted);
  so_far : map (λ g. g.now) l.groups.items ++ groups_by (λ c. uid_at l.level c.now) (drop l.start l.sorted) ≡ groups_by
      (λ c. uid_at l.level c.now) l.sorted;
}

-- With each run, fewer contents are left.
abbrev pub decreases-loop-start : goal.decreases-loop-start
decreases-loop-start l = length l.sorted - l.start
