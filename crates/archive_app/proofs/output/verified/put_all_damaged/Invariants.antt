use Rattle.std.proofs.Common.{◌≡◌, ◌++◌, drop}
use Rattle.std.specs.List.{flat_map}
use Rattle.archive_app.specs.Verified.{damaged_line}
use Rattle.archive_app.proofs.output.verified.put_all_damaged.Given as goal

-- The lines of those that are left, behind what stands there.
abbrev pub invariant-loop-one : goal.invariant-loop-one
invariant-loop-one l =
    l.out.items ++ flat_map damaged_line (drop l.one-index l.damaged) ≡ l.fn.out.items ++ flat_map damaged_line l.damaged
