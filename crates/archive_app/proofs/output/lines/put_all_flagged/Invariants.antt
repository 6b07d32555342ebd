use Rattle.std.proofs.Common.{◌≡◌, ◌++◌, drop}
use Rattle.std.specs.List.{flat_map}
use Rattle.archive_app.specs.Lines.{flagged_line}
use Rattle.archive_app.proofs.output.lines.put_all_flagged.Given as goal

-- The lines of those that are left, behind what stands there.
abbrev pub invariant-loop-uid : goal.invariant-loop-uid
invariant-loop-uid l =
    l.out.items ++ flat_map flagged_line (drop l.uid-index l.uids) ≡ l.fn.out.items ++ flat_map flagged_line l.uids
