use Rattle.std.proofs.Common.{◌≡◌, ◌++◌, drop}
use Rattle.std.specs.List.{flat_map}
use Rattle.site_simulation.specs.Texts.{line}
use Rattle.site_simulation.proofs.print.put_uids.Given as goal

-- What was printed, with the lines of the UIDs left, is the lines of all UIDs.
abbrev pub invariant-loop-uid : goal.invariant-loop-uid
invariant-loop-uid l = l.out.items ++ flat_map line (drop l.uid-index l.uids) ≡ l.fn.out.items ++ flat_map line l.uids
