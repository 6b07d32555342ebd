use Rattle.std.proofs.Common.{◌≡◌, drop}
use Rattle.archive_query.specs.Found.{value_among}
use Rattle.archive_query.proofs.fixes.value_among.Given as goal

-- None so far is of the tag, so its value is found among those that are left.
abbrev pub invariant-loop-fix : goal.invariant-loop-fix
invariant-loop-fix l = value_among l.own l.tag (drop l.fix-index l.fixes) ≡ value_among l.own l.tag l.fixes
