use Rattle.std.proofs.Common.{◌≡◌, length}
use Rattle.site_hub.specs.Close.{is_own}
use Rattle.site_hub.proofs.closing.is_own.Given as goal

-- What is left of the list is the own of what is left of the log exactly where all of it is of all.
abbrev pub invariant-loop-rest : goal.invariant-loop-rest
invariant-loop-rest l = is_own l.number l.left l.rest ≡ is_own l.number l.mine l.log

-- Each turn leaves fewer entries.
abbrev pub decreases-loop-rest : goal.decreases-loop-rest
decreases-loop-rest l = length l.rest
