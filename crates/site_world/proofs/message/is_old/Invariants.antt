use Rattle.std.proofs.Common.{◌≡◌, drop}
use Rattle.site_world.specs.Messages.{is_old}
use Rattle.site_world.proofs.message.is_old.Given as goal

-- No old site so far is this one, so it is old exactly where it is among those left.
abbrev pub invariant-loop-other : goal.invariant-loop-other
invariant-loop-other l = is_old l.old l.number ≡ is_old (drop l.other-index l.old) l.number
