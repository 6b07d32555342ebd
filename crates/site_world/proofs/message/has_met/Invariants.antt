use Rattle.std.proofs.Common.{◌≡◌, drop}
use Rattle.site_world.specs.Messages.{has_met}
use Rattle.site_world.proofs.message.has_met.Given as goal

-- No message so far was from the site or to it, so one was exactly where one of those left is.
abbrev pub invariant-loop-message : goal.invariant-loop-message
invariant-loop-message l = has_met l.sent l.number ≡ has_met (drop l.message-index l.sent) l.number
