use Rattle.std.proofs.Common.{◌≡◌}
use Rattle.site_hub.specs.Hub.{new_seats}
use Rattle.site_hub.proofs.opened.passes_of.Given as goal

-- There is a new pass for each number so far.
abbrev pub invariant-loop-k : goal.invariant-loop-k
invariant-loop-k g l = l.passes.items ≡ new_seats l.k
