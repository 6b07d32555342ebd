use Rattle.std.proofs.Common.{◌≡◌, ◌++◌, take, drop}
use Rattle.association_services.specs.Get.{fitting}
use Rattle.association_services.proofs.counts.fitted.Given as goal

-- those so far have room, and then those that have room in what is left
abbrev pub invariant-loop-i : goal.invariant-loop-i
invariant-loop-i l = take l.i l.uids ++ fitting l.left (drop l.i l.uids) ≡ fitting l.room l.uids
