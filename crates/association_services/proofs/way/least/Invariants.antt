use Rattle.std.proofs.Common.{◌≡◌, ◌≤◌, length, drop}
use Rattle.association_services.specs.Get.{least_id}
use Rattle.association_services.proofs.way.least.Given as goal

-- the least of those from here on
abbrev pub invariant-loop-i : goal.invariant-loop-i
invariant-loop-i l = record {
  within : l.i ≤ length l.contexts;
  found : l.found ≡ least_id l.class l.explicit (drop l.i l.contexts);
}

abbrev pub decreases-loop-i : goal.decreases-loop-i
decreases-loop-i l = l.i
