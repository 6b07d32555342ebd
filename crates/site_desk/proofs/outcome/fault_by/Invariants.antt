use Rattle.std.proofs.Common.{◌≡◌, drop}
use Rattle.site_desk.specs.Outcomes.{all_faults, fault_by}
use Rattle.site_desk.proofs.outcome.fault_by.Given as goal

-- The line is that of no reason so far: the first is among those that are left.
abbrev pub invariant-loop-fault : goal.invariant-loop-fault
invariant-loop-fault l = fault_by l.line (drop l.fault-index l.all) ≡ fault_by l.line all_faults
