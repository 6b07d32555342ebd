use Rattle.std.proofs.Common.{inl, inr, [], ◌++◌, ◌∷◌}
use Rattle.head_log.proofs.Gates.{groups_not_cut}
use Rattle.head_log.proofs.laws.what_a_crash_leaves_is_not_cut.Goals as goal

-- It stands for the groups.
pub returns-clause-ready : goal.returns-clause-ready
returns-clause-ready g c disk end groups ready left may at cut =
    groups_not_cut left groups at (inl (end, ready left may)) cut

-- It stands for the groups, with the new one or without.
pub returns-clause-added : goal.returns-clause-added
returns-clause-added g c disk groups group leaves left may at cut =
    elim (leaves left may) [
      | inl without ↦ groups_not_cut left groups at without cut
      | inr with ↦ groups_not_cut left (groups ++ group ∷ []) at with cut
    ]
