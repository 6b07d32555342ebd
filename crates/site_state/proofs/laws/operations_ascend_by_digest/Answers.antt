use Rattle.site_state.proofs.Ascending.{taken_is_site, operations_ascend, pick_has_least_digest}
use Rattle.site_state.proofs.laws.operations_ascend_by_digest.Goals as goal

-- Each operation that was taken lies under its own digest.
pub returns-clause-taken : goal.returns-clause-taken
returns-clause-taken c = taken_is_site

-- The keys of a finite map ascend, and they are the digests.
pub returns-clause-ascend : goal.returns-clause-ascend
returns-clause-ascend c = operations_ascend

-- The first found of what ascends is the least.
pub returns-clause-pick : goal.returns-clause-pick
returns-clause-pick c = pick_has_least_digest
