use Rattle.site_state.proofs.Same.{apart_commutative, union_is_of_both}
use Rattle.site_state.proofs.Unions.{associative, idempotent}
use Rattle.site_state.proofs.laws.union_is_a_join.Goals as goal

-- Two sites hold the same together in either order, where unequal operations have unequal digests.
pub returns-clause-commutative : goal.returns-clause-commutative
returns-clause-commutative c = apart_commutative

-- Three sites hold the same together, whichever two are joined first.
pub returns-clause-associative : goal.returns-clause-associative
returns-clause-associative c = associative

-- A site joined with itself is the site.
pub returns-clause-idempotent : goal.returns-clause-idempotent
returns-clause-idempotent c = idempotent

-- Joined, two sites hold what one does that took the operations of both, where unequal ones have unequal digests.
pub returns-clause-of_both : goal.returns-clause-of_both
returns-clause-of_both c = union_is_of_both
