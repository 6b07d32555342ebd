use Rattle.std.proofs.Common.{List, subst}
use Rattle.op_log.specs.Heads.{Head}
use Rattle.op_log.specs.Kept.{HaveOwnDigests}
use Rattle.op_log.proofs.Lookups.{own_digests}
use Rattle.op_log.proofs.places.Places.see_own_digests.Goals as goal

-- The keys of a table are distinct.
pub returns : goal.returns
returns c =
    subst (λ (hs : List Head). HaveOwnDigests hs) c.self.view_is
    (own_digests c.self.inside.table.entries c.len.ensures.unique)
