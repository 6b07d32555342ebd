use Rattle.std.proofs.Common.{List, ℕ, subst}
use Rattle.octets.specs.Members.{Has}
use Rattle.op_log.proofs.readable.recorded_at.Goals as goal

-- The table has a content for each digest of those that are told.
pub returns-in-Err-DamagedBody-clause-untold : goal.returns-in-Err-DamagedBody-clause-untold
returns-in-Err-DamagedBody-clause-untold g c none told table k has under =
    let (x, there) = table.each k has in
    c.find.ensures.none c.in_default.is x
    (subst (λ (d : List ℕ). Has c.args.contents.now.table.entries (d, x)) under there)

-- And so where the disk failed.
pub returns-in-Err-Disk-clause-untold : goal.returns-in-Err-Disk-clause-untold
returns-in-Err-Disk-clause-untold g c none told table k has under =
    let (x, there) = table.each k has in
    c.find.ensures.none c.in_default.is x
    (subst (λ (d : List ℕ). Has c.args.contents.now.table.entries (d, x)) under there)
