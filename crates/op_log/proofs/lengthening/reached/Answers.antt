use Rattle.std.proofs.Common.{IsTrue, subst, sym}
use Rattle.head_log.specs.Log.{disk_of as heads_of}
use Rattle.op_log.specs.Kept.{KeepsHeads}
use Rattle.op_log.proofs.Opening.{heads_kept, kept_through}
use Rattle.op_log.proofs.lengthening.reached.Goals as goal

-- The heads were only read.
pub returns-clause-kept : goal.returns-clause-kept
returns-clause-kept g c clean =
    let first = c.args.heads in
    let walked = heads_of c.walk.new.heads in
    let same = c.walk.ensures.same in
    let is = c.into_disk.ensures in
    let was = same.disk.clean (subst (λ (f : g.row.H.Denot). IsTrue (g.H.Disk.is_clean f)) is clean) in
    subst (λ (f : g.row.H.Denot). KeepsHeads g.H.Disk first f) (sym is)
    (heads_kept g.H.Disk first walked (kept_through g.H.Disk first (heads_of c.in-Ok.heads) walked (c.in-Ok.ensures.kept was) same.disk))
