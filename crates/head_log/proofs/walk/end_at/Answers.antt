use Rattle.std.proofs.Common.{◌++◌, ◌∷◌, [], ℕ, List, ◌∙◌, subst}
use Rattle.head_log.specs.Gates.{LeadsTo}
use Rattle.head_log.proofs.Gates.{leads_more}
use Rattle.head_log.specs.Groups.{first_gate}
use Rattle.head_log.proofs.Opening.{reads_twice}
use Rattle.head_log.proofs.walk.end_at.Goals as goal

-- One gate more leads on.
pub groups-preserved : goal.groups-preserved
groups-preserved g c =
    let file = g.D.Disk.seen c.args.disk.now in
    let was = c.groups.invariant in
    let next = c.in-Some.next in
    let place = rw c.in-Some.is at c.in_ok-next.ensures.next in
    record {
      reads = reads_twice g.D.Disk c.args.disk.now c.groups.disk c.next_at.new.disk was.reads c.next_at.ensures.same;
      calm = c.in_ok-next.ensures.disk ∙ was.calm;
      low = place.1;
      leads = λ clean.
          let more = was.leads (c.next_at.ensures.same.clean clean) in
          let it = (rw c.in-Some.is at c.in_ok-next.ensures.group) clean in
          let here = subst (λ (f : List ℕ). LeadsTo f c.groups.gate.at next) was.reads.seen it in
          (more.0 ++ next ∷ [], leads_more file first_gate more.0 c.groups.gate next more.1 here);
    }
