use Rattle.std.proofs.Common.{◌≡◌, ◌+◌, ◌++◌, ◌∷◌, [], ℕ, List, ◌∙◌, subst, arith}
use Rattle.older_heads.specs.Gates.{IsOpenAt, Leads}
use Rattle.older_heads.proofs.Gates.{leads_more}
use Rattle.head_log.proofs.Opening.{reads_twice}
use Rattle.older_heads.proofs.walk.end_at.Goals as goal

-- One gate more is open.
pub groups-preserved : goal.groups-preserved
groups-preserved g c =
    let file = g.D.Disk.seen c.args.disk.now in
    let was = c.groups.invariant in
    let next = rw c.in-Some.is at c.in_ok-next.ensures.next in
    record {
      reads = reads_twice g.D.Disk c.args.disk.now c.groups.disk c.next_at.new.disk was.reads c.next_at.ensures.same;
      calm = c.in_ok-next.ensures.disk ∙ was.calm;
      low = next.1;
      leads = λ clean.
          let more = was.leads (c.next_at.ensures.same.clean clean) in
          let it = (rw c.in-Some.is at c.in_ok-next.ensures.group) clean in
          let here = subst (λ (f : List ℕ). IsOpenAt f c.groups.at it.0) was.reads.seen it.1 in
          let place : c.groups.at + 41 + it.0 ≡ c.in-Some.next = omega (arith, it.2) in (
            more.0 ++ it.0 ∷ [],
            subst (λ (n : ℕ). Leads file 0 (more.0 ++ it.0 ∷ []) n) place
                (leads_more file 0 more.0 c.groups.at it.0 more.1 here),
          );
    }
