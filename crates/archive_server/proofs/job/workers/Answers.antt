use Rattle.std.proofs.Common.{◌≡◌, ◌∷◌, ◌++◌, [], ◌+◌, ◌*◌, length, sym, subst}
use Rattle.archive_server.specs.declared.job.Job.TheVariants.{Associations}
use Rattle.archive_server.specs.Serving.{room_of_all}
use Rattle.archive_server.proofs.CountLaws.{moved_on, one_worker}
use Rattle.archive_server.proofs.job.workers.Goals as goal

-- One gate more has a job, which accepts as many as a worker may.
pub loop-gate-preserved : goal.loop-gate-preserved
loop-gate-preserved g c =
    let pushed : c.push.new.self.items ≡ c.loop-gate.jobs.items ++ Associations c.in-Some.gate ∷ [] =
    c.in_ok-push.ensures.items in (
      subst (λ jobs. length jobs + length c.next.new.self.rest.items ≡ length c.args.gates.items) (sym pushed)
          (moved_on c.loop-gate.jobs.items _ c.next.new.self.rest.items (Associations c.in-Some.gate) c.in-Some.gate _
          c.in-Some.ensures.steps.0 c.loop-gate.invariant.0),
      λ each. subst (λ jobs. room_of_all each jobs ≡ length jobs * each) (sym pushed)
          (one_worker each c.loop-gate.jobs.items c.in-Some.gate (c.loop-gate.invariant.1 each)),
    )
