use Rattle.std.proofs.Common.{◌≡◌, ◌∷◌, ◌++◌, [], ◌+◌, refl, sym, subst}
use Rattle.archive_server.specs.declared.job.Job.TheVariants.{Exchanges}
use Rattle.archive_server.specs.Serving.{AddsBeside}
use Rattle.archive_server.proofs.CountLaws.{one_beside}
use Rattle.archive_server.proofs.job.with_exchanges.Goals as goal

-- A thread that serves exchanges accepts no associations.
pub loop-preserved : goal.loop-preserved
loop-preserved g c =
    let pushed : c.push.new.self.items ≡ c.loop.jobs.items ++ Exchanges c.in-Some.exchanging ∷ [] =
    c.in_ok-push.ensures.items in
    subst (λ jobs. AddsBeside (c.loop.counter + 1) c.args.before.items jobs) (sym pushed)
    (one_beside _ _ _ _ (λ each. refl) c.loop.invariant)
