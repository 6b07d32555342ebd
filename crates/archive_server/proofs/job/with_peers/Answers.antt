use Rattle.std.proofs.Common.{◌+◌, refl, sym, subst}
use Rattle.archive_server.specs.Serving.{AddsBeside}
use Rattle.archive_server.proofs.CountLaws.{one_beside}
use Rattle.archive_server.proofs.job.with_peers.Goals as goal

-- A thread that calls a peer accepts no associations.
pub loop-peer-preserved : goal.loop-peer-preserved
loop-peer-preserved g c =
    subst (λ jobs. AddsBeside (c.loop-peer.peer-index + 1) c.args.before.items jobs) (sym c.in_ok-push.ensures.items)
    (one_beside _ _ _ _ (λ each. refl) c.loop-peer.invariant)
