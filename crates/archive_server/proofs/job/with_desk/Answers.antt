use Rattle.std.proofs.Common.{refl, sym, subst}
use Rattle.std.proofs.Math.Nat.{add-zero}
use Rattle.command_words.specs.Words.{threads_at}
use Rattle.archive_server.specs.Serving.{AddsBeside}
use Rattle.archive_server.proofs.CountLaws.{one_beside}
use Rattle.archive_server.proofs.job.with_desk.Goals as goal

-- The thread of the desk accepts no associations.
pub returns : goal.returns
returns g c =
    subst (λ desk. AddsBeside (threads_at desk) c.args.before.items c.push.new.self.items) (sym c.in-Some.is)
    (subst (λ jobs. AddsBeside 1 c.args.before.items jobs) (sym c.in_ok-push.ensures.items)
    (one_beside 0 _ _ _ (λ each. refl) (record { more = sym (add-zero _); room = λ each. refl })))
