use Rattle.std.proofs.Common.{◌∷◌, ◌++◌, [], ◌+◌, min, subst}
use Rattle.std.specs.Option.{option_or}
use Rattle.archive_server.specs.Serving.{HasServed, WasWritten}
use Rattle.archive_server.proofs.CountLaws.{served_as, served_last}
use Rattle.archive_server.proofs.serve.+serve_rest.Goals as goal

-- The passes before the last went on, and so did the last, which stands behind them again; and its accepts are counted.
pub returns-clause-served : goal.returns-clause-served
returns-clause-served g t c =
    let rest = c.serve_rest-before in let told = c.with_done in let done = c.finish-done.result in
    let each = c.args.hall.now.each in let jobs = c.pop.new.self.items in let job = c.in-Some.job in
    let before = c.pop-2.new.self.items in let pass = c.in-Some-pop.pass in let after = rest.new.passes.items in
    served_as (WasWritten told.new.ledger) each _ c.args.jobs.now.items (jobs ++ job ∷ []) c.args.passes.now.items
    (before ++ pass ∷ []) told.new.passes.items (after ++ done.clerk.pass ∷ []) told.result.accepted
    (min (rest.result.accepted + done.accepted) 18446744073709551615) told.result.fault
    (option_or rest.result.fault done.fault) c.in-Some.ensures.items c.in-Some-pop.ensures.items told.ensures.passes
    told.ensures.accepted told.ensures.fault
    (served_last rest.new.ledger told.new.ledger each _ jobs job before after pass rest.result.accepted
    rest.result.fault c.of-begun.result done c.of-begun.ensures.before c.of-begun.ensures.room c.of-begun.ensures.ends
    told.ensures.same told.ensures.begins rest.ensures.served
    (subst (λ task. HasServed task done) c.of-task.ensures c.finish-done.ensures))
