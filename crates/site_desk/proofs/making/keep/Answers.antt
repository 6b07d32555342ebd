use Rattle.std.proofs.Common.{◌∙◌, ap}
use Rattle.operation.specs.Spelling.{digest_of}
use Rattle.hub_exchange.proofs.OnwardLaws.{onward_known}
use Rattle.site_desk.proofs.MakingLaws.{on_ok, written_since}
use Rattle.site_desk.proofs.making.keep.Goals as goal

-- What was put stands in the beginning of the ledger that came with the answer, and so in what is known then.
pub returns-in-Ok-put-clause-stored : goal.returns-in-Ok-put-clause-stored
returns-in-Ok-put-clause-stored g c = on_ok c.publish-taken.result
    (written_since c.in-Ok-put.shelved.extract c.learn.new.self _ _ c.learn.ensures.that
    (c.in-Ok-put.ensures.own ∙ ap digest_of c.of-op.ensures) c.in-Ok-put.shelved.written)

-- It does so whether the hub took it or not.
pub returns-in-Ok-put-clause-unshown : goal.returns-in-Ok-put-clause-unshown
returns-in-Ok-put-clause-unshown g c = λ _.
    written_since c.in-Ok-put.shelved.extract c.learn.new.self _ _ c.learn.ensures.that
    (c.in-Ok-put.ensures.own ∙ ap digest_of c.of-op.ensures) c.in-Ok-put.shelved.written

-- So does what became the pass's own.
pub returns-in-Ok-put-clause-onward : goal.returns-in-Ok-put-clause-onward
returns-in-Ok-put-clause-onward g c = onward_known c.in-Ok-put.shelved.extract c.learn.new.self c.args.pass.now
    c.publish-taken.new.pass c.learn.ensures.that c.publish-taken.ensures.onward
