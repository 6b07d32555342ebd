use Rattle.std.proofs.Common.{sym, subst}
use Rattle.operation.specs.Spelling.{hash_of}
use Rattle.archive_server.specs.Serving.{IsKept}
use Rattle.archive_server.proofs.keeping.answer_all.Goals as goal

-- Each of the group was put.
pub shown-requires-clause-put : goal.shown-requires-clause-put
shown-requires-clause-put g c =
    subst (λ op. IsKept g.K.Keep.is_up g.K.Keep.holds g.K.Keep.lasts c.args.shelf.now (hash_of op))
    (sym c.op-item.is) (c.requires.put c.loop-op.op-index c.op-item.result c.loop-op-test.true)
