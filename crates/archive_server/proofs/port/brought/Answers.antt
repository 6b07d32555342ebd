use Rattle.archive_server.proofs.RefusingLaws.{unlike_found}
use Rattle.archive_server.proofs.port.brought.Goals as goal

-- What was found and not loaded is no content of the record, or memory was refused.
pub returns-in-Some-clause-unlike : goal.returns-in-Some-clause-unlike
returns-in-Some-clause-unlike c =
    rw c.in-Some.is (unlike_found c.args.asked.now c.in-Some.op c.loaded.result
    (rw c.into_op.ensures at c.loaded.ensures.shelf) c.loaded.ensures.fault)
