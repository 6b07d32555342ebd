use Rattle.records.proofs.StandInLaws.{digest_kept}
use Rattle.records.proofs.recorded_op.RecordedOp.of.Goals as goal

-- What stands for an operation has its digest.
pub returns-in_err-of-in-Content-clause-digest : goal.returns-in_err-of-in-Content-clause-digest
returns-in_err-of-in-Content-clause-digest c =
    digest_kept c.args.op.now

pub returns-clause-digest : goal.returns-clause-digest
returns-clause-digest c = digest_kept c.args.op.now
