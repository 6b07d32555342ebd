use Rattle.std.proofs.Common.{take}
use Rattle.association_run.proofs.Fronts.{take_front}
use Rattle.association_run.proofs.outbox.write.Goals as goal

-- A front of the bytes was written.
pub returns-in-Err-clause-err : goal.returns-in-Err-clause-err
returns-in-Err-clause-err g c =
    let front = c.in-Err.ensures.err in
    (take front.0 c.args.bytes.now, front.1, take_front front.0 c.args.bytes.now)
