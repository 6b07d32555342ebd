use Rattle.std.proofs.Common.{take}
use Rattle.exchange.proofs.Writings.{take_front}
use Rattle.exchange.proofs.saying.put.Goals as goal

-- A front of the bytes was written.
pub returns-in-Err-clause-err : goal.returns-in-Err-clause-err
returns-in-Err-clause-err g c =
    let front = c.in-Err.ensures.err in
    (take front.0 c.args.bytes.now, front.1, take_front front.0 c.args.bytes.now)
