use Rattle.std.proofs.Common.{arith}
use Rattle.op_log.proofs.Keeping.{on_ok}
use Rattle.op_log.proofs.head.put_head.Goals as goal

-- Each number fits in eight bytes.
pub returns-clause-lawful : goal.returns-clause-lawful
returns-clause-lawful c =
    on_ok c.extend_from_slice-2.result (record {
      digest = c.requires.digest;
      front = omega (arith, c.length_of-long.ensures.same, c.length_of-long.ensures.fits);
      at = c.ranges.at.fits;
      size = omega (arith, c.length_of-size.ensures.same, c.length_of-size.ensures.fits);
    })
