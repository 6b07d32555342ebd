use Rattle.std.proofs.Common.{arith}
use Rattle.archive_query.proofs.TextLeads.{needle_is}
use Rattle.archive_query.proofs.walks.needle_of.Goals as goal

-- The front of a run of the key is one too.
pub returns : goal.returns
returns c = needle_is c.args.tag 16 c.args.key.now c.longest_run.result.now c.short_front.result.now c.led.result
    c.longest_run.ensures c.short_front.ensures (omega arith) c.led.ensures
