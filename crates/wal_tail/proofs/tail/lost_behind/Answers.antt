use Rattle.wal_tail.proofs.Tails.{none_lost}
use Rattle.wal_tail.proofs.tail.lost_behind.Goals as goal

-- From the first frame that is not valid on none has the log's salts.
pub returns-then-frames-eq0-clause-none : goal.returns-then-frames-eq0-clause-none
returns-then-frames-eq0-clause-none c is =
    let place = c.in-Some.place in
    none_lost c.args.log.now place.frame place.byte c.counts_from-frames.result.0 c.counts_from-frames.result.1 place.is_own
    c.in-Some.ensures.some c.counts_from-frames.ensures c.if-frames-eq0.true
