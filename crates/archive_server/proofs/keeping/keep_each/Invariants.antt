use Rattle.archive_server.specs.Serving.{AreKept}
use Rattle.archive_server.proofs.keeping.keep_each.Given as goal

-- what was written so far is kept
abbrev pub invariant-loop-op : goal.invariant-loop-op
invariant-loop-op g l =
    (goal.iterator-loop-op g).can_next l.op-iterator × (goal.iterator-loop-op g).is_finite l.op-iterator
    × AreKept g.K.Keep.is_up g.K.Keep.holds g.K.Keep.lasts l.ledger l.shelf
