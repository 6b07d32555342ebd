use Rattle.archive_server.specs.Serving.{AreKept}
use Rattle.archive_server.proofs.keeping.answer_all.Given as goal

-- what was written so far is kept
abbrev pub invariant-loop-op : goal.invariant-loop-op
invariant-loop-op g l = AreKept g.K.Keep.is_up g.K.Keep.holds g.K.Keep.lasts l.ledger l.shelf
