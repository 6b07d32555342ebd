use Rattle.archive_server.specs.Serving.{AreKept}
use Rattle.archive_server.proofs.keeping.keep_all.Given as goal

-- what was written so far is kept
abbrev pub invariant-loop : goal.invariant-loop
invariant-loop g l = AreKept g.K.Keep.is_up g.K.Keep.holds g.K.Keep.lasts l.ledger l.shelf
