use Rattle.std.specs.Prelude.{Some}
use Rattle.archive_server.proofs.conversing.serve_exchange.Given as goal

-- what the pass is when its exchange begins,
abbrev pub ghosts-converse-E-AtEntry : goal.ghosts-converse-E-AtEntry
ghosts-converse-E-AtEntry g a = record { seat = a.clerk.pass }

-- and the way that it is lent
abbrev pub ghosts-converse-E-AtLending : goal.ghosts-converse-E-AtLending
ghosts-converse-E-AtLending g a = record { lent = Some a.shelf.now }
