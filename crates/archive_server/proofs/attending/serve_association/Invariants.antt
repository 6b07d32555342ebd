use Rattle.std.specs.Prelude.{Some}
use Rattle.archive_server.proofs.attending.serve_association.Given as goal

-- what the pass is when its association begins,
abbrev pub ghosts-attend-E-AtEntry : goal.ghosts-attend-E-AtEntry
ghosts-attend-E-AtEntry g a = record { seat = a.clerk.pass }

-- and the way that it is lent
abbrev pub ghosts-attend-E-AtLending : goal.ghosts-attend-E-AtLending
ghosts-attend-E-AtLending g a = record { lent = Some a.shelf.now }
