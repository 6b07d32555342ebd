use Rattle.archive_server.proofs.serve.serve_on.Given as goal

-- the ledger that was just begun
abbrev pub ghosts-serve_named : goal.ghosts-serve_named
ghosts-serve_named g a = record { book = a.blank.book; first = a.blank.first }
