use Rattle.archive_rows.proofs.hubs.hub.with_hub.Given as goal

-- the hub that was just opened
abbrev pub ghosts-run : goal.ghosts-run
ghosts-run g a = record {
  book = a.opened.book;
  number = a.opened.number;
  opening = a.opened.opening;
  passes = a.opened.passes;
}
