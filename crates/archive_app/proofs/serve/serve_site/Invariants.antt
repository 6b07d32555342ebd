use Rattle.archive_app.proofs.serve.serve_site.Given as goal

-- the hub that was just opened
abbrev pub ghosts-serve_hub : goal.ghosts-serve_hub
ghosts-serve_hub g a = record {
  book = a.opened.book;
  number = a.opened.number;
  opening = a.opened.opening;
  passes = a.opened.passes;
}
