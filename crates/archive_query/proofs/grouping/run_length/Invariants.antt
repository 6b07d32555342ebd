use Rattle.std.proofs.Common.{◌≡◌, ◌+◌, drop}
use Rattle.archive_query.specs.Grouping.{leading}
use Rattle.archive_model.specs.Texts.{same}
use Rattle.archive_model.specs.Rows.{uid_at}
use Rattle.archive_query.proofs.grouping.run_length.Given as goal

-- All contents so far were counted; with those of the UID at the front of the rest, they are the run.
abbrev pub invariant-loop-content : goal.invariant-loop-content
invariant-loop-content l = record {
  few : l.count ≡ l.content-index;
  so_far : l.count + leading (λ c. same (uid_at l.level c.now) l.uid) (drop l.content-index l.contents) ≡ leading
      (λ c. same (uid_at l.level c.now) l.uid) l.contents;
}
