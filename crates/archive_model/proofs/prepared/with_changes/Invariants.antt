use Rattle.std.proofs.Common.{◌≡◌, drop}
use Rattle.archive_model.specs.Prepared.{with_changes}
use Rattle.archive_model.proofs.prepared.with_changes.Given as goal

-- with the changes that are left, all are put in
abbrev pub invariant-loop-change : goal.invariant-loop-change
invariant-loop-change l = record {
  syntax : l.changed.syntax ≡ l.initial.changed.syntax;
  elements : with_changes l.initial.changed.syntax (drop l.change-index l.changes)
      l.changed.elements ≡ with_changes l.initial.changed.syntax l.changes l.initial.changed.elements;
}
