use Rattle.std.proofs.Common.{sym, subst}
use Rattle.study_index.specs.Definition.{IsIndexOf}
use Rattle.study_index.proofs.Definitions.{is_index}
use Rattle.site_state.specs.Site.{HasIndex, ops_of, of_entries}
use Rattle.site_state.proofs.Indexed.{ops_ascend}
use Rattle.site_state.proofs.site.Site.index.Goals as goal

-- What is kept is the index of the operations, to the entry.
pub returns-clause-value : goal.returns-clause-value
returns-clause-value c = subst (λ m. HasIndex m c.self.inside.index) c.self.view_is c.self.invariant.2

-- The index is that of the operations, which ascend by digest.
pub returns-clause-says : goal.returns-clause-says
returns-clause-says c =
    let es = c.self.inside.operations.entries in
    subst (λ m. IsIndexOf (ops_of m) c.self.inside.index) c.self.view_is
    (subst (IsIndexOf (ops_of (of_entries es))) (sym c.self.invariant.2)
    (is_index (ops_of (of_entries es)) (ops_ascend (of_entries es) c.self.invariant.0)))
