use Rattle.std.proofs.Common.{subst}
use Rattle.study_index.specs.Definition.{AreLawful}
use Rattle.site_state.specs.Site.{IsSite, ops_of, of_entries}
use Rattle.site_state.proofs.Lawful.{ops_lawful}
use Rattle.site_state.proofs.site.Site.see_lawful.Goals as goal

-- Each was put under its digest.
pub returns-clause-own : goal.returns-clause-own
returns-clause-own c = subst IsSite c.self.view_is c.self.invariant.0

-- Each was lawful as it was taken.
pub returns-clause-lawful : goal.returns-clause-lawful
returns-clause-lawful c =
    let es = c.self.inside.operations.entries in
    subst (λ m. AreLawful (ops_of m)) c.self.view_is (ops_lawful (of_entries es) c.self.invariant.3)
