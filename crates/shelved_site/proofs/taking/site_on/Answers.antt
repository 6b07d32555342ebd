use Rattle.std.proofs.Common.{ap, ◌∙◌}
use Rattle.site_state.specs.Laws.{after_taking}
use Rattle.shelved_site.proofs.taking.site_on.Goals as goal

-- It took what stands for the operations that were read.
pub returns-clause-site : goal.returns-clause-site
returns-clause-site g c clean =
    let it = c.in_ok-recorded.ensures.read clean in
    record { ops = it.ops; listed = it.listed; took = c.in_ok-site.ensures.site ∙ ap after_taking it.stand }
