use Rattle.std.proofs.Common.{ap}
use Rattle.site_state.specs.Site.{ops_of}
use Rattle.site_state.proofs.Maps.{same_sites as one_map}
use Rattle.archive_model.specs.Rows.{rows_of}
use Rattle.archive_query.proofs.RetrieveLaws.{same_sites}
use Rattle.site_hub.specs.History.{set_of}
use Rattle.site_hub.proofs.laws.running_sites_that_hold_the_same_answer_alike.Goals as goal

-- Maps that hold the same under each digest are one map.
pub returns-clause-sets : goal.returns-clause-sets
returns-clause-sets c one other seen told same = one_map (set_of one seen) (set_of other told) same

-- What is answered is a function of the map.
pub returns-clause-rows : goal.returns-clause-rows
returns-clause-rows c view called query one other seen told same =
    ap (λ site. rows_of view called query (ops_of site)) (one_map (set_of one seen) (set_of other told) same)

-- What is sent of a set is one thing.
pub returns-clause-sendings : goal.returns-clause-sendings
returns-clause-sendings c view selection accepts one other seen told these those same =
    same_sites view selection accepts (set_of one seen) (set_of other told) these those same
