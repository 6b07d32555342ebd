use Rattle.std.proofs.Common.{ap, ◌∙◌}
use Rattle.std.proofs.lemmas.Result.{err_from_is_err_and}
use Rattle.site_state.specs.Site.{Map}
use Rattle.exchange.specs.Held.{offered_in}
use Rattle.exchange.proofs.Holdings.{of_site}
use Rattle.exchange.proofs.whole_sites.WholeSiteHolder.digests_in.Goals as goal

-- A refusal is one of memory.
pub returns-in_err-digests_of_site_in : goal.returns-in_err-digests_of_site_in
returns-in_err-digests_of_site_in c = let p = err_from_is_err_and c.from_residual.result c.from_residual.ensures.1 in
    of_site _ c.see_lawful.ensures.own (rw p.1 p.2)

-- What is told of the records is what is asked of a holder.
pub returns : goal.returns
returns c = of_site _ c.see_lawful.ensures.own (c.in_ok-digests_of_site_in.ensures
    ∙ ap (λ (m : Map). offered_in c.args.version c.args.places.now m) c.site.ensures)
