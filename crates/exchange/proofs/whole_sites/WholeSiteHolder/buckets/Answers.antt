use Rattle.std.proofs.Common.{ap, ◌∙◌}
use Rattle.std.proofs.lemmas.Result.{err_from_is_err_and}
use Rattle.site_state.specs.Site.{Map}
use Rattle.exchange.specs.Held.{offered}
use Rattle.exchange.specs.Buckets.{bucket_list}
use Rattle.exchange.proofs.Holdings.{of_site}
use Rattle.exchange.proofs.whole_sites.WholeSiteHolder.buckets.Goals as goal

-- A refusal is one of memory.
pub returns-in_err-buckets_of_site : goal.returns-in_err-buckets_of_site
returns-in_err-buckets_of_site c = let p = err_from_is_err_and c.from_residual.result c.from_residual.ensures.1 in
    of_site _ c.see_lawful.ensures.own (rw p.1 p.2)

-- What is told of the records is what is asked of a holder.
pub returns : goal.returns
returns c = of_site _ c.see_lawful.ensures.own (c.in_ok-buckets_of_site.ensures
    ∙ ap (λ (m : Map). bucket_list (offered c.args.version m)) c.site.ensures)
