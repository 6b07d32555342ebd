use Rattle.std.proofs.lemmas.Result.{err_from_is_err_and}
use Rattle.hub_exchange.proofs.Gains.{of_records}
use Rattle.hub_exchange.proofs.shelf_holder.ShelvedHolderHolder.digests.Goals as goal

-- A refusal is one of memory.
pub returns-in_err-digests_of_site : goal.returns-in_err-digests_of_site
returns-in_err-digests_of_site g c =
    let p = err_from_is_err_and c.from_residual.result c.from_residual.ensures.1 in
    let lawful = c.see_lawful.ensures in
    rw (← c.self.view_is) (of_records c.self.inside.site lawful.own lawful.lawful (rw p.1 p.2))

-- What is told of the site the holder tells.
pub returns : goal.returns
returns g c = let lawful = c.see_lawful.ensures in
    rw (← c.self.view_is) (of_records c.self.inside.site lawful.own lawful.lawful c.in_ok-digests_of_site.ensures)
