use Rattle.std.proofs.lemmas.Result.{err_from_is_err_and}
use Rattle.exchange.proofs.Holdings.{of_site}
use Rattle.exchange.proofs.Recorded.{is_loaded}
use Rattle.exchange.proofs.whole_sites.WholeSiteHolder.load.Goals as goal

-- A refusal is one of memory.
pub returns-in_err-op_of_whole : goal.returns-in_err-op_of_whole
returns-in_err-op_of_whole c = let p = err_from_is_err_and c.from_residual.result c.from_residual.ensures.1 in
    of_site _ c.see_lawful.ensures.own (rw p.1 p.2)

-- What the site answers is what is asked of a holder.
pub returns : goal.returns
returns c = of_site _ c.see_lawful.ensures.own
    (is_loaded c.args.self.now c.see_lawful.ensures.own c.args.digest.now _
    c.in_ok-op_of_whole.ensures)
