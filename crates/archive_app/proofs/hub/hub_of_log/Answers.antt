use Rattle.std.proofs.Common.{◌≡◌, inr, List, [], Result, IfOk, subst}
use Rattle.std.proofs.lemmas.Result.{IfOk-weaker}
use Rattle.shelved_site.specs.Readable.{shown_in}
use Rattle.shelved_site.specs.Told.{IsToldSiteOf}
use Rattle.archive_app.proofs.hub.hub_of_log.Goals as goal

-- The hub opened with the site of the log, where all can be read and what is told of it is true.
pub returns : goal.returns
returns g c = record {
  site = λ clean. IfOk-weaker c.begun.result _ _
      (λ begun is. inr (subst (λ r. IfOk r (λ told. told.unreadable.items ≡ [] → IsToldSiteOf
      (shown_in g.B.Disk c.hub_on_log-opened.new.log.log []) c.args.told.now told.opened.opening)) is
      (c.hub_on_log-opened.ensures.told clean))) c.begun.ensures;
}
