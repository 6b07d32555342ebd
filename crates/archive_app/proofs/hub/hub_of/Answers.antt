use Rattle.std.proofs.Common.{inl, Result, IfOk, subst}
use Rattle.std.proofs.lemmas.Result.{IfOk-weaker}
use Rattle.shelved_site.specs.Sites.{IsSiteOf}
use Rattle.archive_app.proofs.hub.hub_of.Goals as goal

-- The hub opened with the site of what can be read of the store.
pub returns : goal.returns
returns g c = record {
  site = λ clean. IfOk-weaker c.begun.result _ _
      (λ begun is. inl (subst (λ r. IfOk r (λ told. IsSiteOf
      (g.S.Store.shows c.hub_on-opened.new.store told.unreadable.items) told.opened.opening)) is
      (c.hub_on-opened.ensures.opening clean))) c.begun.ensures;
}
