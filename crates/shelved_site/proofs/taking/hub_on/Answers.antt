use Rattle.std.proofs.Common.{List, subst, sym}
use Rattle.std.proofs.lemmas.Result.{IfErr-weaker, IfOk-weaker, err_from_is_err_and}
use Rattle.shelved_site.specs.declared.unreadable.Unreadable.{Unreadable}
use Rattle.shelved_site.specs.Sites.{IsBeforeHub, IsSiteOf}
use Rattle.shelved_site.proofs.Sites.{behind_site, not_hidden, site_since}
use Rattle.shelved_site.proofs.taking.hub_on.Goals as goal

-- The hub opens with the site of the store, which stays as it is.
pub returns-clause-opening : goal.returns-clause-opening
returns-clause-opening g c clean =
    let old = c.args.store.now in
    let new = c.site_on.new.store in
    let told = c.in_ok-sited.sited.unreadable.items in
    let shows = g.S.Store.shows new in
    IfOk-weaker c.hub_over.result _ _
    (λ begun it. subst (λ (unread : List Unreadable). IsSiteOf (shows unread) begun.opened.opening) (sym it.1)
    (site_since (g.S.Store.reads old new told) (shows told) c.in_ok-sited.sited.site begun.opened.opening
    (λ ops read. g.met.S.Store.same_shows old new (c.in_ok-sited.ensures.same clean) told ops
    (g.met.S.Store.read_shows old new told ops read)) it.0 (c.in_ok-sited.ensures.site clean)))
    c.hub_over.ensures.opening

-- What is refused behind the site is not the store's.
pub returns-clause-why : goal.returns-clause-why
returns-clause-why g c clean =
    IfErr-weaker c.hub_over.result _ _ (λ fault behind. behind_site (g.S.Store.refuses_all c.args.store.now c.site_on.new.store) fault behind)
    c.hub_over.ensures.fault

-- Before there is a site, no hub is refused.
pub returns-in_err-sited-clause-asked : goal.returns-in_err-sited-clause-asked
returns-in_err-sited-clause-asked g c is =
    let out = err_from_is_err_and c.from_residual.result c.from_residual.ensures.1 in
    absurd (not_hidden out.0 (subst IsBeforeHub (sym out.2) c.in_err-sited.ensures.fault) cc)

-- Behind it one is, only where it was not asked for without.
pub returns-clause-asked : goal.returns-clause-asked
returns-clause-asked g c is = (c.hub_over.ensures.asked is).0
