use Rattle.std.proofs.Common.{List, subst, sym, ◌∙◌}
use Rattle.std.proofs.lemmas.Result.{IfErr-weaker, IfOk-weaker}
use Rattle.shelved_site.specs.declared.unreadable.Unreadable.{Unreadable}
use Rattle.shelved_site.specs.Readable.{shown_in}
use Rattle.shelved_site.specs.Refusing.{LogIsUnshown}
use Rattle.shelved_site.specs.Sites.{IsSiteOf}
use Rattle.shelved_site.proofs.Sites.{behind_site, site_since}
use Rattle.shelved_site.proofs.log_records.hub_on_log.Goals as goal

-- The hub opens with the site of the log.
pub returns-clause-opening : goal.returns-clause-opening
returns-clause-opening g c up none =
    let log = c.site_on_log.new.log.log in
    let unread = c.in_ok-sited.sited.unreadable.items in
    IfOk-weaker c.hub_over.result _ _
    (λ begun it. subst (λ (told : List Unreadable). IsSiteOf (shown_in g.B.Disk log told) begun.opened.opening) (sym it.1)
    (site_since (shown_in g.B.Disk log unread) (shown_in g.B.Disk log unread) c.in_ok-sited.sited.site begun.opened.opening
    (λ ops shown. shown) it.0 (c.in_ok-sited.ensures.site up none)))
    c.hub_over.ensures.opening

-- And it does so where something is told.
pub returns-clause-told : goal.returns-clause-told
returns-clause-told g c up =
    IfOk-weaker c.hub_over.result _ _
    (λ begun it none ops listed true. it.0 ∙ c.in_ok-sited.ensures.told up (sym it.1 ∙ none) ops listed true)
    c.hub_over.ensures.opening

-- What is refused behind the site is not the log's.
pub returns-clause-why : goal.returns-clause-why
returns-clause-why g c up =
    IfErr-weaker c.hub_over.result _ _ (λ fault behind. behind_site (LogIsUnshown g.B.Disk c.args.log.now.log) fault behind)
    c.hub_over.ensures.fault
