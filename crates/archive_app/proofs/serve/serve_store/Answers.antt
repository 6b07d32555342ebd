use Rattle.std.proofs.Common.{◌≡◌, List, IfOk, subst, sym}
use Rattle.shelved_site.specs.declared.unreadable.Unreadable.{Unreadable}
use Rattle.shelved_site.specs.Told.{IsOpenedOn}
use Rattle.archive_app.proofs.serve.serve_store.Goals as goal

-- The hub that was opened is that of the store, also by what is told of what can't be read.
pub serve_site-served-requires-clause-site : goal.serve_site-served-requires-clause-site
serve_site-served-requires-clause-site g c κs within clean =
    let begun = c.in-Ok.begun in
    subst (λ (told : List Unreadable). IsOpenedOn (g.S.Store.shows c.args.store.now) told c.args.told.now begun.opened.opening)
    (sym c.as_slice.ensures.value)
    (subst (λ r. IfOk r (λ b. IsOpenedOn (g.S.Store.shows c.args.store.now) b.unreadable.items c.args.told.now b.opened.opening))
    c.in-Ok.is (c.requires.site clean))
