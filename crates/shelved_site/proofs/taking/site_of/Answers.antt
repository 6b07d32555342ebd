use Rattle.std.proofs.Common.{◌≡◌, Err, reverse, ap, subst, sym, ◌∙◌}
use Rattle.std.proofs.lemmas.Result.{err_from_is_err_and}
use Rattle.site_state.specs.declared.fault.SiteFault.TheVariants.{Collision}
use Rattle.site_state.specs.Laws.{Apart, after_taking}
use Rattle.site_state.proofs.Same.{equal_maps}
use Rattle.shelved_site.proofs.Takings.{apart_turned, same_turned}
use Rattle.shelved_site.proofs.taking.site_of.Goals as goal

-- It took the same, which are apart, in the other order.
pub returns-clause-site : goal.returns-clause-site
returns-clause-site c =
    let items = c.args.recorded.items in
    let turned = c.reverse.ensures.items in
    c.in_ok-site.ensures.site ∙ ap after_taking turned
    ∙ equal_maps (reverse items) items (same_turned items, subst Apart turned c.in_ok-site.ensures.apart)

-- Those that clash in the other order do in this one.
pub returns-in_err-site-clause-collision : goal.returns-in_err-site-clause-collision
returns-in_err-site-clause-collision c bad one =
    let e = err_from_is_err_and c.from_residual.result c.from_residual.ensures.1 in
    let is : c.in_err-site.field-0.0 ≡ Collision = cc in
    c.in_err-site.ensures.collision (ap Err is)
    (subst Apart (sym c.reverse.ensures.items) (apart_turned c.args.recorded.items one))
