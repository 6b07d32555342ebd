use Rattle.std.proofs.Common.{◌++◌, ap, sym, ◌∙◌, map}
use Rattle.std.specs.List.{filter_map}
use Rattle.std.proofs.lemmas.List.{append-nil}
use Rattle.archive_model.specs.Shown.{shown_at}
use Rattle.site_state.specs.Site.{ops_of}
use Rattle.archive_query.proofs.candidates.shown_of.Goals as goal

-- Nothing is left to be looked up.
pub returns-clause-found : goal.returns-clause-found
returns-clause-found c =
    let shown = shown_at c.args.view (ops_of c.args.site.now) in
    sym (append-nil _) ∙ ap (λ us. map (λ x. x.now) c.loop-uid.found.items ++ filter_map shown us)
    (sym c.in-None.ensures.steps.0) ∙ c.loop-uid.invariant
    ∙ ap (filter_map shown) (c.into_iter-uid-iterator.ensures.into_iter_gives ∙ c.iter-uid-items.ensures.rest)
