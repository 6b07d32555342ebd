use Rattle.std.proofs.Common.{◌++◌, ap, sym, ◌∙◌, map}
use Rattle.std.proofs.lemmas.List.{append-nil}
use Rattle.study_index.proofs.places.all.Goals as goal

-- All places came.
pub returns : goal.returns
returns c =
    sym (append-nil _) ∙ ap (λ ps. map (λ p. p.now) c.loop-place.found.items ++ ps) (sym c.in-None.ensures.steps.0)
    ∙ c.loop-place.invariant ∙ c.into_iter-place-iterator.ensures.into_iter_gives ∙ c.iter-place-items.ensures.rest
