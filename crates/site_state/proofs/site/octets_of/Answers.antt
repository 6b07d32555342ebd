use Rattle.std.proofs.Common.{◌++◌, ap, sym, ◌∙◌}
use Rattle.std.proofs.lemmas.List.{append-nil}
use Rattle.site_state.proofs.site.octets_of.Goals as goal

-- All UIDs came.
pub returns-clause-all : goal.returns-clause-all
returns-clause-all c =
    sym (append-nil _) ∙ ap (λ xs. c.loop-uid.texts.items ++ xs) (sym c.in-None.ensures.steps.0) ∙ c.loop-uid.invariant
    ∙ c.into_iter-uid-iterator.ensures.into_iter_gives ∙ c.iter-uid-items.ensures.rest
