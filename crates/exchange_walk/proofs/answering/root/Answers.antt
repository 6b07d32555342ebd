use Rattle.std.proofs.Common.{◌++◌, ◌∷◌, [], ap, ◌∙◌}
use Rattle.walk_frames.specs.Walks.{stand_apart}
use Rattle.exchange_walk.proofs.answering.root.Goals as goal

-- One entry stands apart.
pub walk_of-requires-clause-apart : goal.walk_of-requires-clause-apart
unfolding stand_apart
walk_of-requires-clause-apart c =
    ap stand_apart (c.in_ok-push.ensures.items ∙ ap (λ es. es ++ c.split.result ∷ []) c.new-entries.ensures.items)
