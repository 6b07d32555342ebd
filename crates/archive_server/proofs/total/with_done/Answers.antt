use Rattle.std.proofs.Common.{◌≡◌, ◌∷◌, ◌++◌, [], List, ℕ, ap, subst, ◌∙◌}
use mathlib.Core.List.{IsPrefix}
use Rattle.site_hub.specs.Hub.{Seat}
use Rattle.archive_server.specs.Done.{Standing}
use Rattle.archive_server.proofs.total.with_done.Goals as goal

-- What the clerk knows was compared.
pub returns-clause-begins : goal.returns-clause-begins
returns-clause-begins g c =
    subst (λ (l : List (List ℕ)). IsPrefix l c.compare.new.self)
    (c.into_parts-pass.ensures.known ∙ ap (λ (s : Standing). s.known) c.into_parts-clerk.ensures.clerk)
    c.compare.ensures.begins

-- The clerk's pass stands behind the others.
pub returns-clause-passes : goal.returns-clause-passes
returns-clause-passes g c =
    subst (λ (s : Seat). c.push_reserved.new.self.items ≡ c.args.passes.now.items ++ s ∷ [])
    (c.into_parts-pass.ensures.pass ∙ ap (λ (s : Standing). s.pass) c.into_parts-clerk.ensures.clerk)
    c.push_reserved.ensures.items
