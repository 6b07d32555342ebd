use Rattle.std.proofs.Common.{ap, sym, ◌∙◌}
use Rattle.site_simulation.specs.State.{State}
use Rattle.site_world.specs.Steps.{after}
use Rattle.site_world.specs.Messages.{WorldState}
use Rattle.site_world.proofs.Worlds.{happened, on_ok}
use Rattle.site_simulation.proofs.script.Script.step.Goals as goal

-- The world went on as the step says, and the names stay.
pub returns-clause-moved : goal.returns-clause-moved
returns-clause-moved c =
    on_ok c.put_seen.result
    (ap (λ (w : WorldState). record { names = c.self.inside.names.items; world = w })
    (happened c.self.inside.world c.step-seen.new.self c.args.step c.step-seen.result c.step-seen.ensures.happens
    (sym c.is_memory.ensures ∙ c.if-is_memory.false))
    ∙ ap (λ (s : State). record { names = s.names; world = after s.world c.args.step }) c.self.view_is)
