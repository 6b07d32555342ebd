use Rattle.site_world.proofs.Refused.{correct_refused}
use Rattle.site_world.proofs.world.World.step.Goals as goal

-- A correction that is refused changes nothing.
pub returns-in-Correct-clause-refused : goal.returns-in-Correct-clause-refused
returns-in-Correct-clause-refused c =
    correct_refused c.args.self.now c.correct.new.self c.in-Correct.number c.in-Correct.target c.in-Correct.tag
    c.in-Correct.value c.correct.result c.correct.ensures
