use Rattle.std.proofs.Common.{subst, arith, take}
use Rattle.std.proofs.lemmas.List.{take_more, take_all}
use Rattle.site_world.specs.Runs.{Run}
use Rattle.site_world.proofs.Worlds.{run_more}
use Rattle.site_world.proofs.Alike.{outcome, headline}
use Rattle.site_world.proofs.world.World.run.Goals as goal

-- The step just done is one more of the run, and its answer one more of the list.
pub loop-step-preserved : goal.loop-step-preserved
loop-step-preserved c = record {
  room = omega (arith, c.loop-step.invariant.room, c.push_reserved.ensures.capacity);
  many = omega (arith, c.loop-step.invariant.many, c.push_reserved.ensures.len);
  run =
      rw (
        c.push_reserved.ensures.items,
        take_more c.args.steps.now c.loop-step.step-index c.step-item.result
            c.loop-step-test.true,
        ← c.step-item.is,
      )
      (run_more c.args.self.now (take c.loop-step.step-index c.args.steps.now) c.loop-step.answers.items
      c.loop-step.self c.step-answer.new.self
      c.step-item.result c.step-answer.result c.loop-step.invariant.run c.step-answer.ensures.happens);
}

-- At the end all steps were done, and what follows from that is a law of runs.
pub returns-clause-outcome : goal.returns-clause-outcome
returns-clause-outcome c =
    let steps = c.args.steps.now in
    let answers = c.loop-step.answers.items in
    outcome c.args.self.now c.loop-step.self steps answers
    (subst (λ xs. Run c.args.self.now xs answers c.loop-step.self) (take_all c.loop-step.step-index steps
    c.loop-step-test.false) c.loop-step.invariant.run)

-- The headline is a law of the runs of new worlds.
pub returns-clause-headline : goal.returns-clause-headline
returns-clause-headline c fresh =
    let steps = c.args.steps.now in
    let answers = c.loop-step.answers.items in
    headline c.args.self.now c.loop-step.self steps answers fresh
    (subst (λ xs. Run c.args.self.now xs answers c.loop-step.self) (take_all c.loop-step.step-index steps
    c.loop-step-test.false) c.loop-step.invariant.run)
