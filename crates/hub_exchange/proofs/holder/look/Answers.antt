use Rattle.hub_exchange.proofs.HolderLaws.{pass_looks}
use Rattle.hub_exchange.proofs.holder.look.Goals as goal

-- The answer is of what the pass has seen then.
pub returns-in-Ok-clause-looks : goal.returns-in-Ok-clause-looks
returns-in-Ok-clause-looks g c = pass_looks g.H.HubName.opening c.args.pass.now c.look-answer.new.self
    c.see_history.ensures c.look-answer.ensures.looked c.in-Ok.ensures.answered

-- A refusal is one of memory, or was counted.
pub returns-in-Err-clause-looks : goal.returns-in-Err-clause-looks
returns-in-Err-clause-looks g c = pass_looks g.H.HubName.opening c.args.pass.now c.look-answer.new.self
    c.see_history.ensures c.look-answer.ensures.looked (record {
      cause = c.in-Err.fault;
      of_look = c.in-Err.ensures.fault;
      counted = c.in-Err.ensures.counted;
      told = c.of_hub.ensures;
    })
