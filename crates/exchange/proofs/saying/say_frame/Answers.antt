use Rattle.exchange.proofs.Writings.{on_ok_is, sayable_is}
use Rattle.exchange.proofs.saying.say_frame.Goals as goal

-- What was written was not too long.
pub returns-clause-sayable : goal.returns-clause-sayable
returns-clause-sayable g c = on_ok_is c.put_both.result _ (sayable_is c.args.frame.now _ _
    c.in_ok-text.ensures.too_long.1 c.see_lawful.ensures)
