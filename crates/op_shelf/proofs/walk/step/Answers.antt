use Rattle.op_shelf.proofs.Walks.{stepped, step_fails, walks_ok}
use Rattle.op_shelf.proofs.walk.step.Goals as goal

-- The walk goes on, or is at its end.
pub returns-in-Ok-clause-walks : goal.returns-in-Ok-clause-walks
returns-in-Ok-clause-walks g c = walks_ok g.S.Store c.args.rows.now.conn.now c.advance.new.self.conn.now _
    c.in-Ok.ensures.same c.advance.ensures.survives

pub returns-in-Ok-clause-gives : goal.returns-in-Ok-clause-gives
returns-in-Ok-clause-gives g c clean = stepped g.S.Store c.args.rows.now.conn.now c.advance.new.self.conn.now _
    c.in-Ok.ensures.ok clean (c.in-Ok.ensures.same clean)

-- It is refused as the whole query.
pub returns-in-Err-clause-walks : goal.returns-in-Err-clause-walks
returns-in-Err-clause-walks g c = step_fails g.S.Store c.args.rows.now.conn.now c.advance.new.self.conn.now
    c.in-Err.error c.from.result c.from.ensures c.requires.walking c.in-Err.ensures.err c.advance.ensures.survives
