use Rattle.site_state.proofs.Takings.{if_new, if_added, if_same, if_memory, if_refused, iff_known, iff_clash}
use Rattle.site_state.proofs.site.Site.take.Goals as goal

-- What is new was not held.
pub returns-clause-new : goal.returns-clause-new
returns-clause-new c = if_new c.args.self.now _ c.args.op c.take_under.result c.take_under.ensures

-- Known is the second case of taking, and no other.
pub returns-clause-known : goal.returns-clause-known
returns-clause-known c = iff_known c.args.self.now _ c.args.op c.take_under.result c.take_under.ensures

-- Collision is the third case, and no other.
pub returns-clause-collision : goal.returns-clause-collision
returns-clause-collision c = iff_clash c.args.self.now _ c.args.op c.take_under.result c.take_under.ensures

-- Memory is asked for only where the digest was not held.
pub returns-clause-memory : goal.returns-clause-memory
returns-clause-memory c = if_memory c.args.self.now _ c.args.op c.take_under.result c.take_under.ensures

-- What is new is added.
pub returns-clause-added : goal.returns-clause-added
returns-clause-added c = if_added c.args.self.now _ c.args.op c.take_under.result c.take_under.ensures

-- What is known changes nothing.
pub returns-clause-same : goal.returns-clause-same
returns-clause-same c = if_same c.args.self.now _ c.args.op c.take_under.result c.take_under.ensures

-- Nor does what is refused.
pub returns-clause-kept : goal.returns-clause-kept
returns-clause-kept c = if_refused c.args.self.now _ c.args.op c.take_under.result c.take_under.ensures
