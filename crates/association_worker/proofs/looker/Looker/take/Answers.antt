use Rattle.association_worker.proofs.HubLaws.{pass_stores, refused_unseen, own_take, busy_take}
use Rattle.association_worker.proofs.looker.Looker.take.Goals as goal

-- What the keeper takes for the pass is stored at the port.
pub returns-clause-stores : goal.returns-clause-stores
returns-clause-stores g c =
    let told = c.store-told.ensures in
    pass_stores g.H.HubName.opening c.args.self.now c.store-told.new.pass c.args.op
    c.store-told.result c.reply.result c.reply.ensures c.see_history.ensures
    (rw (← c.self.view_is) told.goes_on.later) (rw (← c.self.view_is) told.takes)
    (rw (← c.self.view_is) told.refuses)

-- What is refused was not published.
pub returns-clause-refused : goal.returns-clause-refused
returns-clause-refused g c =
    let told = c.store-told.ensures in
    refused_unseen g.H.HubName.opening c.args.self.now c.store-told.new.pass c.args.op
    c.store-told.result c.reply.result c.reply.ensures (rw (← c.self.view_is) told.refuses)

-- The keeper knows no shelf.
pub returns-clause-own : goal.returns-clause-own
returns-clause-own g c = own_take c.store-told.result c.reply.result c.reply.ensures

-- It is busy where the keeper was.
pub returns-clause-busy : goal.returns-clause-busy
returns-clause-busy g c =
    let told = c.store-told.ensures in
    busy_take c.args.self.now.refused c.store-told.new.pass.refused c.store-told.result
    c.reply.result c.reply.ensures (rw (← c.self.view_is) told.goes_on.counted)
