use Rattle.association_worker.proofs.HubLaws.{pass_gets, busy_look}
use Rattle.association_worker.proofs.looker.Looker.listed.Goals as goal

-- What the pass lists is what the port lists.
pub returns-clause-gets : goal.returns-clause-gets
returns-clause-gets g c =
    let found = c.list-found.ensures in
    pass_gets (λ listed. listed.items) g.H.HubName.opening c.args.self.now c.list-found.new.self
    (record { view = c.args.view; selection = c.args.selection.now }) c.list-found.result c.listed_in.result
    c.listed_in.ensures.ok c.listed_in.ensures.err c.see_history.ensures
    (rw (← c.self.view_is) found.looked) found.listed found.fault

-- It is busy where the look was.
pub returns-clause-busy : goal.returns-clause-busy
returns-clause-busy g c =
    let found = c.list-found.ensures in
    busy_look (λ listed. listed.items) c.args.self.now.refused c.list-found.new.self.refused
    c.list-found.result c.listed_in.result c.listed_in.ensures.ok c.listed_in.ensures.err
    (rw (← c.self.view_is) found.counted)
