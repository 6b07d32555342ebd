use Rattle.association_worker.proofs.HubLaws.{pass_finds, busy_look}
use Rattle.association_worker.proofs.looker.Looker.rows.Goals as goal

-- What the pass looks at is found at the port.
pub returns-clause-finds : goal.returns-clause-finds
returns-clause-finds g c =
    let found = c.find-found.ensures in
    pass_finds (λ rows. rows) g.H.HubName.opening c.args.self.now c.find-found.new.self
    (record { called = c.args.called.now; view = c.args.view; query = c.args.query.now }) c.find-found.result
    c.rows_in.result c.rows_in.ensures.ok c.rows_in.ensures.err c.see_history.ensures
    (rw (← c.self.view_is) found.looked) found.rows found.fault

-- It is busy where the look was.
pub returns-clause-busy : goal.returns-clause-busy
returns-clause-busy g c =
    let found = c.find-found.ensures in
    busy_look (λ rows. rows) c.args.self.now.refused c.find-found.new.self.refused c.find-found.result
    c.rows_in.result c.rows_in.ensures.ok c.rows_in.ensures.err (rw (← c.self.view_is) found.counted)
