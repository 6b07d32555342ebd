use Rattle.std.proofs.Common.{◌≡◌, ◌∙◌, inl, inr, refl, ap, subst, rules}
use Rattle.operation.specs.declared.op.Op.{Op}
use Rattle.operation.specs.declared.op.Op.TheVariants.{Content as a_content}
use Rattle.records.specs.StandIn.{op_in}
use Rattle.op_shelf.specs.declared.fault.ShelfFault.TheVariants.{Memory}
use Rattle.site_hub.proofs.Laters.{later_same}
use Rattle.hub_exchange.specs.Putting.{IsLent, WasWritten}
use Rattle.archive_server.proofs.OnwardLaws.{onward_learned, onward_stored, refused_as}
use Rattle.archive_server.proofs.RefusingLaws.{hub_refused}
use Rattle.archive_server.proofs.port.ServerPortPort.store.Goals as goal

-- The pass goes on from what it was at the store, and so from what it was at entry.
pub invariant_of-self-in-Ok-put : goal.invariant_of-self-in-Ok-put
invariant_of-self-in-Ok-put g c =
    let take = c.take-taken.ensures in
    let shelved = c.in-Ok-put.shelved in record {
      onward = onward_learned _ _ _ _ _ _ c.learn.ensures.this c.learn.ensures.that c.self.invariant.onward
          (onward_stored (WasWritten shelved.extract) _ _ _ _ c.take-taken.result shelved.digest shelved.written
          (search rules) take.later take.stores);
      lent = c.self.invariant.lent;
    }

-- Where memory was refused for the record all stays:
pub returns-in_default-clause-stores : goal.returns-in_default-clause-stores
returns-in_default-clause-stores g c =
    rw (← c.self.view_is) (rw (c.stored.ensures.same ∙ c.told.ensures) (refused_as _ _ _ _ Memory))

-- what the pass has seen,
pub returns-in_default-clause-refused : goal.returns-in_default-clause-refused
returns-in_default-clause-refused g c =
    rw (← c.self.view_is) (rw (c.stored.ensures.same ∙ c.told.ensures) refl)

-- of which the shelf was not asked,
pub returns-in_default-clause-why : goal.returns-in_default-clause-why
returns-in_default-clause-why g c =
    rw (← c.self.view_is) (rw (c.stored.ensures.same ∙ c.told.ensures) (inr (record {
      own = λ e. absurd cc;
      busy = λ e. absurd cc;
    })))

-- and the pass.
pub returns-in_default-clause-later : goal.returns-in_default-clause-later
returns-in_default-clause-later g c = later_same _ _ (search rules)

-- What the shelf has kept the hub takes for the record.
pub returns-in-Ok-put-clause-stores : goal.returns-in-Ok-put-clause-stores
returns-in-Ok-put-clause-stores g c =
    let same : c.of-op.result ≡ a_content c.args.content = search rules in
    let stands = c.in-Ok.ensures.stands ∙ ap op_in same in
    rw (← c.self.view_is) (rw (c.stored-in-Ok-put.ensures.same ∙ c.told-in-Ok-put.ensures)
    (rw stands at c.take-taken.ensures.stores))

-- What the shelf has kept only the hub refuses.
pub returns-in-Ok-put-clause-why : goal.returns-in-Ok-put-clause-why
returns-in-Ok-put-clause-why g c =
    rw (← c.self.view_is) (rw (c.stored-in-Ok-put.ensures.same ∙ c.told-in-Ok-put.ensures)
    (hub_refused (IsLent g.E.AtLending.lent) g.P.Put.refuses _ _ _ c.take-taken.result c.take-taken.ensures.own
    c.take-taken.ensures.busy))

-- What the shelf refused leaves the pass as it was.
pub returns-clause-later : goal.returns-clause-later
returns-clause-later g c = later_same _ _ (search rules)

-- The shelf refused it.
pub returns-clause-why : goal.returns-clause-why
returns-clause-why g c =
    let same : c.of-op.result ≡ a_content c.args.content = search rules in
    rw c.stored-in-Err.ensures.same (inl (record {
      before = c.self.inside.shelf.now;
      named = c.self.invariant.lent;
      after = c.put.new.self;
      cause = c.in-Err.fault;
      refused = subst (λ (op : Op). g.P.Put.refuses c.self.inside.shelf.now c.put.new.self op c.in-Err.fault) same
          c.in-Err.ensures.why;
      told = c.told_store.ensures;
    }))
