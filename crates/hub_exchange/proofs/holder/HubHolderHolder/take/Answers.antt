use Rattle.std.proofs.Common.{inl, inr, refl}
use Rattle.hub_exchange.specs.Putting.{IsLent}
use Rattle.hub_exchange.proofs.HolderLaws.{refused_at_hub}
use Rattle.hub_exchange.proofs.OnwardLaws.{onward_learned}
use Rattle.hub_exchange.proofs.holder.HubHolderHolder.take.Goals as goal

-- The pass goes on from what it was at the take, and so from what it was at entry.
pub invariant_of-self : goal.invariant_of-self
invariant_of-self g c = record {
  onward = onward_learned _ _ _ _ _ _ c.learn.ensures.this c.learn.ensures.that c.self.invariant.onward
      c.publish-taken.ensures.onward;
  lent = c.self.invariant.lent;
}

-- What the shelf has kept only the hub refuses.
pub returns-in-Ok-put-clause-why : goal.returns-in-Ok-put-clause-why
returns-in-Ok-put-clause-why g c = rw (← c.self.view_is) (refused_at_hub (IsLent g.E.AtLending.lent) g.P.Put.refuses
    g.H.HubName.opening _ _ c.args.op c.publish-taken.result c.publish-taken.ensures.refused c.publish-taken.ensures.why)

-- Memory was refused for the record.
pub returns-in_default-clause-why : goal.returns-in_default-clause-why
returns-in_default-clause-why g c = record { seen = refl; why = inr (inr refl) }

-- The shelf refused it.
pub returns-clause-why : goal.returns-clause-why
returns-clause-why g c = record {
  seen = refl;
  why = inl (record {
    before = _;
    named = c.self.invariant.lent;
    after = _;
    cause = _;
    refused = c.in-Err.ensures.why;
    told = c.refusal_of_shelf.ensures;
  });
}
