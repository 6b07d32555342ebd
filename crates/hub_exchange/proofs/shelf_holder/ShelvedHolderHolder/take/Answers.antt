use Rattle.std.proofs.Common.{◌≡◌, inl, refl, rules, subst}
use Rattle.operation.specs.declared.op.Op.{Op}
use Rattle.operation.specs.Spelling.{digest_of, hash_of}
use Rattle.hub_exchange.proofs.Gains.{alone_takes, asked, spared, gains_taken, refused_on_shelf}
use Rattle.hub_exchange.proofs.shelf_holder.ShelvedHolderHolder.take.Goals as goal

-- What the site takes lasts on the shelf, which the shelf answered before.
pub invariant_of-self : goal.invariant_of-self
invariant_of-self g c =
    let own = subst (λ (op : Op). digest_of op ≡ hash_of op) c.op-2.ensures c.see_lawful.ensures.digest in
    asked g.K.Keep.is_up g.K.Keep.lasts _ _ _ _ _ _ c.self.invariant c.put_digested.ensures.up
    c.put_digested.ensures.kept
    (λ now. gains_taken (g.K.Keep.lasts _) _ _ _ _ c.take_record.ensures.takes own (c.in-Ok.ensures.durable now))

-- What the shelf refuses the site does not take.
pub invariant_of-self-in-Err : goal.invariant_of-self-in-Err
invariant_of-self-in-Err g c =
    spared g.K.Keep.is_up g.K.Keep.lasts _ _ _ _ _ c.self.invariant c.put_digested.ensures.up c.put_digested.ensures.kept

-- A site that nobody else changes takes as a holder does.
pub returns-in-Ok-clause-takes : goal.returns-in-Ok-clause-takes
returns-in-Ok-clause-takes g c =
    rw (← c.self.view_is) (alone_takes c.self.inside.site c.take_record.new.site c.args.op c.take_record.result
    c.take_record.ensures.takes)

-- What the shelf has kept only the site refuses, which changes nothing.
pub returns-in-Ok-clause-why : goal.returns-in-Ok-clause-why
returns-in-Ok-clause-why g c = rw (← c.self.view_is) (refused_on_shelf _ g.K.Keep.refuses _ _ _ _
    c.take_record.ensures.takes c.take_record.ensures.why)

-- What the shelf refused the site does not take,
pub returns-clause-takes : goal.returns-clause-takes
returns-clause-takes g c =
    rw (← c.self.view_is) (alone_takes c.self.inside.site c.self.inside.site c.args.op _ refl)

-- and that is why.
pub returns-clause-why : goal.returns-clause-why
returns-clause-why g c = record {
  same = search rules;
  why = inl (record {
    before = _;
    named = rw (← c.self.view_is) c.self.invariant;
    after = _;
    cause = _;
    refused = c.in-Err.ensures.why;
    told = c.refusal_of_shelf.ensures;
  });
}
