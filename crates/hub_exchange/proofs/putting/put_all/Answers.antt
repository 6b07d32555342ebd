use Rattle.hub_exchange.proofs.PuttingLaws.{kept_behind_group, kept_by_group}
use Rattle.hub_exchange.proofs.putting.put_all.Goals as goal

-- What was written before stays on the shelf where the group was refused.
pub returns-in_err-put_many-clause-kept : goal.returns-in_err-put_many-clause-kept
returns-in_err-put_many-clause-kept g c = let put = c.put_many.ensures in
    kept_behind_group g.K.Keep.is_up g.K.Keep.holds g.K.Keep.lasts c.args.shelf.now c.put_many.new.self _
    c.put_many.result (λ kepts. kepts.items) _ put.put put.refused put.up put.kept
    c.requires.kept

-- The shelf answered that it has each of the group, and it has what was written before.
pub returns : goal.returns
returns g c = let put = c.put_many.ensures in record {
  kept = kept_behind_group g.K.Keep.is_up g.K.Keep.holds g.K.Keep.lasts c.args.shelf.now c.put_many.new.self _
      c.put_many.result (λ kepts. kepts.items) _ put.put put.refused put.up put.kept
      c.requires.kept;
  put = kept_by_group g.K.Keep.is_up g.K.Keep.holds g.K.Keep.lasts c.args.shelf.now c.put_many.new.self c.args.ops.now c.in_ok-put_many.field-0.items
      c.in_ok-put_many.ensures.put c.in_ok-put_many.ensures.durable;
  why = tt;
}
