use Rattle.std.proofs.Common.{List, All, subst}
use Rattle.operation.specs.declared.op.Op.{Op}
use Rattle.shelved_site.specs.Moving.{ArePut}
use Rattle.shelved_site.proofs.moving.move_group.Goals as goal

-- What was loaded was put.
pub returns-in-Ok-put_group-clause-moved : goal.returns-in-Ok-put_group-clause-moved
returns-in-Ok-put_group-clause-moved g c clean up first same =
    let old = g.T.Keep.holds c.args.to.now in
    let new = g.T.Keep.holds c.put_group.new.to in
    let lasts = g.T.Keep.lasts c.put_group.new.to in
    let is = c.deref.ensures.value in
    record {
      ops = c.in-Ok.ops.items;
      loaded = c.in-Ok.ensures.loaded clean first same;
      put = subst (λ (ops : List Op). ArePut old new ops c.in-Ok-put_group.new) is (c.in-Ok-put_group.ensures.put up);
      lasting = subst (λ (ops : List Op). All lasts ops) is (c.in-Ok-put_group.ensures.lasting up);
    }
