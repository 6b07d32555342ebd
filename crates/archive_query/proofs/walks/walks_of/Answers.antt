use Rattle.std.proofs.Common.{sym, subst, List}
use Rattle.octets.specs.Members.{Has}
use Rattle.archive_model.specs.declared.asked.Asked.{Asked}
use Rattle.archive_query.proofs.PutIn.{has_at}
use Rattle.archive_query.proofs.walks.walks_of.Goals as goal

-- Each key is one of the query's.
pub put_walk-requires-clause-one : goal.put_walk-requires-clause-one
put_walk-requires-clause-one c =
    subst (λ (xs : List Asked). Has xs c.asked-item.result) c.as_slice-asked-items.ensures
    (subst (Has c.as_slice-asked-items.result.now) (sym c.asked-item.is)
    (has_at c.as_slice-asked-items.result.now c.loop-asked.asked-index c.asked-item.result c.loop-asked-test.true))
