use Rattle.op_log.proofs.Lookups.{index_in, index_none}
use Rattle.op_log.proofs.places.Places.index_of.Goals as goal

-- The index in the table is that of the first head with the digest.
pub returns-clause-found : goal.returns-clause-found
returns-clause-found c =
    index_in c.get_index_of.result c.self.inside.table.entries c.args.digest.now c.as_bytes.result.now c.args.self.now c.as_bytes.ensures c.self.view_is c.get_index_of.ensures.index

-- What the table has not, no head has.
pub returns-clause-none : goal.returns-clause-none
returns-clause-none c none =
    index_none c.get_index_of.result c.self.inside.table.entries c.args.digest.now c.as_bytes.result.now c.args.self.now c.as_bytes.ensures c.self.view_is c.get_index_of.ensures.found none
