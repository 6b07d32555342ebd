use Rattle.op_log.proofs.Lookups.{find_in, find_none}
use Rattle.op_log.proofs.places.Places.find.Goals as goal

-- What the table has under a digest is the first head with it.
pub returns-clause-found : goal.returns-clause-found
returns-clause-found c =
    find_in c.get.result c.self.inside.table.entries c.args.digest.now c.as_bytes.result.now c.args.self.now c.as_bytes.ensures c.self.view_is c.get.ensures.value

-- What it has not under one, no head has.
pub returns-clause-none : goal.returns-clause-none
returns-clause-none c none =
    find_none c.get.result c.self.inside.table.entries c.args.digest.now c.as_bytes.result.now c.args.self.now c.as_bytes.ensures c.self.view_is c.get.ensures.value none
