use Rattle.op_log.proofs.Tables.{found_under, none_under}
use Rattle.op_log.proofs.told_contents.ToldContents.find.Goals as goal

-- What the table has under the digest is there.
pub returns-clause-found : goal.returns-clause-found
returns-clause-found c =
    found_under c.get.result c.args.self.now.table.entries c.args.digest.now c.as_bytes.result.now c.as_bytes.ensures c.get.ensures.value

-- What it has not is not.
pub returns-clause-none : goal.returns-clause-none
returns-clause-none c none =
    none_under c.get.result c.args.self.now.table.entries c.args.digest.now c.as_bytes.result.now c.as_bytes.ensures c.get.ensures.value none
