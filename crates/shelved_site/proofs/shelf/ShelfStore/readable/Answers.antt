use Rattle.std.proofs.Common.{List, subst, sym}
use Rattle.std.proofs.lemmas.Result.{IfOk-weaker}
use Rattle.sqlite.specs.Held.{state}
use Rattle.operation.specs.declared.op.Op.{Op}
use Rattle.op_shelf.specs.States.{rows_of}
use Rattle.shelved_site.specs.Readable.{ShowsRows}
use Rattle.shelved_site.specs.Sites.{AreRecords}
use Rattle.shelved_site.proofs.Listings.{read_rows}
use Rattle.shelved_site.proofs.shelf.ShelfStore.readable.Goals as goal

-- What the shelf read are the records of the operations that it shows.
pub returns-in-Ok-clause-read : goal.returns-in-Ok-clause-read
returns-in-Ok-clause-read g c clean =
    let rows = rows_of (state g.S.Store c.args.self.now) in
    let told = c.in-Ok.told in
    IfOk-weaker c.told_of_rows.result _ _
    (λ found it. subst (λ (rs : List Op). AreRecords (ShowsRows rows found.unreadable.items) rs) (sym it.0)
    (read_rows rows told.recorded.items told.unreadable.items found.unreadable.items (c.in-Ok.ensures.read clean) it.1))
    c.told_of_rows.ensures.told
