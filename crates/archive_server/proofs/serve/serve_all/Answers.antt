use Rattle.hub_exchange.proofs.PuttingLaws.{written_kept}
use Rattle.archive_server.specs.Serving.{IsKept, WasWritten}
use Rattle.archive_server.proofs.CountLaws.{served_more}
use Rattle.archive_server.proofs.serve.serve_all.Goals as goal

-- What stands in the ledger lies on the shelf.
pub returns-clause-served : goal.returns-clause-served
returns-clause-served g c =
    let up = g.K.Keep.is_up in let holds = g.K.Keep.holds in let lasts = g.K.Keep.lasts in
    let rest = c.serve_rest-total in
    served_more (WasWritten rest.new.ledger) (IsKept up holds lasts rest.new.shelf) _ _
    (written_kept up holds lasts rest.new.shelf rest.new.ledger rest.ensures.kept) rest.ensures.served
