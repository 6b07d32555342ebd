use Rattle.hub_exchange.proofs.PuttingLaws.{kept_behind_put}
use Rattle.hub_exchange.proofs.putting.put_shown.Goals as goal

-- What was written before stays on the shelf where the put was refused,
pub returns-in_err-put_digested-clause-kept : goal.returns-in_err-put_digested-clause-kept
returns-in_err-put_digested-clause-kept g c = let put = c.put_digested.ensures in
    kept_behind_put g.K.Keep.is_up g.K.Keep.holds g.K.Keep.lasts c.args.shelf.now c.put_digested.new.self _
    c.put_digested.result _ put.new put.known put.refused put.up put.kept c.requires.kept

-- and where it was not.
pub shown-requires-clause-kept : goal.shown-requires-clause-kept
shown-requires-clause-kept g c = let put = c.put_digested.ensures in
    kept_behind_put g.K.Keep.is_up g.K.Keep.holds g.K.Keep.lasts c.args.shelf.now c.put_digested.new.self _
    c.put_digested.result _ put.new put.known put.refused put.up put.kept c.requires.kept
