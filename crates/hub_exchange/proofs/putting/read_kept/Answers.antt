use Rattle.hub_exchange.proofs.PuttingLaws.{kept_behind_load}
use Rattle.hub_exchange.proofs.putting.read_kept.Goals as goal

-- What was written before stays on the shelf.
pub returns-clause-kept : goal.returns-clause-kept
returns-clause-kept g c = let load = c.read.ensures in
    kept_behind_load g.K.Keep.is_up g.K.Keep.holds g.K.Keep.lasts c.args.shelf.now c.read.new.self _ load.same load.up
    load.kept c.requires.kept
