use Rattle.hub_exchange.specs.Putting.{HasFound}
use Rattle.hub_exchange.proofs.PuttingLaws.{found_stands, found_refused, load_refused}
use Rattle.hub_exchange.proofs.putting.load_from.Goals as goal

-- What the shelf found is loaded where it is of the record, and else that is why it is not.
pub returns-in-Ok : goal.returns-in-Ok
returns-in-Ok g c =
    let held = c.args.held.now in let digest = c.args.digest.now in let load = c.in-Ok.ensures in record {
      stands = found_stands held digest c.in-Ok.found c.of_record.result load.told c.of_record.ensures.found;
      why = found_refused g.K.Keep.refuses_load (HasFound g.K.Keep.is_up g.K.Keep.holds) c.args.shelf.now
          c.load.new.self held digest c.in-Ok.found c.of_record.result
          (record { there = load.held; exact = load.exact }) c.of_record.ensures.unlike;
      up = load.up;
      kept = load.kept;
    }

-- The shelf refused the load.
pub returns-in-Err : goal.returns-in-Err
returns-in-Err g c =
    let load = c.in-Err.ensures in record {
      stands = tt;
      why = load_refused g.K.Keep.refuses_load (HasFound g.K.Keep.is_up g.K.Keep.holds) c.args.shelf.now
          c.load.new.self c.args.held.now c.args.digest.now c.in-Err.fault c.refusal_of_load.result load.why
          c.refusal_of_load.ensures;
      up = load.up;
      kept = load.kept;
    }
