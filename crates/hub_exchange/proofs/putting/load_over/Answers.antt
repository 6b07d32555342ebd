use Rattle.hub_exchange.proofs.PuttingLaws.{found_stands, found_refused, load_refused}
use Rattle.hub_exchange.proofs.putting.load_over.Goals as goal

-- What was found is loaded where it is of the record, and else that is why it is not.
pub returns-in-Ok : goal.returns-in-Ok
returns-in-Ok g c =
    let held = c.args.held.now in let digest = c.args.digest.now in record {
      stands = found_stands held digest c.in-Ok.found c.of_record.result c.in-Ok.ensures.told c.of_record.ensures.found;
      why = found_refused g.P.Put.refuses_load g.P.Put.has_loaded c.args.shelf.now c.load.new.self held digest
          c.in-Ok.found c.of_record.result c.in-Ok.ensures.loaded c.of_record.ensures.unlike;
    }

-- The load was refused.
pub returns-in-Err : goal.returns-in-Err
returns-in-Err g c = record {
  stands = tt;
  why = load_refused g.P.Put.refuses_load g.P.Put.has_loaded c.args.shelf.now c.load.new.self c.args.held.now
      c.args.digest.now c.in-Err.fault c.refusal_of_load.result c.in-Err.ensures.why c.refusal_of_load.ensures;
}
