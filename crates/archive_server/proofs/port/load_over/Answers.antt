use Rattle.archive_server.proofs.RefusingLaws.{brought_replies, brought_refused, shelf_replies, shelf_refused}
use Rattle.archive_server.proofs.port.load_over.Goals as goal

-- What was found is loaded, or that it is unlike the record is why not.
pub returns-in-Ok : goal.returns-in-Ok
returns-in-Ok g c =
    let asked = c.args.asked.now in let found = c.in-Ok.found in let brought = c.brought in record {
      loaded = rw c.told_load.ensures (brought_replies asked found brought.result brought.ensures.loaded
          brought.ensures.unlike);
      why = rw c.told_load.ensures (brought_refused g.P.Put.refuses_load g.P.Put.has_loaded c.args.shelf.now
          c.load.new.self asked found brought.result (rw c.digest.ensures at c.in-Ok.ensures.loaded)
          brought.ensures.unlike);
    }

-- The shelf refused the load.
pub returns-in-Err : goal.returns-in-Err
returns-in-Err g c = record {
  loaded = rw c.told_shelf_load.ensures (shelf_replies c.in-Err.fault);
  why = shelf_refused g.P.Put.refuses_load g.P.Put.has_loaded c.args.shelf.now c.load.new.self c.args.asked.now
      c.in-Err.fault c.told_shelf_load.result (rw c.digest.ensures at c.in-Err.ensures.why) c.told_shelf_load.ensures;
}
