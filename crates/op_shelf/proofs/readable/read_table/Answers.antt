use Rattle.std.proofs.Common.{◌≡◌}
use Rattle.op_shelf.specs.declared.fault.ShelfFault.TheVariants.{BadRow}
use Rattle.op_shelf.proofs.Recordings.{read_sorted}
use Rattle.op_shelf.proofs.Walks.{walks_refused, walks_told}
use Rattle.op_shelf.proofs.readable.read_table.Goals as goal

-- What is sorted are those that were read.
pub returns-in-Ok : goal.returns-in-Ok
returns-in-Ok g c =
    let read = c.in-Ok.ensures in
    record {
      walks = walks_told g.S.Store c.args.database.now c.read_rows.new.database _ _ read.walks tt;
      read = λ clean. read_sorted _ _ _ _ _ (read.read clean) c.put_records_in_order.ensures.same c.put_in_order.ensures.same;
      ascending = record {
        records = c.put_records_in_order.ensures.ascending;
        damages = c.put_in_order.ensures.ascending;
      };
      row = λ bad. absurd cc;
    }

-- What is refused is refused as the walk.
pub returns-in-Err : goal.returns-in-Err
returns-in-Err g c =
    let read = c.in-Err.ensures in
    record {
      walks = walks_refused g.S.Store c.args.database.now c.read_rows.new.database _ read.walks;
      read = λ clean. tt;
      ascending = tt;
      row = λ bad. let is : c.in-Err.fault ≡ BadRow = cc in read.row (rw is);
    }
