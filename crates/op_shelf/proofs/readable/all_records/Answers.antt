use Rattle.std.proofs.Common.{◌≡◌, List, map, sym, subst}
use Rattle.std.proofs.lemmas.Result.{IfOk-weaker}
use Rattle.std.specs.List.Sorted.{IsSorted}
use Rattle.operation.specs.declared.op.Op.{Op}
use Rattle.sqlite.specs.Held.{state}
use Rattle.op_shelf.specs.declared.fault.ShelfFault.TheVariants.{BadRow}
use Rattle.op_shelf.specs.Entries.{own_entry}
use Rattle.op_shelf.specs.Recording.{Records}
use Rattle.op_shelf.specs.States.{digest_cmp, rows_of}
use Rattle.op_shelf.proofs.Recordings.{all_read, bad_read}
use Rattle.op_shelf.proofs.Walks.{walks_refused, walks_told}
use Rattle.op_shelf.proofs.readable.all_records.Goals as goal

-- Where none is told, the records are those of all rows; else a row is none of an operation.
pub returns-in-Ok : goal.returns-in-Ok
returns-in-Ok g c =
    let read = c.in-Ok.ensures in
    let rows = rows_of (state g.S.Store c.args.database.now) in
    record {
      walks = walks_told g.S.Store c.args.database.now c.read_table.new.database _ _ read.walks c.whole.ensures.only;
      all = λ clean. IfOk-weaker c.whole.result _ (λ recorded. Records rows recorded.items)
          (λ recorded it. all_read rows _ _ _ (read.read clean) it) c.whole.ensures.all;
      ascending = IfOk-weaker c.whole.result _ (λ recorded. IsSorted digest_cmp (map own_entry recorded.items))
          (λ recorded it. subst (λ (ops : List Op). IsSorted digest_cmp (map own_entry ops)) (sym it.1)
          read.ascending.records) c.whole.ensures.all;
      bad_row = λ clean bad. bad_read rows _ _ (read.read clean) (c.whole.ensures.bad bad);
    }

-- What is refused is refused as the walk.
pub returns-in-Err : goal.returns-in-Err
returns-in-Err g c =
    let read = c.in-Err.ensures in
    record {
      walks = walks_refused g.S.Store c.args.database.now c.read_table.new.database _ read.walks;
      all = λ clean. tt;
      ascending = tt;
      bad_row = λ clean bad. let is : c.in-Err.fault ≡ BadRow = cc in absurd (read.row (rw is));
    }
