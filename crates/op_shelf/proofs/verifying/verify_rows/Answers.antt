use Rattle.std.proofs.Common.{◌≡◌}
use Rattle.std.proofs.lemmas.List.Sorted.{IsPermutation-trans}
use Rattle.op_shelf.specs.declared.fault.ShelfFault.TheVariants.{BadRow, Store}
use Rattle.op_shelf.proofs.verifying.verify_rows.Goals as goal

-- What is sorted are those that were told.
pub returns-in-Ok : goal.returns-in-Ok
returns-in-Ok g c =
    let read = c.in-Ok.ensures in
    record {
      tested = λ clean.
          let was = read.tested clean in
          record {
            order = was.order;
            all = was.all;
            counted = was.counted;
            found = was.found;
            tested = was.tested;
            same = IsPermutation-trans _ _ _ was.same c.put_in_order.ensures.same;
          };
      ascending = c.put_in_order.ensures.ascending;
      same = read.walks.same;
      refused = λ clean. tt;
      row = λ bad. absurd cc;
      store = λ clean why bad. absurd cc;
      crash = read.walks.crash;
    }

-- What is refused is refused as the walk.
pub returns-in-Err : goal.returns-in-Err
returns-in-Err g c =
    let read = c.in-Err.ensures in
    record {
      tested = λ clean. tt;
      ascending = tt;
      same = λ clean. tt;
      refused = read.walks.refused;
      row = λ bad. let is : c.in-Err.fault ≡ BadRow = cc in read.row (rw is);
      store = λ clean why bad. let is : c.in-Err.fault ≡ Store why = cc in read.walks.store clean why (rw is);
      crash = read.walks.crash;
    }
