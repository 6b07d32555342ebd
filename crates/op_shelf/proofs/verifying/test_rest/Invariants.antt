use Rattle.std.proofs.Common.{◌≡◌, List, length}
use Rattle.sqlite.specs.Order.{Row}
use Rattle.op_shelf.specs.Damage.{AreTested}
use Rattle.op_shelf.proofs.Walks.{HasWalked}
use Rattle.op_shelf.proofs.verifying.test_rest.Given as goal

-- the rows so far were tested, so many, and nothing changed
abbrev pub invariant-rows : goal.invariant-rows
invariant-rows g l =
    record {
      name : l.rows.conn.ghost_name ≡ l.fn.rows.conn.ghost_name;
      given : List Row;
      walked : HasWalked g.S.Store l.fn.rows.conn.now l.rows.conn.now given;
      tested : AreTested given l.damaged.items;
      counted : l.operations ≡ length given;
    }
