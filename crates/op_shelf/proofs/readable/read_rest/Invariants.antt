use Rattle.std.proofs.Common.{◌≡◌, List}
use Rattle.sqlite.specs.Order.{Row}
use Rattle.op_shelf.specs.Recording.{AreRead}
use Rattle.op_shelf.proofs.Walks.{HasWalked}
use Rattle.op_shelf.proofs.readable.read_rest.Given as goal

-- the rows so far were read, and nothing changed
abbrev pub invariant-rows : goal.invariant-rows
invariant-rows g l =
    record {
      name : l.rows.conn.ghost_name ≡ l.fn.rows.conn.ghost_name;
      given : List Row;
      walked : HasWalked g.S.Store l.fn.rows.conn.now l.rows.conn.now given;
      read : AreRead given l.recorded.items l.unreadable.items;
    }
