use Rattle.std.proofs.Common.{◌≡◌, map}
use Rattle.op_shelf.specs.Entries.{entry_of}
use Rattle.op_shelf.proofs.Walks.{HasWalked}
use Rattle.op_shelf.proofs.walk.add_rest.Given as goal

-- the rows so far are the entries of the operations so far, and nothing changed
abbrev pub invariant-rows : goal.invariant-rows
invariant-rows g l =
    (l.rows.conn.ghost_name ≡ l.fn.rows.conn.ghost_name)
    × HasWalked g.S.Store l.fn.rows.conn.now l.rows.conn.now (map entry_of l.ops.items)
