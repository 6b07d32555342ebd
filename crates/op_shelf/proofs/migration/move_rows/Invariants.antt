use Rattle.std.proofs.Common.{◌≡◌, take, map}
use Rattle.sqlite.specs.Held.{state}
use Rattle.sqlite.specs.State.{HasCleanDisk, KeepsCommit, Survives}
use Rattle.op_shelf.specs.Migration.{IsMoving}
use Rattle.op_shelf.specs.Older.{moved}
use Rattle.op_shelf.proofs.migration.move_rows.Given as goal

-- the rows so far have become their entries, and nothing is committed
abbrev pub invariant-loop-pair : goal.invariant-loop-pair
invariant-loop-pair g l =
    let old = state g.S.Store l.fn.part.conn.now in
    let now = state g.S.Store l.part.conn.now in
    (l.part.conn.ghost_name ≡ l.fn.part.conn.ghost_name)
    × (HasCleanDisk now → IsMoving now (map moved (take l.pair-index l.pairs)) × KeepsCommit old now)
    × Survives old now (λ _. ⊥)
