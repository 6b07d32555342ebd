use Rattle.std.proofs.Common.{◌≡◌, take}
use Rattle.sqlite.specs.Held.{state}
use Rattle.sqlite.specs.State.{HasCleanDisk, KeepsCommit, Survives}
use Rattle.op_shelf.specs.Group.{HasPut}
use Rattle.op_shelf.proofs.group.put_each.Given as goal

-- those so far were put, and nothing is committed
abbrev pub invariant-loop-op : goal.invariant-loop-op
invariant-loop-op g l =
    let old = state g.S.Store l.fn.part.conn.now in
    let now = state g.S.Store l.part.conn.now in
    (l.part.conn.ghost_name ≡ l.fn.part.conn.ghost_name)
    × (HasCleanDisk now → HasPut old now (take l.op-index l.ops) l.kepts.items × KeepsCommit old now)
    × Survives old now (λ _. ⊥)
