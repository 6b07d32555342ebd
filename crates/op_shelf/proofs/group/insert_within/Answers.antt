use Rattle.std.proofs.Common.{arith, false}
use Rattle.sqlite.specs.Held.{state}
use Rattle.sqlite.specs.State.{HasCleanDisk}
use Rattle.sqlite.proofs.InsideLemmas.{inside_keeps}
use Rattle.op_shelf.specs.Texts.{insert_text}
use Rattle.op_shelf.proofs.Groups.{added_within}
use Rattle.op_shelf.proofs.Migrated.{halts}
use Rattle.op_shelf.proofs.group.insert_within.Goals as goal

-- The entry comes to the others.
pub returns-clause-added : goal.returns-clause-added
returns-clause-added g c clean =
    let old = state g.S.Store c.args.part.now.conn.now in
    let new = state g.S.Store c.execute.new.self.conn.now in
    let early : HasCleanDisk old = omega (arith, c.execute.ensures.survives.clean, clean) in
    let filling = c.requires.filling early in
    rw c.kind_of.ensures at (added_within old new c.args.digest.now c.args.body.now c.kind_of.result c.execute.result filling
    (rw c.kind_value.ensures at (c.execute.ensures.runs clean filling.inside)))

-- Within a transaction nothing is committed.
pub returns-clause-kept : goal.returns-clause-kept
returns-clause-kept g c clean =
    let old = state g.S.Store c.args.part.now.conn.now in
    let new = state g.S.Store c.execute.new.self.conn.now in
    let early : HasCleanDisk old = omega (arith, c.execute.ensures.survives.clean, clean) in
    inside_keeps old new 0 false insert_text _ c.execute.result
    (c.execute.ensures.runs clean (c.requires.filling early).inside)

-- A refusal is that of this statement.
pub returns-clause-cause : goal.returns-clause-cause
returns-clause-cause g c clean =
    let old = state g.S.Store c.args.part.now.conn.now in
    let new = state g.S.Store c.execute.new.self.conn.now in
    let early : HasCleanDisk old = omega (arith, c.execute.ensures.survives.clean, clean) in
    halts insert_text _ old new c.execute.result (rw (c.kind_value.ensures, c.kind_of.ensures)
    at (c.execute.ensures.runs clean (c.requires.filling early).inside))
