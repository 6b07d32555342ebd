use Rattle.std.proofs.Common.{arith, false}
use Rattle.sqlite.specs.Held.{state}
use Rattle.sqlite.specs.State.{HasCleanDisk}
use Rattle.sqlite.proofs.InsideLemmas.{inside_keeps}
use Rattle.op_shelf.specs.Texts.{delete_text}
use Rattle.op_shelf.proofs.Groups.{cleared_within}
use Rattle.op_shelf.proofs.Migrated.{halts}
use Rattle.op_shelf.proofs.clearing.delete_within.Goals as goal

-- What is under the digest is taken out, and nothing else, as no other row has its rowid.
pub returns-clause-cleared : goal.returns-clause-cleared
returns-clause-cleared g c clean =
    let old = state g.S.Store c.args.part.now.conn.now in
    let new = state g.S.Store c.execute.new.self.conn.now in
    let early : HasCleanDisk old = omega (arith, c.execute.ensures.survives.clean, clean) in
    let filling = c.requires.filling early in
    cleared_within old new c.args.digest.now c.execute.result filling (c.requires.sole early)
    (c.execute.ensures.runs clean filling.inside)

-- Within a transaction nothing is committed.
pub returns-clause-kept : goal.returns-clause-kept
returns-clause-kept g c clean =
    let old = state g.S.Store c.args.part.now.conn.now in
    let new = state g.S.Store c.execute.new.self.conn.now in
    let early : HasCleanDisk old = omega (arith, c.execute.ensures.survives.clean, clean) in
    inside_keeps old new 0 false delete_text _ c.execute.result
    (c.execute.ensures.runs clean (c.requires.filling early).inside)

-- A refusal is that of this statement.
pub returns-clause-cause : goal.returns-clause-cause
returns-clause-cause g c clean =
    let old = state g.S.Store c.args.part.now.conn.now in
    let new = state g.S.Store c.execute.new.self.conn.now in
    let early : HasCleanDisk old = omega (arith, c.execute.ensures.survives.clean, clean) in
    halts delete_text _ old new c.execute.result (c.execute.ensures.runs clean (c.requires.filling early).inside)
