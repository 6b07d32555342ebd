use Rattle.std.proofs.Common.{inl, inr, arith, false}
use Rattle.std.proofs.lemmas.Result.{IfErr-weaker}
use Rattle.sqlite.specs.Held.{state}
use Rattle.sqlite.specs.State.{HasCleanDisk}
use Rattle.sqlite.proofs.InsideLemmas.{inside_keeps}
use Rattle.op_shelf.specs.Texts.{insert_text}
use Rattle.op_shelf.proofs.Migrated.{all_done, halts}
use Rattle.op_shelf.proofs.migration.insert_within.Goals as goal

-- The entry comes to the others.
pub returns-clause-added : goal.returns-clause-added
returns-clause-added g c clean =
    let early : HasCleanDisk (state g.S.Store c.args.part.now.conn.now) =
    omega (arith, c.execute.ensures.survives.clean, clean) in
    let moving = c.requires.moving early in
    all_done (state g.S.Store c.args.part.now.conn.now) (state g.S.Store c.execute.new.self.conn.now) c.args.digest.now
    c.args.body.now c.args.kind c.execute.result
    (rw c.kind_value.ensures at (c.execute.ensures.runs clean moving.1.inside))

-- Within a transaction nothing is committed.
pub returns-clause-kept : goal.returns-clause-kept
returns-clause-kept g c clean =
    let early : HasCleanDisk (state g.S.Store c.args.part.now.conn.now) =
    omega (arith, c.execute.ensures.survives.clean, clean) in
    inside_keeps (state g.S.Store c.args.part.now.conn.now) (state g.S.Store c.execute.new.self.conn.now) 0 false
    insert_text _ c.execute.result (c.execute.ensures.runs clean (c.requires.moving early).1.inside)

-- A refusal is that of this statement.
pub returns-clause-halted : goal.returns-clause-halted
returns-clause-halted g c clean =
    let early : HasCleanDisk (state g.S.Store c.args.part.now.conn.now) =
    omega (arith, c.execute.ensures.survives.clean, clean) in
    let moving = (c.requires.moving early).1 in
    IfErr-weaker c.execute.result _ _ (λ e refused. (
      c.args.part.now.conn.now,
      inr (moving.checks, moving.both, inl (_, refused)),
    ))
    (halts insert_text _ (state g.S.Store c.args.part.now.conn.now) (state g.S.Store c.execute.new.self.conn.now)
    c.execute.result (c.execute.ensures.runs clean moving.inside))
