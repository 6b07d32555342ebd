use Rattle.std.proofs.Common.{inr, arith, [], false}
use Rattle.std.proofs.lemmas.Result.{IfErr-weaker}
use Rattle.sqlite.specs.Held.{state}
use Rattle.sqlite.specs.State.{HasCleanDisk}
use Rattle.sqlite.proofs.InsideLemmas.{inside_keeps}
use Rattle.op_shelf.specs.Texts.{drop_text}
use Rattle.op_shelf.proofs.Migrated.{all_dropped, halts}
use Rattle.op_shelf.proofs.migration.drop_older.Goals as goal

-- The newer table is left alone, with its entries.
pub returns-clause-dropped : goal.returns-clause-dropped
returns-clause-dropped g c clean =
    let early : HasCleanDisk (state g.S.Store c.args.part.now.conn.now) =
    omega (arith, c.execute.ensures.survives.clean, clean) in
    all_dropped (state g.S.Store c.args.part.now.conn.now) (state g.S.Store c.execute.new.self.conn.now)
    c.execute.result (c.execute.ensures.runs clean (c.requires.moving early).1.inside)

-- Within a transaction nothing is committed.
pub returns-clause-kept : goal.returns-clause-kept
returns-clause-kept g c clean =
    let early : HasCleanDisk (state g.S.Store c.args.part.now.conn.now) =
    omega (arith, c.execute.ensures.survives.clean, clean) in
    inside_keeps (state g.S.Store c.args.part.now.conn.now) (state g.S.Store c.execute.new.self.conn.now) 0 false
    drop_text [] c.execute.result (c.execute.ensures.runs clean (c.requires.moving early).1.inside)

-- A refusal is that of this statement.
pub returns-clause-halted : goal.returns-clause-halted
returns-clause-halted g c clean =
    let early : HasCleanDisk (state g.S.Store c.args.part.now.conn.now) =
    omega (arith, c.execute.ensures.survives.clean, clean) in
    let moving = (c.requires.moving early).1 in
    IfErr-weaker c.execute.result _ _ (λ e refused. (
      c.args.part.now.conn.now,
      inr (
        moving.checks,
        moving.both,
        inr
            refused,
      ),
    ))
    (halts drop_text [] (state g.S.Store c.args.part.now.conn.now) (state g.S.Store c.execute.new.self.conn.now)
    c.execute.result (c.execute.ensures.runs clean moving.inside))
