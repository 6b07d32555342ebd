use Rattle.std.proofs.Common.{inl, [], arith, false}
use Rattle.std.proofs.lemmas.Result.{IfErr-weaker}
use Rattle.sqlite.specs.Held.{state}
use Rattle.sqlite.specs.State.{HasCleanDisk}
use Rattle.sqlite.proofs.InsideLemmas.{inside_keeps}
use Rattle.op_shelf.specs.Texts.{create_text}
use Rattle.op_shelf.proofs.Migrated.{begins, halts}
use Rattle.op_shelf.proofs.migration.make_beside.Goals as goal

-- The table is made beside the older one, without a row.
pub returns-clause-made : goal.returns-clause-made
returns-clause-made g c clean =
    let early : HasCleanDisk (state g.S.Store c.args.part.now.conn.now) =
    omega (arith, c.execute.ensures.survives.clean, clean) in
    let started = c.requires.started early in
    begins (state g.S.Store c.args.part.now.conn.now) (state g.S.Store c.execute.new.self.conn.now) c.execute.result
    started (c.execute.ensures.runs clean started.inside)

-- Within a transaction nothing is committed.
pub returns-clause-kept : goal.returns-clause-kept
returns-clause-kept g c clean =
    let early : HasCleanDisk (state g.S.Store c.args.part.now.conn.now) =
    omega (arith, c.execute.ensures.survives.clean, clean) in
    inside_keeps (state g.S.Store c.args.part.now.conn.now) (state g.S.Store c.execute.new.self.conn.now) 0 false
    create_text [] c.execute.result (c.execute.ensures.runs clean (c.requires.started early).inside)

-- A refusal is that of this statement.
pub returns-clause-halted : goal.returns-clause-halted
returns-clause-halted g c clean =
    let early : HasCleanDisk (state g.S.Store c.args.part.now.conn.now) =
    omega (arith, c.execute.ensures.survives.clean, clean) in
    let started = c.requires.started early in
    IfErr-weaker c.execute.result _ _ (λ e refused. (c.args.part.now.conn.now, inl (started.older, refused)))
    (halts create_text [] (state g.S.Store c.args.part.now.conn.now) (state g.S.Store c.execute.new.self.conn.now)
    c.execute.result (c.execute.ensures.runs clean started.inside))
