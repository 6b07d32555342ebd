use Rattle.sqlite.specs.Held.{state}
use Rattle.sqlite.proofs.StateLemmas.{survives_weaker}
use Rattle.op_shelf.proofs.Back.{err_then, execute_spares, cause_of}
use Rattle.op_shelf.proofs.Made.{creates, commits_made}
use Rattle.op_shelf.proofs.statements.create.Goals as goal

-- The table is made, without a row.
pub returns-clause-made : goal.returns-clause-made
returns-clause-made g c clean =
    creates (state g.S.Store c.args.database.now) (state g.S.Store c.execute.new.self) c.execute.result
    c.requires.bare.none c.requires.bare.alone (c.execute.ensures.runs clean)

-- A refused statement names its cause.
pub returns-clause-cause : goal.returns-clause-cause
returns-clause-cause g c clean = cause_of _ _ (state g.S.Store c.args.database.now) (state g.S.Store c.execute.new.self)
    c.execute.result (c.execute.ensures.runs clean)

-- It leaves what it found, or rolls back.
pub returns-clause-refused : goal.returns-clause-refused
returns-clause-refused g c clean =
    err_then c.execute.result _ _ (λ e h. execute_spares _ _ (state g.S.Store c.args.database.now)
    (state g.S.Store c.execute.new.self) e h) (returns-clause-cause g c clean)

-- A crash finds an empty table or none.
pub returns-clause-crash : goal.returns-clause-crash
returns-clause-crash g c =
    survives_weaker (state g.S.Store c.args.database.now) (state g.S.Store c.execute.new.self) _ _
    (λ _ db h. commits_made (state g.S.Store c.args.database.now) db c.requires.bare.none h) c.execute.ensures.survives
