use Rattle.sqlite.specs.Held.{state}
use Rattle.sqlite.specs.Values.{bound}
use Rattle.sqlite.proofs.Callers.{never_commits}
use Rattle.sqlite.proofs.StateLemmas.{survives_weaker}
use Rattle.op_shelf.proofs.Back.{ok_then, err_then, shown_same, query_spares}
use Rattle.op_shelf.proofs.statements.select.Goals as goal

-- A text that writes nothing leaves what it found.
pub returns-clause-same : goal.returns-clause-same
returns-clause-same g c clean =
    ok_then c.query_all.result _ _ (λ rows h. shown_same c.args.text.now (bound c.args.values.now)
    (state g.S.Store c.args.database.now) (state g.S.Store c.query_all.new.self) rows.items c.requires.plain h)
    (c.query_all.ensures.ok clean)

-- A refused one leaves it too, or rolls back.
pub returns-clause-refused : goal.returns-clause-refused
returns-clause-refused g c clean =
    err_then c.query_all.result _ _ (λ e h. query_spares c.args.text.now (bound c.args.values.now)
    (state g.S.Store c.args.database.now) (state g.S.Store c.query_all.new.self) e c.requires.plain h)
    (c.query_all.ensures.err clean)

-- It commits nothing.
pub returns-clause-crash : goal.returns-clause-crash
returns-clause-crash g c =
    survives_weaker (state g.S.Store c.args.database.now) (state g.S.Store c.query_all.new.self) _ _
    (λ _ db h. never_commits c.args.text.now (bound c.args.values.now) (state g.S.Store c.args.database.now) db
    c.requires.plain h) c.query_all.ensures.survives
