use Rattle.std.proofs.Common.{arith}
use Rattle.std.proofs.lemmas.Result.{IfOk-weaker}
use Rattle.sqlite.specs.Held.{state}
use Rattle.sqlite.specs.State.{HasCleanDisk}
use Rattle.op_shelf.specs.Texts.{rowid_text}
use Rattle.op_shelf.proofs.Back.{ok_then, err_one, shown_same}
use Rattle.op_shelf.proofs.Groups.{query_within, queried_keeps}
use Rattle.op_shelf.proofs.Queries.{rowids, plain_rowid}
use Rattle.op_shelf.proofs.clearing.rows_within.Goals as goal

-- What is shown are the rowids of those rows.
pub returns-clause-rows : goal.returns-clause-rows
returns-clause-rows g c clean n is =
    let old = state g.S.Store c.args.part.now.conn.now in
    let new = state g.S.Store c.query_all.new.self.conn.now in
    let early : HasCleanDisk old = omega (arith, c.query_all.ensures.survives.clean, clean) in
    IfOk-weaker c.query_all.result _ _ (λ rows h. rowids old new (c.requires.filling early).shelf rows.items
    n h) (rw is at (c.query_all.ensures.ok clean))

-- The text writes nothing.
pub returns-clause-same : goal.returns-clause-same
returns-clause-same g c clean =
    let old = state g.S.Store c.args.part.now.conn.now in
    let new = state g.S.Store c.query_all.new.self.conn.now in
    let early : HasCleanDisk old = omega (arith, c.query_all.ensures.survives.clean, clean) in
    ok_then c.query_all.result _ _ (λ rows h. shown_same rowid_text _ old new rows.items
    (plain_rowid old.now.schema (c.requires.filling early).shelf) h) (c.query_all.ensures.ok clean)

-- A refused one is that of this text.
pub returns-clause-cause : goal.returns-clause-cause
returns-clause-cause g c clean n is =
    let old = state g.S.Store c.args.part.now.conn.now in
    let new = state g.S.Store c.query_all.new.self.conn.now in
    let early : HasCleanDisk old = omega (arith, c.query_all.ensures.survives.clean, clean) in
    err_one c.query_all.result _ _ (λ e h. query_within rowid_text _ old new e
    (plain_rowid old.now.schema (c.requires.filling early).shelf) h) (rw is at (c.query_all.ensures.err clean))

-- It commits nothing, refused or not.
pub returns-clause-kept : goal.returns-clause-kept
returns-clause-kept g c clean =
    let old = state g.S.Store c.args.part.now.conn.now in
    let new = state g.S.Store c.query_all.new.self.conn.now in
    let early : HasCleanDisk old = omega (arith, c.query_all.ensures.survives.clean, clean) in
    queried_keeps rowid_text _ old new c.query_all.result (plain_rowid old.now.schema (c.requires.filling early).shelf)
    (returns-clause-same g c clean) (returns-clause-cause g c clean c.requires.whole.0 c.requires.whole.1)
