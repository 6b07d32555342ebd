use Rattle.std.proofs.Common.{map, arith}
use Rattle.sqlite.specs.Held.{state}
use Rattle.sqlite.specs.State.{HasCleanDisk}
use Rattle.op_shelf.specs.Older.{moved}
use Rattle.op_shelf.proofs.Migrated.{kept_then, crash_then}
use Rattle.op_shelf.proofs.migration.fill.Goals as goal

-- Both tables are there, with the entries so far.
pub drop_older-requires : goal.drop_older-requires
drop_older-requires g c = record {
  moving = λ clean. (map moved c.args.pairs.now, c.in_ok-move_rows.ensures.added clean);
}

-- The newer table is left alone, with all entries.
pub returns-clause-moved : goal.returns-clause-moved
returns-clause-moved g c clean =
    let early : HasCleanDisk (state g.S.Store c.move_rows.new.part.conn.now) =
    omega (arith, c.drop_older.ensures.crash.clean, clean) in
    c.in_ok-drop_older.ensures.dropped clean (map moved c.args.pairs.now) (c.in_ok-move_rows.ensures.added early)

-- Each step leaves what is committed.
pub returns-clause-kept : goal.returns-clause-kept
returns-clause-kept g c clean =
    let a = state g.S.Store c.args.part.now.conn.now in
    let b = state g.S.Store c.make_beside.new.part.conn.now in
    let d = state g.S.Store c.move_rows.new.part.conn.now in
    let e = state g.S.Store c.drop_older.new.part.conn.now in
    kept_then a d e (kept_then a b d c.make_beside.ensures.kept c.move_rows.ensures.crash c.move_rows.ensures.kept)
    c.drop_older.ensures.crash c.drop_older.ensures.kept clean

-- So does a refused drop of the older table.
pub returns-in_err-drop_older-clause-kept : goal.returns-in_err-drop_older-clause-kept
returns-in_err-drop_older-clause-kept g c clean =
    let a = state g.S.Store c.args.part.now.conn.now in
    let b = state g.S.Store c.make_beside.new.part.conn.now in
    let d = state g.S.Store c.move_rows.new.part.conn.now in
    let e = state g.S.Store c.drop_older.new.part.conn.now in
    kept_then a d e (kept_then a b d c.make_beside.ensures.kept c.move_rows.ensures.crash c.move_rows.ensures.kept)
    c.drop_older.ensures.crash c.drop_older.ensures.kept clean

-- And so does a row that is refused.
pub returns-in_err-move_rows-clause-kept : goal.returns-in_err-move_rows-clause-kept
returns-in_err-move_rows-clause-kept g c clean =
    let a = state g.S.Store c.args.part.now.conn.now in
    let b = state g.S.Store c.make_beside.new.part.conn.now in
    let d = state g.S.Store c.move_rows.new.part.conn.now in
    kept_then a b d c.make_beside.ensures.kept c.move_rows.ensures.crash c.move_rows.ensures.kept clean

-- Each step commits nothing.
pub returns-clause-crash : goal.returns-clause-crash
returns-clause-crash g c =
    let a = state g.S.Store c.args.part.now.conn.now in
    let b = state g.S.Store c.make_beside.new.part.conn.now in
    let d = state g.S.Store c.move_rows.new.part.conn.now in
    let e = state g.S.Store c.drop_older.new.part.conn.now in
    crash_then a d e (crash_then a b d c.make_beside.ensures.crash c.move_rows.ensures.crash) c.drop_older.ensures.crash

-- Nor does a refused drop of the older table.
pub returns-in_err-drop_older-clause-crash : goal.returns-in_err-drop_older-clause-crash
returns-in_err-drop_older-clause-crash g c =
    let a = state g.S.Store c.args.part.now.conn.now in
    let b = state g.S.Store c.make_beside.new.part.conn.now in
    let d = state g.S.Store c.move_rows.new.part.conn.now in
    let e = state g.S.Store c.drop_older.new.part.conn.now in
    crash_then a d e (crash_then a b d c.make_beside.ensures.crash c.move_rows.ensures.crash) c.drop_older.ensures.crash

-- Nor does a row that is refused.
pub returns-in_err-move_rows-clause-crash : goal.returns-in_err-move_rows-clause-crash
returns-in_err-move_rows-clause-crash g c =
    crash_then (state g.S.Store c.args.part.now.conn.now) (state g.S.Store c.make_beside.new.part.conn.now)
    (state g.S.Store c.move_rows.new.part.conn.now) c.make_beside.ensures.crash c.move_rows.ensures.crash
