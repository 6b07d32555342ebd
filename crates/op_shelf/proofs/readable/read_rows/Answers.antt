use Rattle.std.proofs.Common.{[], Err, OnOk, arith, rules, subst}
use Rattle.std.proofs.lemmas.Result.{err_from_is_err_and}
use Rattle.sqlite.specs.Given.{IsRefused}
use Rattle.sqlite.specs.Held.{state}
use Rattle.sqlite.specs.State.{HasCleanDisk}
use Rattle.op_shelf.specs.Entries.{entries}
use Rattle.op_shelf.specs.Recording.{AreRead}
use Rattle.op_shelf.specs.Walking.{Walks}
use Rattle.op_shelf.specs.Texts.{all_text}
use Rattle.op_shelf.proofs.Walks.{begin_fails, rows_then, walk_begins, walks_then}
use Rattle.op_shelf.proofs.readable.read_rows.Goals as goal

-- A query that does not begin leaves what it found, or rolls back.
pub returns-in_err-rows-clause-walks : goal.returns-in_err-rows-clause-walks
returns-in_err-rows-clause-walks g c =
    let held = c.query.follows.holds-at-none in
    let refused : IsRefused g.S.Store all_text [] c.args.database.now (Err c.in_err-rows.field-0.0)
    c.query.follows.lender-at-none = rw c.in_err-rows.was at held in
    let out = err_from_is_err_and c.from_residual.result c.from_residual.ensures.1 in
    rw out.1 (begin_fails g.S.Store c.args.database.now c.query.follows.lender-at-none c.in_err-rows.field-0.0 out.0
    out.2 c.requires.shelf refused)

-- No row is given yet.
pub read_rest-requires : goal.read_rest-requires
read_rest-requires g c =
    let made = c.in_ok-rows.ensures in
    let begun = walk_begins g.S.Store c.args.database.now c.in_ok-rows.rows.conn.now c.requires.shelf made.begun
    made.survives in
    record { walking = begun.walking; none = c.requires.none }

-- The rest is the walk.
pub returns-clause-walks : goal.returns-clause-walks
returns-clause-walks g c =
    let first = c.args.database.now in
    let mid = c.in_ok-rows.rows.conn.now in
    let made = c.in_ok-rows.ensures in
    let begun = walk_begins g.S.Store first mid c.requires.shelf made.begun made.survives in
    let all = walks_then g.S.Store first mid c.read_rest.new.rows.conn.now [] _ begun c.read_rest.ensures.walks in
    subst (λ h. Walks g.S.Store first h c.read_rest.result) (search rules) all

-- What it read is the table's.
pub returns-clause-read : goal.returns-clause-read
returns-clause-read g c clean =
    let first = c.args.database.now in
    let mid = c.in_ok-rows.rows.conn.now in
    let made = c.in_ok-rows.ensures in
    let begun = walk_begins g.S.Store first mid c.requires.shelf made.begun made.survives in
    let late : HasCleanDisk (state g.S.Store c.read_rest.new.rows.conn.now) = search (clean, rules) in
    let early : HasCleanDisk (state g.S.Store mid) = omega (arith, c.read_rest.ensures.walks.crash.clean, late) in
    rows_then g.S.Store first mid [] begun early
    (λ rows. OnOk c.read_rest.result (AreRead (entries rows) c.read_rest.new.recorded.items c.read_rest.new.unreadable.items))
    (c.read_rest.ensures.read late)
