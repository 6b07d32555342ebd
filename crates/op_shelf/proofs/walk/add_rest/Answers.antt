use Rattle.std.proofs.Common.{◌≡◌, ◌++◌, ◌∷◌, [], map, Some, None, IsPermutation, refl, sym, ◌∙◌, subst, arith, rules}
use Rattle.std.proofs.lemmas.Result.{err_from_is_err_and}
use Rattle.sqlite.specs.Given.{row_if}
use Rattle.sqlite.specs.Held.{state}
use Rattle.sqlite.specs.State.{HasCleanDisk}
use Rattle.op_shelf.specs.Entries.{IsEntry, entries, entry_of}
use Rattle.op_shelf.specs.Walking.{GivesRow}
use Rattle.op_shelf.proofs.Walks.{HasWalked, walks_on, walks_then, walks_no_store, walked_more, walked_bad, rows_then}
use Rattle.op_shelf.proofs.walk.add_rest.Goals as goal

-- The rows so far are those that were given before.
pub rows-init : goal.rows-init
rows-init g c = (refl, walks_on g.S.Store c.args.rows.now.conn.now _ c.requires.walking)

-- Each step goes on.
pub step-requires : goal.step-requires
step-requires g c = record { walking = λ clean. (map entry_of c.rows.ops.items, c.rows.invariant.1.walking clean) }

-- What is refused at a row is refused as the whole query.
pub returns-in_err-step-clause-walks : goal.returns-in_err-step-clause-walks
returns-in_err-step-clause-walks g c =
    let out = err_from_is_err_and c.from_residual.result c.from_residual.ensures.1 in
    walks_then g.S.Store c.args.rows.now.conn.now c.rows.rows.conn.now c.step.new.rows.conn.now _ _ c.rows.invariant.1
    (rw (out.1, out.2) c.in_err-step.ensures.walks)

-- Past the last row, those that were given are the entries of the table.
pub returns-in_default-clause-walks : goal.returns-in_default-clause-walks
returns-in_default-clause-walks g c = walks_then g.S.Store c.args.rows.now.conn.now c.rows.rows.conn.now
    c.step.new.rows.conn.now _ _ c.rows.invariant.1 c.in_ok-step.ensures.walks

pub returns-in_default-clause-all : goal.returns-in_default-clause-all
returns-in_default-clause-all g c late =
    let first = c.args.rows.now.conn.now in
    let mid = c.rows.rows.conn.now in
    let end = c.step.new.rows.conn.now in
    let given = map entry_of c.rows.ops.items in
    let was = c.rows.invariant.1 in
    let early : HasCleanDisk (state g.S.Store mid) = omega (arith, c.step.ensures.walks.crash.clean, late) in
    let none : row_if c.step.new.rows.has_row end ≡ None = search rules in
    rows_then g.S.Store first mid given was early (λ rows. IsPermutation (entries rows) given)
    (subst (GivesRow g.S.Store mid end given) none (c.in_ok-step.ensures.gives late given (was.walking early)))

-- One row more is the entry of one operation more.
pub rows-preserved : goal.rows-preserved
rows-preserved g c =
    let first = c.args.rows.now.conn.now in
    let mid = c.rows.rows.conn.now in
    let end = c.step.new.rows.conn.now in
    let given = map entry_of c.rows.ops.items in
    let row = c.in-Some.row.now in
    let step = c.in_ok-step.ensures in
    let here : row_if c.step.new.rows.has_row end ≡ Some row = search rules in (
      step.same_reference ∙ c.rows.invariant.0,
      subst (HasWalked g.S.Store first end) (sym c.in_ok-add_op.ensures.added)
          (walked_more g.S.Store first mid end given row c.rows.invariant.1 step.walks.crash step.walks.same
          (λ late was. subst (GivesRow g.S.Store mid end given) here (step.gives late given was))),
    )

-- A row that is none of an operation stands in the table; another refusal is none of the database.
pub returns-in_err-add_op-clause-walks : goal.returns-in_err-add_op-clause-walks
returns-in_err-add_op-clause-walks g c =
    let first = c.args.rows.now.conn.now in
    let mid = c.rows.rows.conn.now in
    let end = c.step.new.rows.conn.now in
    let given = map entry_of c.rows.ops.items in
    let row = c.in-Some.row.now in
    let step = c.in_ok-step.ensures in
    let here : row_if c.step.new.rows.has_row end ≡ Some row = search rules in
    let now : HasWalked g.S.Store first end (given ++ row ∷ []) = walked_more g.S.Store first mid end given row
    c.rows.invariant.1 step.walks.crash step.walks.same
    (λ late was. subst (GivesRow g.S.Store mid end given) here (step.gives late given was)) in
    let out = err_from_is_err_and c.from_residual-in_err-add_op.result c.from_residual-in_err-add_op.ensures.1 in
    rw (out.1, out.2) (walks_no_store g.S.Store first end (given ++ row ∷ []) _ now c.in_err-add_op.ensures.only)

pub returns-in_err-add_op-clause-bad_row : goal.returns-in_err-add_op-clause-bad_row
returns-in_err-add_op-clause-bad_row g c late bad =
    let first = c.args.rows.now.conn.now in
    let mid = c.rows.rows.conn.now in
    let end = c.step.new.rows.conn.now in
    let given = map entry_of c.rows.ops.items in
    let row = c.in-Some.row.now in
    let step = c.in_ok-step.ensures in
    let here : row_if c.step.new.rows.has_row end ≡ Some row = search rules in
    let now : HasWalked g.S.Store first end (given ++ row ∷ []) = walked_more g.S.Store first mid end given row
    c.rows.invariant.1 step.walks.crash step.walks.same
    (λ late was. subst (GivesRow g.S.Store mid end given) here (step.gives late given was)) in
    let none : ¬ IsEntry row = search (bad, rules) in
    walked_bad g.S.Store first end given row now late none

-- Want of memory is no refusal of the database.
pub returns-clause-walks : goal.returns-clause-walks
returns-clause-walks g c = walks_no_store g.S.Store c.args.rows.now.conn.now c.rows.rows.conn.now _ _ c.rows.invariant.1
    (λ why no. absurd cc)
