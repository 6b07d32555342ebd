use Rattle.std.proofs.Common.{◌≡◌, ◌++◌, ◌∷◌, [], Some, None, IsPermutation, refl, ◌∙◌, subst, arith, rules}
use Rattle.std.proofs.lemmas.Result.{err_from_is_err_and}
use Rattle.sqlite.specs.Given.{row_if}
use Rattle.sqlite.specs.Held.{state}
use Rattle.sqlite.specs.State.{HasCleanDisk}
use Rattle.op_shelf.specs.Entries.{entries}
use Rattle.op_shelf.specs.Walking.{GivesRow}
use Rattle.op_shelf.proofs.Recordings.{none_read, read_more, read_of_table}
use Rattle.op_shelf.proofs.Walks.{HasWalked, walks_ok, walks_on, walks_then, walks_refused, walks_no_store, walked_more}
use Rattle.op_shelf.proofs.Walks.{rows_then}
use Rattle.op_shelf.proofs.readable.read_rest.Goals as goal

-- No row is given yet.
pub rows-init : goal.rows-init
rows-init g c = record {
  name = refl;
  given = [];
  walked = walks_on g.S.Store c.args.rows.now.conn.now [] c.requires.walking;
  read = none_read _ _ c.requires.none.0 c.requires.none.1;
}

-- Each step goes on.
pub step-requires : goal.step-requires
step-requires g c = record { walking = λ clean. (c.rows.invariant.given, c.rows.invariant.walked.walking clean) }

-- What is refused at a row is refused as the whole query.
pub returns-in_err-step-clause-walks : goal.returns-in_err-step-clause-walks
returns-in_err-step-clause-walks g c =
    let mid = c.rows.rows.conn.now in
    let end = c.step.new.rows.conn.now in
    let out = err_from_is_err_and c.from_residual.result c.from_residual.ensures.1 in
    walks_then g.S.Store c.args.rows.now.conn.now mid end _ _ c.rows.invariant.walked
    (rw (out.1, out.2) (walks_refused g.S.Store mid end _ c.in_err-step.ensures.walks))

-- Past the last row, those that were read are the entries of the table.
pub returns-in_default-clause-walks : goal.returns-in_default-clause-walks
returns-in_default-clause-walks g c =
    let mid = c.rows.rows.conn.now in
    let end = c.step.new.rows.conn.now in
    let step = c.in_ok-step.ensures.walks in
    walks_then g.S.Store c.args.rows.now.conn.now mid end _ _ c.rows.invariant.walked
    (walks_ok g.S.Store mid end _ step.same step.crash)

pub returns-in_default-clause-read : goal.returns-in_default-clause-read
returns-in_default-clause-read g c late =
    let first = c.args.rows.now.conn.now in
    let mid = c.rows.rows.conn.now in
    let end = c.step.new.rows.conn.now in
    let was = c.rows.invariant in
    let early : HasCleanDisk (state g.S.Store mid) = omega (arith, c.step.ensures.walks.crash.clean, late) in
    let none : row_if c.step.new.rows.has_row end ≡ None = search rules in
    read_of_table _ was.given _ _
    (rows_then g.S.Store first mid was.given was.walked early (λ rows. IsPermutation (entries rows) was.given)
    (subst (GivesRow g.S.Store mid end was.given) none
    (c.in_ok-step.ensures.gives late was.given (was.walked.walking early)))) was.read

-- One row more was read.
pub rows-preserved : goal.rows-preserved
rows-preserved g c =
    let first = c.args.rows.now.conn.now in
    let mid = c.rows.rows.conn.now in
    let end = c.step.new.rows.conn.now in
    let row = c.in-Some.row.now in
    let was = c.rows.invariant in
    let step = c.in_ok-step.ensures in
    let here : row_if c.step.new.rows.has_row end ≡ Some row = search rules in
    record {
      name = step.same_reference ∙ was.name;
      given = was.given ++ row ∷ [];
      walked = walked_more g.S.Store first mid end was.given row was.walked step.walks.crash step.walks.same
          (λ late at. subst (GivesRow g.S.Store mid end was.given) here (step.gives late was.given at));
      read = read_more was.given row _ _ _ _ was.read c.in_ok-read_one.ensures.read;
    }

-- A refusal of a reading is none of the database.
pub returns-in_err-read_one-clause-walks : goal.returns-in_err-read_one-clause-walks
returns-in_err-read_one-clause-walks g c =
    let first = c.args.rows.now.conn.now in
    let mid = c.rows.rows.conn.now in
    let end = c.step.new.rows.conn.now in
    let row = c.in-Some.row.now in
    let was = c.rows.invariant in
    let step = c.in_ok-step.ensures in
    let here : row_if c.step.new.rows.has_row end ≡ Some row = search rules in
    let now : HasWalked g.S.Store first end (was.given ++ row ∷ []) = walked_more g.S.Store first mid end was.given row
    was.walked step.walks.crash step.walks.same
    (λ late at. subst (GivesRow g.S.Store mid end was.given) here (step.gives late was.given at)) in
    let out = err_from_is_err_and c.from_residual-in_err-read_one.result c.from_residual-in_err-read_one.ensures.1 in
    rw (out.1, out.2) (walks_no_store g.S.Store first end (was.given ++ row ∷ []) _ now c.in_err-read_one.ensures.only)

-- Want of memory is no refusal of the database.
pub returns-clause-walks : goal.returns-clause-walks
returns-clause-walks g c = walks_no_store g.S.Store c.args.rows.now.conn.now c.rows.rows.conn.now _ _
    c.rows.invariant.walked (λ why no. absurd cc)
