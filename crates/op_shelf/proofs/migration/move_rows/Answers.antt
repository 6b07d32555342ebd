use Rattle.std.proofs.Common.{◌≤◌, length, take_all, map, refl, sym, ◌∙◌, subst, arith, rules}
use Rattle.sqlite.specs.Held.{state}
use Rattle.sqlite.proofs.InsideLemmas.{keeps_then}
use Rattle.sqlite.proofs.StateLemmas.{survives_then}
use Rattle.op_shelf.specs.Migration.{IsMoving}
use Rattle.op_shelf.specs.Older.{IsPair, moved}
use Rattle.op_shelf.proofs.Migrated.{moving_on, keeps_itself}
use Rattle.op_shelf.proofs.Puts.{survives_none}
use Rattle.op_shelf.proofs.migration.move_rows.Goals as goal

-- Before the first row there is no entry.
pub loop-pair-init : goal.loop-pair-init
loop-pair-init g c = (
  refl,
  λ clean. (c.requires.moving clean, keeps_itself (state g.S.Store c.args.part.now.conn.now)),
  survives_none (state g.S.Store c.args.part.now.conn.now) (λ _. ⊥),
)

-- This row is that of an operation.
pub move_row-requires-clause-pair : goal.move_row-requires-clause-pair
move_row-requires-clause-pair g c = subst IsPair (sym c.pair-item.is) (c.requires.pairs c.loop-pair.pair-index
    c.pair-item.result c.loop-pair-test.true)

-- This row has become its entry too.
pub loop-pair-preserved : goal.loop-pair-preserved
loop-pair-preserved g c =
    let first = state g.S.Store c.args.part.now.conn.now in
    let old = state g.S.Store c.loop-pair.part.conn.now in
    let new = state g.S.Store c.move_row.new.part.conn.now in
    let step = c.move_row.ensures.crash in (
      c.move_row.ensures.same_reference ∙ c.loop-pair.invariant.0,
      λ clean.
          let was = c.loop-pair.invariant.1 (omega (arith, step.clean, clean)) in (
            moving_on new c.args.pairs.now c.loop-pair.pair-index c.pair-item.result c.loop-pair-test.true
                c.pair-item.is (c.in_ok-move_row.ensures.added clean _ was.0),
            keeps_then first old new was.1 (c.move_row.ensures.kept clean),
          ),
      survives_then first old new _ _ _ (λ _ db none. none) (λ _ db none. none) c.loop-pair.invariant.2 step,
    )

-- At the end all rows have.
pub returns-clause-added : goal.returns-clause-added
returns-clause-added g c clean =
    let far : length c.args.pairs.now ≤ c.loop-pair.pair-index = search (arith, rules) in
    subst (λ rows. IsMoving (state g.S.Store c.loop-pair.part.conn.now) (map moved rows))
    (take_all c.loop-pair.pair-index c.args.pairs.now far) (c.loop-pair.invariant.1 clean).0

-- A refused row leaves what is committed, too.
pub returns-in_err-move_row-clause-kept : goal.returns-in_err-move_row-clause-kept
returns-in_err-move_row-clause-kept g c clean =
    let was = c.loop-pair.invariant.1 (omega (arith, c.move_row.ensures.crash.clean, clean)) in
    keeps_then (state g.S.Store c.args.part.now.conn.now) (state g.S.Store c.loop-pair.part.conn.now)
    (state g.S.Store c.move_row.new.part.conn.now) was.1 (c.move_row.ensures.kept clean)

-- It commits nothing, as the rows before it.
pub returns-in_err-move_row-clause-crash : goal.returns-in_err-move_row-clause-crash
returns-in_err-move_row-clause-crash g c =
    survives_then (state g.S.Store c.args.part.now.conn.now) (state g.S.Store c.loop-pair.part.conn.now)
    (state g.S.Store c.move_row.new.part.conn.now) _ _ _ (λ _ db none. none) (λ _ db none. none)
    c.loop-pair.invariant.2 c.move_row.ensures.crash
