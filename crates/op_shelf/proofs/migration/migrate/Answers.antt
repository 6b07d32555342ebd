use Rattle.std.proofs.Common.{map, sym, subst, All, Any, arith, rules}
use Rattle.sqlite.specs.Held.{state}
use Rattle.sqlite.specs.State.{HasCleanDisk}
use Rattle.sqlite.proofs.StateLemmas.{survives_then}
use Rattle.op_shelf.specs.Migration.{IsMigration, IsSwap, IsSwapped}
use Rattle.op_shelf.specs.Older.{pairs, moved, IsPair}
use Rattle.op_shelf.proofs.Migrated.{migrated_by, migration_of, older_then}
use Rattle.op_shelf.proofs.Ops.{any_in}
use Rattle.op_shelf.proofs.migration.migrate.Goals as goal

-- The look changed nothing, and all rows are those of operations.
pub swap-requires : goal.swap-requires
swap-requires g c =
    let all : All IsPair c.in_ok-pairs.pairs.items = subst (All IsPair) c.deref.ensures.value
    c.in_ok-are_pairs.ensures.all in
    record {
      alone = c.older_rows.ensures.mode c.requires.older.alone;
      older = λ clean. older_then (state g.S.Store c.args.database.now) (state g.S.Store c.older_rows.new.database)
          c.requires.older (c.in_ok-pairs.ensures.same clean);
      pairs = subst (All IsPair) (sym c.deref-2.ensures.value) all;
    }

-- All rows of the table have become their entries.
pub returns-clause-migrated : goal.returns-clause-migrated
returns-clause-migrated g c clean =
    let s = state g.S.Store c.args.database.now in
    let m = state g.S.Store c.older_rows.new.database in
    let t = state g.S.Store c.swap.new.database in
    let early : HasCleanDisk m = omega (arith, c.swap.ensures.crash.clean, clean) in
    let all : All IsPair c.in_ok-pairs.pairs.items = subst (All IsPair) c.deref.ensures.value
    c.in_ok-are_pairs.ensures.all in
    migrated_by s m t c.in_ok-pairs.pairs.items (c.in_ok-pairs.ensures.same early) (c.in_ok-pairs.ensures.rows early)
    all
    (subst (λ rows. IsSwapped m t (map moved rows)) c.deref-2.ensures.value (c.in_ok-swap.ensures.swapped clean))

-- A row that is none of an operation stands in the table.
pub returns-in_err-are_pairs-clause-bad_row : goal.returns-in_err-are_pairs-clause-bad_row
returns-in_err-are_pairs-clause-bad_row g c clean bad =
    let shown : Any (λ p. ¬ IsPair p) c.in_ok-pairs.pairs.items =
    search (c.in_err-are_pairs.ensures.bad, c.deref.ensures.value, bad, rules) in
    let any = any_in (λ p. ¬ IsPair p) (pairs ((state g.S.Store c.args.database.now).now.trees 0))
    c.in_ok-pairs.pairs.items (c.in_ok-pairs.ensures.rows clean) shown in
    (any.1, (any.0, any.2, any.3), any.4)

-- A crash finds what was there, or all entries.
pub returns-clause-crash : goal.returns-clause-crash
returns-clause-crash g c =
    let s = state g.S.Store c.args.database.now in
    let m = state g.S.Store c.older_rows.new.database in
    let t = state g.S.Store c.swap.new.database in
    let all : All IsPair c.in_ok-pairs.pairs.items = subst (All IsPair) c.deref.ensures.value
    c.in_ok-are_pairs.ensures.all in
    survives_then s m t _ _ (IsMigration s) (λ _ db none. absurd none)
    (λ clean db is.
    let early : HasCleanDisk m = omega (arith, c.swap.ensures.crash.clean, clean) in
    migration_of s c.in_ok-pairs.pairs.items db (c.in_ok-pairs.ensures.rows early)
    all (subst (λ rows. IsSwap (map moved rows) db) c.deref-2.ensures.value is)) c.older_rows.ensures.crash
    c.swap.ensures.crash

-- So it does where the move was refused.
pub returns-in_err-swap-clause-crash : goal.returns-in_err-swap-clause-crash
returns-in_err-swap-clause-crash g c =
    let s = state g.S.Store c.args.database.now in
    let m = state g.S.Store c.older_rows.new.database in
    let t = state g.S.Store c.swap.new.database in
    let all : All IsPair c.in_ok-pairs.pairs.items = subst (All IsPair) c.deref.ensures.value
    c.in_ok-are_pairs.ensures.all in
    survives_then s m t _ _ (IsMigration s) (λ _ db none. absurd none)
    (λ clean db is.
    let early : HasCleanDisk m = omega (arith, c.swap.ensures.crash.clean, clean) in
    migration_of s c.in_ok-pairs.pairs.items db (c.in_ok-pairs.ensures.rows early)
    all (subst (λ rows. IsSwap (map moved rows) db) c.deref-2.ensures.value is)) c.older_rows.ensures.crash
    c.swap.ensures.crash
