use Rattle.std.proofs.Common.{◌≡◌, inl, inr, map, subst, rules, arith}
use Rattle.std.proofs.lemmas.Result.{err_from_is_err_and}
use Rattle.sqlite.specs.Steps.{FailsToCommit}
use Rattle.sqlite.specs.Held.{state}
use Rattle.sqlite.specs.State.{HasCleanDisk, KeepsCommit, Survives}
use Rattle.sqlite.proofs.Callers.{survives_begin}
use Rattle.sqlite.proofs.StateLemmas.{survives_then}
use Rattle.op_shelf.specs.Older.{moved}
use Rattle.op_shelf.specs.Migration.{IsSwapped, IsSwap, IsNotSwapped}
use Rattle.op_shelf.proofs.Migrated.{swapped_by, swap_of, keeps_begin}
use Rattle.op_shelf.proofs.migration.swap.Goals as goal

-- What was filled is committed.
pub returns-clause-swapped : goal.returns-clause-swapped
returns-clause-swapped g c clean =
    let old = c.args.database.now in
    let mid = c.fill.new.part.conn.now in
    let end = c.commit.new.self.0 in
    let begun = c.transaction-part.ensures.begun in
    let same : end ≡ c.database-2-1.given.0 = search rules in
    let late : HasCleanDisk (state g.S.Store end) = search rules in
    let early : HasCleanDisk (state g.S.Store mid) = omega (arith, c.commit.ensures.survives.clean, late) in
    let kept : KeepsCommit (state g.S.Store old) (state g.S.Store mid) = keeps_begin g.S.Store old (state g.S.Store mid)
    (rw begun at (c.fill.ensures.kept early)) in
    subst (λ h. IsSwapped (state g.S.Store old) (state g.S.Store h) (map moved c.args.pairs.now)) same
    (swapped_by (state g.S.Store old) (state g.S.Store mid) (state g.S.Store end) (map moved c.args.pairs.now)
    kept (c.in_ok-fill.ensures.moved early) (c.in_ok-commit.ensures.ok late).1)

-- A crash finds what was there, or all that was filled.
pub returns-clause-crash : goal.returns-clause-crash
returns-clause-crash g c =
    let old = c.args.database.now in
    let mid = c.fill.new.part.conn.now in
    let end = c.commit.new.self.0 in
    let begun = c.transaction-part.ensures.begun in
    let P = IsSwap (map moved c.args.pairs.now) in
    let whole = survives_then (state g.S.Store old) (state g.S.Store mid) (state g.S.Store end) _ _
    P (λ _ db none. absurd none)
    (λ clean db is.
    let early : HasCleanDisk (state g.S.Store mid) = omega (arith, c.commit.ensures.survives.clean, clean) in
    swap_of (state g.S.Store mid) (map moved c.args.pairs.now) db (c.in_ok-fill.ensures.moved early) is)
    (survives_begin g.S.Store old (state g.S.Store mid) _ (rw begun at c.fill.ensures.crash)) c.commit.ensures.survives
    in
    let same : end ≡ c.database-2-1.given.0 = search rules in
    subst (λ h. Survives (state g.S.Store old) (state g.S.Store h) P) same whole

-- So it does where the commit was refused.
pub returns-in_err-commit-clause-crash : goal.returns-in_err-commit-clause-crash
returns-in_err-commit-clause-crash g c =
    let old = c.args.database.now in
    let mid = c.fill.new.part.conn.now in
    let end = c.commit.new.self.0 in
    let begun = c.transaction-part.ensures.begun in
    let P = IsSwap (map moved c.args.pairs.now) in
    let whole = survives_then (state g.S.Store old) (state g.S.Store mid) (state g.S.Store end) _ _
    P (λ _ db none. absurd none)
    (λ clean db is.
    let early : HasCleanDisk (state g.S.Store mid) = omega (arith, c.commit.ensures.survives.clean, clean) in
    swap_of (state g.S.Store mid) (map moved c.args.pairs.now) db (c.in_ok-fill.ensures.moved early) is)
    (survives_begin g.S.Store old (state g.S.Store mid) _ (rw begun at c.fill.ensures.crash)) c.commit.ensures.survives
    in
    let same : end ≡ c.database-2-1.given.0 = search rules in
    subst (λ h. Survives (state g.S.Store old) (state g.S.Store h) P) same whole

-- A statement was refused.
pub returns-in_err-fill-clause-cause : goal.returns-in_err-fill-clause-cause
returns-in_err-fill-clause-cause g c clean =
    let mid = c.fill.new.part.conn.now in
    let late : HasCleanDisk (state g.S.Store c.drop-part.new.self.0) = search rules in
    let early : HasCleanDisk (state g.S.Store mid) = omega (arith, c.drop-part.ensures.survives.clean, late) in
    let told : IsNotSwapped g.S.Store c.database-1.given.0 c.in_err-fill.field-0.0 =
    inl (mid, c.in_err-fill.ensures.halted early) in
    let out = err_from_is_err_and c.from_residual.result c.from_residual.ensures.1 in
    rw (out.1, out.2) told

-- The commit was refused.
pub returns-in_err-commit-clause-cause : goal.returns-in_err-commit-clause-cause
returns-in_err-commit-clause-cause g c clean =
    let mid = c.fill.new.part.conn.now in
    let end = c.commit.new.self.0 in
    let same : end ≡ c.database-2-1.given.0 = search rules in
    let late : HasCleanDisk (state g.S.Store end) = search rules in
    let early : HasCleanDisk (state g.S.Store mid) = omega (arith, c.commit.ensures.survives.clean, late) in
    let refused = c.in_err-commit.ensures.err late in
    let told : IsNotSwapped g.S.Store c.database-2-1.given.0 c.in_err-commit.field-0.0 =
    inr (
      mid,
      map moved c.args.pairs.now,
      c.in_ok-fill.ensures.moved early,
      subst (λ h. FailsToCommit (state g.S.Store mid) (state g.S.Store h) c.in_err-commit.field-0.0) same refused,
    ) in
    let out = err_from_is_err_and c.from_residual-in_err-commit.result c.from_residual-in_err-commit.ensures.1 in
    rw (out.1, out.2) told
