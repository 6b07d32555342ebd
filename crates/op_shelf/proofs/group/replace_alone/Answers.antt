use Rattle.std.proofs.Common.{◌≡◌, inl, inr, subst, rules, arith}
use Rattle.sqlite.specs.Steps.{FailsToCommit}
use Rattle.sqlite.specs.Held.{state}
use Rattle.sqlite.specs.State.{HasCleanDisk}
use Rattle.op_shelf.specs.declared.fault.ShelfFault.TheVariants.{Store}
use Rattle.op_shelf.specs.Fault.{fault_of}
use Rattle.op_shelf.proofs.group.replace_alone.Goals as goal

-- A text was refused.
pub returns-in_err-replace_within-clause-store : goal.returns-in_err-replace_within-clause-store
returns-in_err-replace_within-clause-store g c clean why bad =
    let mid = c.replace_within.new.part.conn.now in
    let late : HasCleanDisk (state g.S.Store c.drop-part.new.self.0) = search rules in
    let early : HasCleanDisk (state g.S.Store mid) = omega (arith, c.drop-part.ensures.survives.clean, late) in
    let is : c.in_err-replace_within.field-0.0 ≡ Store why = search (bad, rules) in
    inl (mid, c.in_err-replace_within.ensures.store early why (rw is))

-- The commit was refused.
pub returns-in_err-commit-clause-store : goal.returns-in_err-commit-clause-store
returns-in_err-commit-clause-store g c clean why bad =
    let mid = c.replace_within.new.part.conn.now in
    let end = c.commit.new.self.0 in
    let e = c.in_err-commit.field-0.0 in
    let same : end ≡ c.database-2-1.given.0 = search rules in
    let late : HasCleanDisk (state g.S.Store end) = search rules in
    let told : fault_of e ≡ Store why = search (bad, rules) in
    inr (
      mid,
      e,
      told,
      subst (λ h. FailsToCommit (state g.S.Store mid) (state g.S.Store h) e) same (c.in_err-commit.ensures.err late),
    )
