use Rattle.std.proofs.Common.{◌≡◌, inl, inr, subst, rules, arith, Contains}
use Rattle.sqlite.specs.Steps.{FailsToCommit}
use Rattle.sqlite.specs.Held.{state}
use Rattle.sqlite.specs.State.{HasCleanDisk}
use Rattle.operation.specs.declared.op.Op.{Op}
use Rattle.op_shelf.specs.declared.fault.ShelfFault.TheVariants.{Store}
use Rattle.op_shelf.specs.Entries.{entry_of, digest_text}
use Rattle.op_shelf.specs.Fault.{fault_of}
use Rattle.op_shelf.specs.Group.{IsStuck}
use Rattle.op_shelf.proofs.group.put_group.Goals as goal

-- One of the group was refused.
pub returns-in_err-kepts-clause-puts : goal.returns-in_err-kepts-clause-puts
returns-in_err-kepts-clause-puts g c = record {
  put = search rules;
  refused = search rules;
  ready = search rules;
  bad_row = search rules;
  store = λ clean why bad.
      let mid = c.put_each.new.part.conn.now in
      let late : HasCleanDisk (state g.S.Store c.drop-part.new.self.0) = search rules in
      let early : HasCleanDisk (state g.S.Store mid) = omega (arith, c.drop-part.ensures.survives.clean, late) in
      let stuck : (op : Op) × Contains c.args.ops.now op × IsStuck g.S.Store why mid (digest_text op) (entry_of op)
      = search (c.in_err-kepts.ensures.store early why, bad, rules) in
      inr (inl (stuck.0, stuck.1, mid, stuck.2));
  crash = search rules;
}

-- The commit was refused.
pub returns-in_err-commit-clause-puts : goal.returns-in_err-commit-clause-puts
returns-in_err-commit-clause-puts g c = record {
  put = search rules;
  refused = search rules;
  ready = search rules;
  bad_row = search rules;
  store = λ clean why bad.
      let mid = c.put_each.new.part.conn.now in
      let end = c.commit.new.self.0 in
      let e = c.in_err-commit.field-0.0 in
      let same : end ≡ c.database-2-1.given.0 = search rules in
      let late : HasCleanDisk (state g.S.Store end) = search rules in
      let told : fault_of e ≡ Store why = search (bad, rules) in
      inr (inr (
        mid,
        e,
        told,
        subst (λ h. FailsToCommit (state g.S.Store mid) (state g.S.Store h) e) same (c.in_err-commit.ensures.err late),
      ));
  crash = search rules;
}
