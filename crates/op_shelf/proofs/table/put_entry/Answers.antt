use Rattle.std.proofs.Common.{◌≡◌, false, inr, subst, Ok, arith, rules}
use Rattle.sqlite.specs.Held.{state}
use Rattle.sqlite.specs.State.{HasCleanDisk, Survives}
use Rattle.op_shelf.specs.declared.fault.ShelfFault.TheVariants.{Store}
use Rattle.op_shelf.specs.Entries.{entries, entry_by}
use Rattle.op_shelf.specs.Group.{IsNotReplaced}
use Rattle.op_shelf.specs.States.{IsKnown, IsReady, IsReplaced, Replaces, rows_left, rows_of}
use Rattle.op_shelf.proofs.Puts.{lasts_known, lasts_replaced, replaced_after, survives_put}
use Rattle.op_shelf.proofs.table.put_entry.Goals as goal

-- The look changed nothing, and then the put was refused.
pub returns-in_err-replace_alone : goal.returns-in_err-replace_alone
returns-in_err-replace_alone g c =
    let mid = c.find.new.database in
    let end = c.replace_alone.new.database in
    let digest = c.args.digest.now in
    let none : c.find.result ≡ Ok false = search rules in
    let name : c.as_bytes.result.now ≡ digest = c.as_bytes.ensures.value in
    record {
      new = search rules;
      known = search rules;
      refused = search rules;
      ready = search rules;
      bad_row = search rules;
      store = λ clean why bad.
          let is : c.in_err-replace_alone.field-0.0 ≡ Store why = search (bad, rules) in
          inr (inr (subst (λ d. IsNotReplaced g.S.Store why end d (entry_by d c.args.body.now)) name
          (c.in_err-replace_alone.ensures.store clean why (rw is))));
      crash = survives_put (state g.S.Store c.args.database.now) (state g.S.Store mid) (state g.S.Store end) digest
          (entry_by digest c.args.body.now) c.in_ok-find.ensures.same (λ clean. c.find.ensures.spoiled clean none)
          c.find.ensures.crash
          (subst (λ d. Survives (state g.S.Store mid) (state g.S.Store end) (λ trees. Replaces d (entry_by d c.args.body.now)
          (entries (rows_of (state g.S.Store mid))) (entries (rows_left (state g.S.Store mid) trees)))) name
          c.replace_alone.ensures.crash);
      durable = search rules;
    }

-- What was put is committed, and every crash leaves it.
pub returns : goal.returns
returns g c =
    let old = state g.S.Store c.args.database.now in
    let mid = state g.S.Store c.find.new.database in
    let end = state g.S.Store c.replace_alone.new.database in
    let digest = c.args.digest.now in
    let entry = entry_by digest c.args.body.now in
    let none : c.find.result ≡ Ok false = search rules in
    let name : c.as_bytes.result.now ≡ digest = c.as_bytes.ensures.value in
    let early : HasCleanDisk end → HasCleanDisk mid = λ clean. omega (arith, c.replace_alone.ensures.crash.clean, clean) in
    let put : HasCleanDisk end → IsReplaced mid end digest entry = λ clean.
    subst (λ d. IsReplaced mid end d (entry_by d c.args.body.now)) name (c.in_ok-replace_alone.ensures.replaced clean) in
    record {
      new = λ clean is. record {
        spoiled = c.find.ensures.spoiled (early clean) none;
        added = replaced_after old mid end digest entry (c.in_ok-find.ensures.same (early clean)) (put clean);
      };
      known = search rules;
      refused = search rules;
      ready = search rules;
      bad_row = search rules;
      store = search rules;
      crash = survives_put old mid end digest entry c.in_ok-find.ensures.same
          (λ clean. c.find.ensures.spoiled clean none) c.find.ensures.crash
          (subst (λ d. Survives mid end (λ trees. Replaces d (entry_by d c.args.body.now)
          (entries (rows_of mid)) (entries (rows_left mid trees)))) name c.replace_alone.ensures.crash);
      durable = λ clean. lasts_replaced mid end entry
          (λ db up may. g.met.S.Store.settled c.replace_alone.new.database.store db up may) digest (put clean);
    }

-- Nothing was done where the table does not stand alone.
pub returns-then-not-is_ready : goal.returns-then-not-is_ready
returns-then-not-is_ready g c = record {
  new = search rules;
  known = search rules;
  refused = search rules;
  ready = search rules;
  bad_row = search rules;
  store = search rules;
  crash = search rules;
  durable = search rules;
}

-- It was there, and nothing changed.
pub returns-then-branch : goal.returns-then-branch
returns-then-branch g c = record {
  new = search rules;
  known = search rules;
  refused = search rules;
  ready = search rules;
  bad_row = search rules;
  store = search rules;
  crash = search rules;
  durable = λ clean.
      let ready : IsReady (state g.S.Store c.args.database.now) = search rules in
      let known : IsKnown (state g.S.Store c.args.database.now) (state g.S.Store c.find.new.database) c.args.digest.now
      (entry_by c.args.digest.now c.args.body.now) = search (clean, rules) in
      lasts_known (state g.S.Store c.args.database.now) (state g.S.Store c.find.new.database)
      (entry_by c.args.digest.now c.args.body.now)
      (λ db up may. g.met.S.Store.settled c.find.new.database.store db up may) c.args.digest.now ready known;
}
