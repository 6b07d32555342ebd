use Rattle.std.proofs.Common.{◌∙◌, ℕ, List, Option, Result, Ok, Err, IfOk, ap, subst, sym, arith}
use Rattle.sqlite.specs.Held.{state}
use Rattle.operation.specs.declared.op.Op.{Op}
use Rattle.op_shelf.specs.declared.fault.ShelfFault.{ShelfFault}
use Rattle.op_shelf.specs.Entries.{digest_text}
use Rattle.op_shelf.specs.Keep.{IsFoundAs}
use Rattle.op_shelf.specs.Refusing.{RefusesLoad}
use Rattle.op_shelf.specs.States.{rows_of}
use Rattle.op_shelf.proofs.Loads.{exact}
use Rattle.op_shelf.proofs.Whys.{load_why}
use Rattle.shelved_site.proofs.Listings.{in_table}
use Rattle.shelved_site.proofs.shelf.ShelfStore.load_recorded.Goals as goal

-- What is listed under the digest is in the table, so it is what is found.
pub returns-in-Ok-Some-clause-loaded : goal.returns-in-Ok-Some-clause-loaded
returns-in-Ok-Some-clause-loaded g c clean op (ops, (told, shown), among) is =
    let rows = rows_of (state g.S.Store c.args.self.now) in
    subst (λ (r : Result (Option Op) ShelfFault). IfOk r (λ found. IsFoundAs found op))
    (c.in-Ok-Some.is ∙ ap (λ (o : Option Op). Ok o) c.in-Ok-Some.field-0-is)
    (exact digest_text rows c.digest.result.now c.load.result (c.load.ensures.none clean) (c.load.ensures.found clean)
    c.load.ensures.lawful op (in_table rows told ops op shown among) (is ∙ sym c.digest.ensures))

-- A disk that is clean afterwards was clean.
pub returns-in-Ok-Some-clause-clean : goal.returns-in-Ok-Some-clause-clean
returns-in-Ok-Some-clause-clean g c clean = omega (arith, c.load.ensures.crash.clean, clean)

-- What is listed is in the table, so it is found.
pub returns-in-Ok-None-clause-why : goal.returns-in-Ok-None-clause-why
returns-in-Ok-None-clause-why g c clean (op, (ops, (told, shown), among), is) =
    let rows = rows_of (state g.S.Store c.args.self.now) in
    absurd (subst (λ (r : Result (Option Op) ShelfFault). IfOk r (λ found. IsFoundAs found op))
    (c.in-Ok-None.is ∙ ap (λ (o : Option Op). Ok o) c.in-Ok-None.field-0-is)
    (exact digest_text rows c.digest.result.now c.load.result (c.load.ensures.none clean) (c.load.ensures.found clean)
    c.load.ensures.lawful op (in_table rows told ops op shown among) (is ∙ sym c.digest.ensures)))

-- Nothing changed.
pub returns-in-Ok-None-clause-refused : goal.returns-in-Ok-None-clause-refused
returns-in-Ok-None-clause-refused g c clean opens =
    let same = c.in-Ok-None.ensures.same clean in
    (same.0.was_open, same.0.now_is)

-- A disk that is clean afterwards was clean.
pub returns-in-Ok-None-clause-clean : goal.returns-in-Ok-None-clause-clean
returns-in-Ok-None-clause-clean g c clean = omega (arith, c.load.ensures.crash.clean, clean)

-- Each fault comes only where it is.
pub returns-in-Err-clause-why : goal.returns-in-Err-clause-why
returns-in-Err-clause-why g c clean has =
    subst (λ (d : List ℕ). RefusesLoad g.S.Store c.args.self.now c.load.new.self d c.in-Err.fault) c.digest.ensures
    (load_why g.S.Store c.args.self.now c.load.new.self c.digest.result.now (Err c.in-Err.fault) c.in-Err.ensures.bad_row
    c.in-Err.ensures.store)

-- So was one that refused.
pub returns-in-Err-clause-clean : goal.returns-in-Err-clause-clean
returns-in-Err-clause-clean g c clean = omega (arith, c.load.ensures.crash.clean, clean)
