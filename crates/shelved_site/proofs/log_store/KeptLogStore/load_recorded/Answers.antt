use Rattle.std.proofs.Common.{◌≡◌, ◌≢◌, ℕ, List, Option, Result, Ok, Err, IfOk, Some, None, ap, sym, subst, ◌∙◌}
use Rattle.operation.specs.declared.op.Op.{Op}
use Rattle.operation.specs.Spelling.{spelling}
use Rattle.op_log.specs.declared.fault.LogFault.{LogFault}
use Rattle.op_log.specs.Kept.{first_under}
use Rattle.op_shelf.specs.declared.fault.ShelfFault.{ShelfFault}
use Rattle.shelved_site.specs.Readable.{IsAny}
use Rattle.shelved_site.specs.Refusing.{LogRefusesLoad}
use Rattle.shelved_site.proofs.Listings.{in_log}
use Rattle.shelved_site.proofs.Logs.{same_of, was_up}
use Rattle.shelved_site.proofs.Stays.{looked}
use Rattle.shelved_site.proofs.Whys.{load_why}
use Rattle.shelved_site.proofs.log_store.KeptLogStore.load_recorded.Goals as goal

-- What is listed under the digest is had under it, so it is what is found.
pub returns-in-Ok-Some-clause-loaded : goal.returns-in-Ok-Some-clause-loaded
returns-in-Ok-Some-clause-loaded g c up op (ops, (told, shown), among) is =
    let log = c.args.self.now.log in
    let (h, it, has) = in_log g.B.Disk log.bodies log.bodies_end log.places IsAny told ops op
    c.see_own_digests.ensures c.load.ensures.goes_on.before.below shown among in
    let found : Some c.in-Ok-Some.op ≡ Some op = subst (λ (r : Result (Option Op) LogFault). IfOk r (λ told. told ≡ Some op))
    (c.in-Ok-Some.is ∙ ap (λ (o : Option Op). Ok o) c.in-Ok-Some.field-0-is)
    (c.load.ensures.exact up.bodies op it.lawful (is ∙ sym c.digest.ensures) has) in
    let same : c.in-Ok-Some.op ≡ op = cc in
    (ap spelling same, λ lawful. same)

-- The log was only looked at.
pub returns-in-Ok-Some-clause-same : goal.returns-in-Ok-Some-clause-same
returns-in-Ok-Some-clause-same g c up =
    looked g.H.Disk g.B.Disk c.args.self.now.log c.load.new.self c.load.ensures.goes_on up c.load.ensures.looks

-- What is up was up.
pub returns-in-Ok-Some-clause-clean : goal.returns-in-Ok-Some-clause-clean
returns-in-Ok-Some-clause-clean g c up =
    was_up g.H.Disk g.B.Disk c.args.self.now.log c.load.new.self c.load.ensures.goes_on up

-- What is listed is had, so it is found.
pub returns-in-Ok-None-clause-why : goal.returns-in-Ok-None-clause-why
returns-in-Ok-None-clause-why g c up (op, (ops, (told, shown), among), is) =
    let log = c.args.self.now.log in
    let (h, it, has) = in_log g.B.Disk log.bodies log.bodies_end log.places IsAny told ops op
    c.see_own_digests.ensures c.load.ensures.goes_on.before.below shown among in
    let found : None ≡ Some op = subst (λ (r : Result (Option Op) LogFault). IfOk r (λ told. told ≡ Some op))
    (c.in-Ok-None.is ∙ ap (λ (o : Option Op). Ok o) c.in-Ok-None.field-0-is)
    (c.load.ensures.exact up.bodies op it.lawful (is ∙ sym c.digest.ensures) has) in
    absurd cc

-- The log was only looked at.
pub returns-in-Ok-None-clause-refused : goal.returns-in-Ok-None-clause-refused
returns-in-Ok-None-clause-refused g c up =
    same_of g.H.Disk g.B.Disk c.args.self.now.log c.load.new.self c.load.ensures.goes_on up c.load.ensures.looks.places

-- What is up was up.
pub returns-in-Ok-None-clause-clean : goal.returns-in-Ok-None-clause-clean
returns-in-Ok-None-clause-clean g c up =
    was_up g.H.Disk g.B.Disk c.args.self.now.log c.load.new.self c.load.ensures.goes_on up

-- A load that is refused leaves all heads in memory.
pub returns-in-Err-clause-refused : goal.returns-in-Err-clause-refused
returns-in-Err-clause-refused g c up =
    same_of g.H.Disk g.B.Disk c.args.self.now.log c.load.new.self c.load.ensures.goes_on up c.load.ensures.looks.places

-- And what is up was up.
pub returns-in-Err-clause-clean : goal.returns-in-Err-clause-clean
returns-in-Err-clause-clean g c up =
    was_up g.H.Disk g.B.Disk c.args.self.now.log c.load.new.self c.load.ensures.goes_on up

-- Each fault of a log is told as what it is to a shelf.
pub returns-in-Err-clause-why : goal.returns-in-Err-clause-why
returns-in-Err-clause-why g c up has =
    let old = c.args.self.now.log in
    let new = c.load.new.self in
    let digest = c.digest.result.now in
    let some : first_under digest old.places ≢ None = λ none.
    let told : Err c.in-Err.refused ≡ Ok None = c.in-Err.ensures.none.1 none in
    absurd cc in
    let why = load_why g.B.Disk old new digest c.in-Err.refused c.in-Err.ensures.only c.in-Err.ensures.disk
    (λ is. c.in-Err.ensures.closed (ap Err is))
    (λ at is clean. (some, λ op it. c.in-Err.ensures.damaged clean op it.lawful it.own it.held at (ap Err is))) in
    subst (λ (d : List ℕ). LogRefusesLoad g.B.Disk old new d c.fault.result) c.digest.ensures
    (subst (λ (told : ShelfFault). LogRefusesLoad g.B.Disk old new digest told) (sym c.fault.ensures) why)
