use Rattle.std.proofs.Common.{◌≡◌, ◌≢◌, Ok, Err, None, IsTrue, ap, sym, subst, ◌∙◌}
use Rattle.std.proofs.lemmas.List.{append-nil}
use Rattle.op_log.specs.Kept.{first_under}
use Rattle.op_shelf.specs.declared.fault.ShelfFault.{ShelfFault}
use Rattle.shelved_site.specs.Refusing.{LogRefusesLoad}
use Rattle.shelved_site.proofs.Loads.{exact, some_held}
use Rattle.shelved_site.proofs.Logs.{lasts_on, same_of, was_up}
use Rattle.shelved_site.proofs.Whys.{load_why}
use Rattle.shelved_site.proofs.keeping.KeptLogKeep.load.Goals as goal

-- What is found is had.
pub returns-in-Ok-clause-held : goal.returns-in-Ok-clause-held
returns-in-Ok-clause-held g c up =
    let log = c.args.self.now.log in
    some_held g.B.Disk log c.args.digest.now (IsTrue (g.B.Disk.is_clean c.load.new.self.bodies)) up.bodies c.in-Ok.found
    c.in-Ok.ensures.found

-- What is had under the digest is found.
pub returns-in-Ok-clause-exact : goal.returns-in-Ok-clause-exact
returns-in-Ok-clause-exact g c up =
    let log = c.args.self.now.log in
    exact g.B.Disk log c.args.digest.now (IsTrue (g.B.Disk.is_clean c.load.new.self.bodies)) up.bodies c.in-Ok.found
    (λ none. c.in-Ok.ensures.none.0 (ap Ok none)) c.in-Ok.ensures.told c.in-Ok.ensures.lawful c.in-Ok.ensures.found

-- What is up was up.
pub returns-in-Ok-clause-up : goal.returns-in-Ok-clause-up
returns-in-Ok-clause-up g c up =
    was_up g.H.Disk g.B.Disk c.args.self.now.log c.load.new.self c.load.ensures.goes_on up

-- The same of a load that is refused.
pub returns-in-Err-clause-up : goal.returns-in-Err-clause-up
returns-in-Err-clause-up g c up =
    was_up g.H.Disk g.B.Disk c.args.self.now.log c.load.new.self c.load.ensures.goes_on up

-- The log was only looked at.
pub returns-in-Ok-clause-same : goal.returns-in-Ok-clause-same
returns-in-Ok-clause-same g c up =
    same_of g.H.Disk g.B.Disk c.args.self.now.log c.load.new.self c.load.ensures.goes_on up c.load.ensures.looks.places

-- The same of a load that is refused.
pub returns-in-Err-clause-same : goal.returns-in-Err-clause-same
returns-in-Err-clause-same g c up =
    same_of g.H.Disk g.B.Disk c.args.self.now.log c.load.new.self c.load.ensures.goes_on up c.load.ensures.looks.places

-- What lasted lasts on.
pub returns-in-Ok-clause-kept : goal.returns-in-Ok-clause-kept
returns-in-Ok-clause-kept g c up other was =
    let old = c.args.self.now.log in
    lasts_on g.H.Disk g.B.Disk old c.load.new.self c.load.ensures.goes_on up _
    (c.load.ensures.looks.places ∙ sym (append-nil old.places)) other was

-- The same of a load that is refused.
pub returns-in-Err-clause-kept : goal.returns-in-Err-clause-kept
returns-in-Err-clause-kept g c up other was =
    let old = c.args.self.now.log in
    lasts_on g.H.Disk g.B.Disk old c.load.new.self c.load.ensures.goes_on up _
    (c.load.ensures.looks.places ∙ sym (append-nil old.places)) other was

-- Each fault of a log is told as what it is to a shelf.
pub returns-in-Err-clause-why : goal.returns-in-Err-clause-why
returns-in-Err-clause-why g c =
    let old = c.args.self.now.log in
    let new = c.load.new.self in
    let digest = c.args.digest.now in
    let some : first_under digest old.places ≢ None = λ none.
    let told : Err c.in-Err.unread ≡ Ok None = c.in-Err.ensures.none.1 none in
    absurd cc in
    let why = load_why g.B.Disk old new digest c.in-Err.unread c.in-Err.ensures.only c.in-Err.ensures.disk
    (λ is. c.in-Err.ensures.closed (ap Err is))
    (λ at is clean. (some, λ op it. c.in-Err.ensures.damaged clean op it.lawful it.own it.held at (ap Err is))) in
    subst (λ (told : ShelfFault). LogRefusesLoad g.B.Disk old new digest told) (sym c.fault.ensures) why
