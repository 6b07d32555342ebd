use Rattle.std.proofs.Common.{Err, ap, sym, subst}
use Rattle.op_shelf.specs.declared.fault.ShelfFault.{ShelfFault}
use Rattle.shelved_site.specs.Refusing.{LogRefusesAll}
use Rattle.op_log.specs.Readable.{IsAmiss}
use Rattle.shelved_site.proofs.Listings.{read_heads}
use Rattle.shelved_site.proofs.Logs.{same_of, was_up}
use Rattle.shelved_site.proofs.Stays.{looked}
use Rattle.shelved_site.proofs.Whys.{no_bad_row, sorting_why}
use Rattle.shelved_site.proofs.log_store.KeptLogStore.readable.Goals as goal

-- What was read are the records of the operations that can be.
pub returns-in-Ok-clause-read : goal.returns-in-Ok-clause-read
returns-in-Ok-clause-read g c up =
    let gb = g.B.Disk in
    let old = c.args.self.now.log in
    let new = c.read_log.new.log in
    read_heads (gb.seen old.bodies) (IsAmiss (gb.seen old.bodies) (gb.faults old.bodies) (gb.faults new.bodies)) old.places
    c.in-Ok.found.unreadable.items c.in-Ok.found.recorded.items (c.in-Ok.ensures.read up.bodies)

-- The log was only looked at.
pub returns-in-Ok-clause-same : goal.returns-in-Ok-clause-same
returns-in-Ok-clause-same g c up =
    looked g.H.Disk g.B.Disk c.args.self.now.log c.read_log.new.log c.read_log.ensures.goes_on up c.read_log.ensures.looks

-- What is up was up.
pub returns-in-Ok-clause-clean : goal.returns-in-Ok-clause-clean
returns-in-Ok-clause-clean g c up =
    was_up g.H.Disk g.B.Disk c.args.self.now.log c.read_log.new.log c.read_log.ensures.goes_on up

-- A look that is refused leaves all heads in memory.
pub returns-in-Err-clause-refused : goal.returns-in-Err-clause-refused
returns-in-Err-clause-refused g c up =
    same_of g.H.Disk g.B.Disk c.args.self.now.log c.read_log.new.log c.read_log.ensures.goes_on up c.read_log.ensures.looks.places

-- The same of a look that is refused.
pub returns-in-Err-clause-clean : goal.returns-in-Err-clause-clean
returns-in-Err-clause-clean g c up =
    was_up g.H.Disk g.B.Disk c.args.self.now.log c.read_log.new.log c.read_log.ensures.goes_on up

-- Each fault of a log is told as what it is to a shelf.
pub returns-in-Err-clause-why : goal.returns-in-Err-clause-why
returns-in-Err-clause-why g c up =
    let old = c.args.self.now.log in
    let new = c.read_log.new.log in
    subst (λ (told : ShelfFault). LogRefusesAll g.B.Disk old new told) (sym c.fault.ensures)
    (sorting_why g.B.Disk old new c.in-Err.refused c.in-Err.ensures.only (λ is. c.in-Err.ensures.closed (ap Err is)))

-- None is told of a data set.
pub returns-in-Err-clause-row : goal.returns-in-Err-clause-row
returns-in-Err-clause-row g c bad = no_bad_row c.in-Err.refused c.in-Err.ensures.only cc
