use Rattle.std.proofs.Common.{Err, ap, subst, sym}
use Rattle.op_shelf.specs.declared.fault.ShelfFault.{ShelfFault}
use Rattle.op_log.specs.Readable.{IsAmiss}
use Rattle.op_log.specs.Recorded.{IsRecordedAs}
use Rattle.shelved_site.specs.Proved.Logs.{any_parts}
use Rattle.shelved_site.specs.Refusing.{LogIsUnshown}
use Rattle.shelved_site.proofs.Logs.{same_of}
use Rattle.shelved_site.proofs.Stays.{looked, same_self}
use Rattle.shelved_site.proofs.Whys.{unshown_why}
use Rattle.shelved_site.proofs.keeping.KeptLog.read_all.Goals as goal

-- Each record was told or read, whatever is amiss with the rest.
pub returns-in-Ok-clause-read : goal.returns-in-Ok-clause-read
returns-in-Ok-clause-read g c up =
    let gb = g.B.Disk in
    let old = c.args.self.now.log in
    let new = c.read_log.new.log in
    any_parts (IsRecordedAs (gb.seen old.bodies) c.args.told.now)
    (IsAmiss (gb.seen old.bodies) (gb.faults old.bodies) (gb.faults new.bodies)) old.places c.in-Ok.found.unreadable.items
    c.in-Ok.found.recorded.items (c.in-Ok.ensures.read up.bodies)

-- The log was only looked at.
pub returns-in-Ok-clause-same : goal.returns-in-Ok-clause-same
returns-in-Ok-clause-same g c up =
    looked g.H.Disk g.B.Disk c.args.self.now.log c.read_log.new.log c.read_log.ensures.goes_on up c.read_log.ensures.looks

-- A look that is refused leaves all heads in memory.
pub returns-in-Err-clause-refused : goal.returns-in-Err-clause-refused
returns-in-Err-clause-refused g c up =
    same_of g.H.Disk g.B.Disk c.args.self.now.log c.read_log.new.log c.read_log.ensures.goes_on up c.read_log.ensures.looks.places

-- It was closed, or memory was refused.
pub returns-in-Err-clause-why : goal.returns-in-Err-clause-why
returns-in-Err-clause-why g c =
    let old = c.args.self.now.log in
    subst (λ (told : ShelfFault). LogIsUnshown g.B.Disk old told) (sym c.fault.ensures)
    (unshown_why g.B.Disk old old c.in-Err.refused c.in-Err.ensures.only (same_self g.B.Disk old)
    (λ is. c.in-Err.ensures.closed (ap Err is)))
