use Rattle.std.proofs.Common.{Err, ap, sym, subst}
use Rattle.op_shelf.specs.declared.fault.ShelfFault.{ShelfFault}
use Rattle.shelved_site.specs.Refusing.{LogRefusesAll}
use Rattle.shelved_site.proofs.Whys.{log_why}
use Rattle.shelved_site.proofs.log_store.KeptLogStore.verify.Goals as goal

-- Each fault of a log is told as what it is to a shelf.
pub returns-in-Err-clause-why : goal.returns-in-Err-clause-why
returns-in-Err-clause-why g c up =
    let old = c.args.self.now.log in
    let new = c.test_all.new.log in
    let why = log_why g.B.Disk old new c.in-Err.refused c.in-Err.ensures.only (λ is. absurd (c.in-Err.ensures.disk (ap Err is)))
    (λ is. c.in-Err.ensures.closed (ap Err is)) (λ at is. absurd (c.in-Err.ensures.whole at (ap Err is))) in
    subst (λ (told : ShelfFault). LogRefusesAll g.B.Disk old new told) (sym c.fault.ensures) why
