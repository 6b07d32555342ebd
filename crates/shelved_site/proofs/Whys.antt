-- Why a log refuses, from what is told of each fault.
use Rattle.std.proofs.Common.{◌≡◌, ℕ, List, refl, false}
use Rattle.std.specs.Prelude.{◌⊎◌}
use Rattle.sqlite_disk.specs.declared.Disk.{Ghosts}
use Rattle.sqlite_disk.specs.Disk.{MoreFaults}
use Rattle.operation.specs.declared.op.Op.{Op}
use Rattle.op_log.specs.declared.fault.LogFault.{LogFault}
use Rattle.op_log.specs.declared.fault.LogFault.TheVariants as of_log
use Rattle.op_log.specs.Fault.{IsOfLook, IsOfPut, IsOfSorting}
use Rattle.op_log.specs.Loaded.{HasBadHead}
use Rattle.op_log.specs.Log.{IsTooLong, Opened}
use Rattle.op_log.specs.Puts.{ComesToClash}
use Rattle.op_shelf.specs.declared.fault.ShelfFault.{ShelfFault}
use Rattle.op_shelf.specs.declared.fault.ShelfFault.TheVariants.{Store, BadRow, Memory}
use Rattle.op_shelf.specs.declared.fault.StoreCause.TheVariants as cause
use Rattle.shelved_site.specs.Refusing.{LogIsUnshown, LogRefusesAll, LogRefusesGroup, LogRefusesLoad}
use Rattle.shelved_site.specs.Stores.{IsSame}
use Rattle.shelved_site.specs.Telling.{fault_of}
use Rattle.shelved_site.proofs.Stays.{same_twice}

-- what a look tells of a log, in a shelf's words
pub log_why : {H B : Type 0} (g : Ghosts B) (old new : Opened H B) (f : LogFault) → IsOfLook f
    → (f ≡ of_log.Disk → MoreFaults (g.faults old.bodies) (g.faults new.bodies))
    → (f ≡ of_log.Closed → g.is_usable old.bodies ≡ false)
    → ((at : ℕ) → f ≡ of_log.DamagedBody at → HasBadHead (g.seen old.bodies) old.places at)
    → LogRefusesAll g old new (fault_of f)
log_why g old new of_log.Disk look disk closed bad = disk refl
log_why g old new of_log.Closed look disk closed bad = closed refl
log_why g old new of_log.TooLong look disk closed bad = absurd look
log_why g old new (of_log.DamagedHeads at) look disk closed bad = absurd look
log_why g old new (of_log.DamagedBody at) look disk closed bad = (at, bad at refl)
log_why g old new of_log.Collision look disk closed bad = absurd look
log_why g old new of_log.Memory look disk closed bad = tt

-- what a put tells of a log, in a shelf's words
pub group_why : {H B : Type 0} (gh : Ghosts H) (gb : Ghosts B) (old new : Opened H B) (ops : List Op) (f : LogFault)
    → IsOfPut f → (f ≡ of_log.Closed → old.is_open ≡ false) → (f ≡ of_log.TooLong → IsTooLong old ops)
    → (f ≡ of_log.Disk → MoreFaults (gh.faults old.heads) (gh.faults new.heads)
    ⊎ MoreFaults (gb.faults old.bodies) (gb.faults new.bodies))
    → (f ≡ of_log.Collision → ComesToClash gb new.bodies new.bodies_end old.places ops)
    → LogRefusesGroup gh gb old new ops (fault_of f)
group_why gh gb old new ops of_log.Disk put closed long disk clash = disk refl
group_why gh gb old new ops of_log.Closed put closed long disk clash = closed refl
group_why gh gb old new ops of_log.TooLong put closed long disk clash = λ up. long refl
group_why gh gb old new ops (of_log.DamagedHeads at) put closed long disk clash = absurd put
group_why gh gb old new ops (of_log.DamagedBody at) put closed long disk clash = absurd put
group_why gh gb old new ops of_log.Collision put closed long disk clash = clash refl
group_why gh gb old new ops of_log.Memory put closed long disk clash = tt

-- what a load tells of a log, in a shelf's words
pub load_why : {H B : Type 0} (g : Ghosts B) (old new : Opened H B) (digest : List ℕ) (f : LogFault) → IsOfLook f
    → (f ≡ of_log.Disk → MoreFaults (g.faults old.bodies) (g.faults new.bodies))
    → (f ≡ of_log.Closed → g.is_usable old.bodies ≡ false)
    → ((at : ℕ) → f ≡ of_log.DamagedBody at → LogRefusesLoad g old new digest BadRow)
    → LogRefusesLoad g old new digest (fault_of f)
load_why g old new digest of_log.Disk look disk closed bad = disk refl
load_why g old new digest of_log.Closed look disk closed bad = closed refl
load_why g old new digest of_log.TooLong look disk closed bad = absurd look
load_why g old new digest (of_log.DamagedHeads at) look disk closed bad = absurd look
load_why g old new digest (of_log.DamagedBody at) look disk closed bad = bad at refl
load_why g old new digest of_log.Collision look disk closed bad = absurd look
load_why g old new digest of_log.Memory look disk closed bad = tt

-- what a call tells that lists what can't be read
pub sorting_why : {H B : Type 0} (g : Ghosts B) (old new : Opened H B) (f : LogFault) → IsOfSorting f
    → (f ≡ of_log.Closed → g.is_usable old.bodies ≡ false) → LogRefusesAll g old new (fault_of f)
sorting_why g old new of_log.Disk sorts closed = absurd sorts
sorting_why g old new of_log.Closed sorts closed = closed refl
sorting_why g old new of_log.TooLong sorts closed = absurd sorts
sorting_why g old new (of_log.DamagedHeads at) sorts closed = absurd sorts
sorting_why g old new (of_log.DamagedBody at) sorts closed = absurd sorts
sorting_why g old new of_log.Collision sorts closed = absurd sorts
sorting_why g old new of_log.Memory sorts closed = tt

-- the same of a log that is as it was
pub unshown_why : {H B : Type 0} (g : Ghosts B) (old before : Opened H B) (f : LogFault) → IsOfSorting f
    → IsSame g old before → (f ≡ of_log.Closed → g.is_usable before.bodies ≡ false) → LogIsUnshown g old (fault_of f)
unshown_why g old before of_log.Disk sorts same closed = absurd sorts
unshown_why g old before of_log.Closed sorts same closed = (before, same, closed refl)
unshown_why g old before of_log.TooLong sorts same closed = absurd sorts
unshown_why g old before (of_log.DamagedHeads at) sorts same closed = absurd sorts
unshown_why g old before (of_log.DamagedBody at) sorts same closed = absurd sorts
unshown_why g old before of_log.Collision sorts same closed = absurd sorts
unshown_why g old before of_log.Memory sorts same closed = tt

-- it tells of no bad row
pub no_bad_row : (f : LogFault) → IsOfSorting f → ¬ (fault_of f ≡ BadRow)
no_bad_row of_log.Disk sorts is = sorts
no_bad_row of_log.Closed sorts is = absurd cc
no_bad_row of_log.TooLong sorts is = sorts
no_bad_row (of_log.DamagedHeads at) sorts is = sorts
no_bad_row (of_log.DamagedBody at) sorts is = sorts
no_bad_row of_log.Collision sorts is = sorts
no_bad_row of_log.Memory sorts is = absurd cc

-- what did not show what can be read, and was the same as before, did not then
pub unshown_since : {H B : Type 0} (g : Ghosts B) (old mid : Opened H B) (fault : ShelfFault) → IsSame g old mid
    → LogIsUnshown g mid fault → LogIsUnshown g old fault
unshown_since g old mid (Store cause.Closed) same (before, is, closed) =
    (before, same_twice g old mid before same is, closed)
unshown_since g old mid (Store cause.Failed) same why = absurd why
unshown_since g old mid (Store cause.Full) same why = absurd why
unshown_since g old mid (Store cause.Damaged) same why = absurd why
unshown_since g old mid (Store cause.Other) same why = absurd why
unshown_since g old mid BadRow same why = absurd why
unshown_since g old mid Memory same why = tt
