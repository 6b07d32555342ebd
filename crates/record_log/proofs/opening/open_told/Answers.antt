use Rattle.std.proofs.Common.{Err, Option, IsTrue, ap, sym, subst}
use Rattle.head_log.specs.declared.gate.Gate.{Gate}
use Rattle.head_log.specs.declared.log.HeadLog.{HeadLog}
use Rattle.head_log.specs.Log.{disk_of, gate_of}
use Rattle.record_log.specs.Entries.{AreKept}
use Rattle.record_log.specs.Log.{IsClean}
use Rattle.record_log.proofs.Keeping.{opened}
use Rattle.record_log.proofs.Starting.{kept_through, stands_not_cut, told_of}
use Rattle.record_log.proofs.opening.open_told.Goals as goal

-- A file that is cut stands for no contents.
pub returns-in-Err-clause-damaged : goal.returns-in-Err-clause-damaged
returns-in-Err-clause-damaged g c fault used clean cs stands =
    let (n, is) = c.not_read.ensures.damaged used in
    let cut = c.in-Err.ensures.damaged n is (c.not_read.ensures.clean used clean) in
    stands_not_cut (g.D.Disk.seen c.args.disk) cs n stands cut

-- The file was opened with what it stood for, and all of that is told.
pub returns-in-Ok-all_told-clause-told : goal.returns-in-Ok-all_told-clause-told
returns-in-Ok-all_told-clause-told g c fault clean cs stands =
    let disk = disk_of c.in-Ok.file in
    let end = gate_of c.in-Ok.file in
    let now = subst (λ (file : Option (HeadLog g.row.D.Denot)). IsClean g.D.Disk file) c.over-in-Ok-all_told.ensures.file clean in
    let found = c.in-Ok.ensures.found (c.all_told.ensures.same.disk.clean now) in
    let kept = opened g.D.Disk (g.D.Disk.seen c.args.disk) disk end cs found stands in
    c.in-Ok-all_told.ensures.told now cs (told_of g.D.Disk disk end cs kept (g.met.D.Disk.seen_may_stay disk))

-- It is kept, since it was only read.
pub returns-in-Ok-all_told-clause-kept : goal.returns-in-Ok-all_told-clause-kept
returns-in-Ok-all_told-clause-kept g c fault clean cs stands =
    let disk = disk_of c.in-Ok.file in
    let end = gate_of c.in-Ok.file in
    let next = c.all_told.new.log in
    let same = c.all_told.ensures.same in
    let now = subst (λ (file : Option (HeadLog g.row.D.Denot)). IsClean g.D.Disk file) c.over-in-Ok-all_told.ensures.file clean in
    let found = c.in-Ok.ensures.found (same.disk.clean now) in
    let kept = opened g.D.Disk (g.D.Disk.seen c.args.disk) disk end cs found stands in
    c.over-in-Ok-all_told.ensures.tells cs
    (subst (λ (gate : Gate). AreKept g.D.Disk (disk_of next) gate cs) (sym same.same)
    (kept_through g.D.Disk disk (disk_of next) end cs same.disk kept))

-- All that the file stood for would have been told.
pub returns-in-Err-all_told-clause-damaged : goal.returns-in-Err-all_told-clause-damaged
returns-in-Err-all_told-clause-damaged g c fault used clean cs stands =
    let disk = disk_of c.in-Ok.file in
    let end = gate_of c.in-Ok.file in
    let (n, is) = c.not_read-in-Err-all_told.ensures.damaged used in
    let now = subst (λ (d : g.row.D.Denot). IsTrue (g.D.Disk.is_clean d)) c.into_disk.ensures
    (c.not_read-in-Err-all_told.ensures.clean used clean) in
    let found = c.in-Ok.ensures.found (c.all_told.ensures.same.disk.clean now) in
    let kept = opened g.D.Disk (g.D.Disk.seen c.args.disk) disk end cs found stands in
    c.in-Err-all_told.ensures.damaged n (ap Err is) now cs
    (told_of g.D.Disk disk end cs kept (g.met.D.Disk.seen_may_stay disk))
