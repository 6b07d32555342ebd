use Rattle.std.proofs.Common.{Err, List, ℕ, ap, subst, sym, ◌∙◌}
use Rattle.std.proofs.lemmas.Result.{IfErr-weaker, IfOk-weaker, on_err_weaker, on_ok_weaker}
use Rattle.operation.specs.declared.op.Op.{Op}
use Rattle.op_log.specs.Heads.{Head}
use Rattle.op_log.specs.Recorded.{IsRecordedAs}
use Rattle.shelved_site.specs.declared.unreadable.Unreadable.{Unreadable}
use Rattle.shelved_site.specs.Keeping.{Holds}
use Rattle.shelved_site.specs.Readable.{AreParts, IsAny}
use Rattle.shelved_site.proofs.Logs.{same_of, was_up}
use Rattle.shelved_site.proofs.Parted.{recorded_parts}
use Rattle.shelved_site.proofs.Stays.{has_twice, looked, same_self, same_twice}
use Rattle.shelved_site.proofs.Whys.{unshown_since}
use Rattle.shelved_site.proofs.keeping.KeptLog.readable_with.Goals as goal

-- Each record was told or read, and nothing is amiss.
pub returns-in-Ok-clause-read : goal.returns-in-Ok-clause-read
returns-in-Ok-clause-read g c up =
    let old = c.args.self.now.log in
    let file = g.B.Disk.seen old.bodies in
    let told = c.args.told.now in
    let parts = recorded_parts file told old.places c.in-Ok.recorded.items (c.in-Ok.ensures.all up.bodies) in
    subst (λ (rs : List Op). AreParts (IsRecordedAs file told) IsAny old.places c.whole.result.unreadable.items rs)
    (sym c.whole.ensures.recorded)
    (subst (λ (unread : List Unreadable). AreParts (IsRecordedAs file told) IsAny old.places unread c.in-Ok.recorded.items)
    (sym c.whole.ensures.none) parts)

-- The log was only looked at.
pub returns-in-Ok-clause-same : goal.returns-in-Ok-clause-same
returns-in-Ok-clause-same g c up =
    looked g.H.Disk g.B.Disk c.args.self.now.log c.records_told.new.self c.records_told.ensures.goes_on up c.records_told.ensures.looks

-- A look that is refused leaves all heads in memory.
pub returns-in-Err-Closed-clause-refused : goal.returns-in-Err-Closed-clause-refused
returns-in-Err-Closed-clause-refused g c up =
    same_of g.H.Disk g.B.Disk c.args.self.now.log c.records_told.new.self c.records_told.ensures.goes_on up c.records_told.ensures.looks.places

-- It was closed, as it was.
pub returns-in-Err-Closed-clause-why : goal.returns-in-Err-Closed-clause-why
returns-in-Err-Closed-clause-why g c up =
    let old = c.args.self.now.log in
    (old, same_self g.B.Disk old, c.records_told.ensures.closed (c.in-Err-Closed.is ∙ ap Err c.in-Err-Closed.field-0-is))

-- A look that is refused leaves all heads in memory.
pub returns-in-Err-Memory-clause-refused : goal.returns-in-Err-Memory-clause-refused
returns-in-Err-Memory-clause-refused g c up =
    same_of g.H.Disk g.B.Disk c.args.self.now.log c.records_told.new.self c.records_told.ensures.goes_on up c.records_told.ensures.looks.places

-- Where a data set could not be read, each was read once more, of a log that was only looked at.
pub returns-in-Err : goal.returns-in-Err
returns-in-Err g c =
    let gh = g.H.Disk in
    let gb = g.B.Disk in
    let old = c.args.self.now.log in
    let mid = c.records_told.new.self in
    let new = c.read_all.new.self.log in
    let told = c.args.told.now in
    let goes = c.records_told.ensures.goes_on in
    let looks = c.records_told.ensures.looks in
    let seen = c.records_told.ensures.seen in
    record {
      read = λ up. IfOk-weaker c.read_all.result _ _
          (λ found parts. subst (λ (heads : List Head).
          AreParts (IsRecordedAs (gb.seen old.bodies) told) IsAny heads found.unreadable.items found.recorded.items) looks.places
          (subst (λ (file : List ℕ). AreParts (IsRecordedAs file told) IsAny mid.places found.unreadable.items found.recorded.items)
          seen parts))
          (c.read_all.ensures.read up);
      same = λ up. on_ok_weaker c.read_all.result
          (λ same. same_twice gb old mid new (looked gh gb old mid goes (c.read_all.ensures.clean up) looks) same)
          (c.read_all.ensures.same up);
      seen = c.read_all.ensures.seen ∙ seen;
      refused = λ up. on_err_weaker c.read_all.result
          (λ same. has_twice (Holds gb old) (Holds gb mid) (Holds gb new)
          (same_of gh gb old mid goes (c.read_all.ensures.clean up) looks.places) same)
          (c.read_all.ensures.refused up);
      why = λ up. IfErr-weaker c.read_all.result _ _
          (λ fault why. unshown_since gb old mid fault (looked gh gb old mid goes (c.read_all.ensures.clean up) looks) why)
          c.read_all.ensures.why;
      clean = λ up. was_up gh gb old mid goes (c.read_all.ensures.clean up);
    }
