use Rattle.std.proofs.Common.{◌≡◌, ◌+◌, ◌<◌, ◌≤◌, ◌++◌, Err, List, [], ℕ, length, refl, sym, ap, ◌∙◌, subst, arith}
use Rattle.sqlite_disk.specs.Disk.{MoreFaults}
use Rattle.head_log.specs.Groups.{IsGroupAt, first_gate}
use Rattle.head_log.specs.declared.gate.Gate.{Gate}
use Rattle.head_log.specs.Log.{disk_of, end_of, gate_of}
use Rattle.head_log.specs.declared.fault.HeadFault.TheVariants.{Damaged}
use Rattle.head_log.proofs.Opening.{reads_twice}
use Rattle.operation.specs.Parts.{ContentParts}
use Rattle.record_log.specs.Entries.{WereRead}
use Rattle.record_log.proofs.Walking.{AreBehind, HasEntriesTo, all_behind, counts_as, entries_all, entries_on, group_here, next_group, none_behind, told_is}
use Rattle.record_log.proofs.reading.all_told.Goals as goal

-- A group stands here of whatever contents the file tells.
pub returns-in_err-found-clause-damaged : goal.returns-in_err-found-clause-damaged
returns-in_err-found-clause-damaged g c n told clean cs all =
    let file = g.D.Disk.seen (disk_of c.args.log.now) in
    let end = gate_of c.args.log.now in
    let looks = c.groups.invariant.looks in
    let fault = c.in_err-found.field-0.0 in
    let it = told_is c.from_residual.result fault (Damaged n) c.from_residual.ensures.1 told in
    let place = c.in_err-found.ensures.place n (ap Err it) in
    let same = ap (λ (gate : Gate). gate.at) looks.same in
    let low : c.groups.gate.at < end.at = omega (arith, place.1, same) in
    let left = c.groups.invariant.left (c.group.ensures.same.disk.clean clean) cs all in
    let here = group_here file c.groups.gate end cs c.groups.told.items left low in
    let within : c.groups.gate.at + 48 + length here.group ≤ end_of c.groups.log = omega (arith, here.within, same) in
    c.in_err-found.ensures.damaged (ap Err (it ∙ ap Damaged place.0)) clean here.group within
    (subst (λ (f : List ℕ). IsGroupAt f c.groups.gate here.group) (sym looks.disk.seen) here.stands)

-- The count of failures stayed up to here.
pub returns-in_err-found-clause-disk : goal.returns-in_err-found-clause-disk
returns-in_err-found-clause-disk g c reach =
    let looks = c.groups.invariant.looks in
    let many = ap length looks.disk.seen in
    let same = ap (λ (gate : Gate). gate.at) looks.same in
    let old = g.D.Disk.faults (disk_of c.args.log.now) in
    let new = g.D.Disk.faults (disk_of c.group.new.self) in
    counts_as c.from_residual.result c.in_err-found.field-0.0 old new c.from_residual.ensures.1 λ told.
    subst (λ (n : ℕ). MoreFaults n new) (c.groups.invariant.calm reach)
    (c.in_err-found.ensures.disk (λ clean. omega (arith, same, many, reach (looks.disk.clean clean))) told)

-- What was read of it has the entries of contents.
pub returns-then-not-branch-clause-damaged : goal.returns-then-not-branch-clause-damaged
returns-then-not-branch-clause-damaged g c n told clean cs all =
    let file = g.D.Disk.seen (disk_of c.args.log.now) in
    let end = gate_of c.args.log.now in
    let looks = c.groups.invariant.looks in
    let place = ap (λ (gate : Gate). gate.at) looks.same in
    let low : c.groups.gate.at < end.at = omega (arith, c.groups-test.true, c.end.ensures, place) in
    let here = (rw c.in-Some.is at c.in_ok-found.ensures.group) clean in
    let mine = subst (λ (f : List ℕ). IsGroupAt f c.groups.gate c.in-Some.found.group.items) looks.disk.seen here in
    let next = next_group file c.in-Some.found.group.items c.groups.gate end cs c.groups.told.items
    (c.groups.invariant.left (c.group.ensures.same.disk.clean clean) cs all) low mine in
    let whole = c.in_ok-take_entries.ensures.whole next.first next.told (c.deref.ensures.value ∙ next.text) in
    let no = c.if-not-branch.true in
    absurd cc

-- One group more was read.
pub groups-preserved : goal.groups-preserved
groups-preserved g c =
    let file = g.D.Disk.seen (disk_of c.args.log.now) in
    let end = gate_of c.args.log.now in
    let looks = c.groups.invariant.looks in
    let same = c.group.ensures.same in
    let place = ap (λ (gate : Gate). gate.at) looks.same in
    let low : c.groups.gate.at < end.at = omega (arith, c.groups-test.true, c.end.ensures, place) in
    let next_is = rw c.in-Some.is at c.in_ok-found.ensures.next in
    let before = rw c.in-Some.is at c.in_ok-found.ensures.before in
    let many = ap length looks.disk.seen in
    record {
      looks = record {
        disk = reads_twice g.D.Disk (disk_of c.args.log.now) (disk_of c.groups.log) (disk_of c.group.new.self)
            looks.disk same.disk;
        same = same.same ∙ looks.same;
        stays = same.stays ∙ looks.stays;
      };
      within = omega (arith, before, place);
      calm = λ reach.
          c.in_ok-found.ensures.disk (λ clean. omega (arith, place, many, reach (looks.disk.clean clean)))
          ∙ c.groups.invariant.calm reach;
      entries = λ clean.
          let here = (rw c.in-Some.is at c.in_ok-found.ensures.group) clean in
          let mine = subst (λ (f : List ℕ). IsGroupAt f c.groups.gate c.in-Some.found.group.items) looks.disk.seen here in
          let old = c.groups.told.items in
          let new = c.take_entries.new.told.items in
          let read = subst (λ (text : List ℕ). WereRead text old new) c.deref.ensures.value
          (c.in_ok-take_entries.ensures.all c.if-not-branch.false) in
          subst (λ (gate : Gate). HasEntriesTo file gate (length new)) (sym next_is)
          (entries_on file c.in-Some.found.group.items c.groups.gate old new
          (c.groups.invariant.entries (same.disk.clean clean)) mine read);
      left = λ clean cs all.
          let here = (rw c.in-Some.is at c.in_ok-found.ensures.group) clean in
          let mine = subst (λ (f : List ℕ). IsGroupAt f c.groups.gate c.in-Some.found.group.items) looks.disk.seen here in
          let next = next_group file c.in-Some.found.group.items c.groups.gate end cs c.groups.told.items
          (c.groups.invariant.left (same.disk.clean clean) cs all) low mine in
          let told = c.in_ok-take_entries.ensures.told next.first next.told (c.deref.ensures.value ∙ next.text) in
          subst (λ (xs : List ContentParts). AreBehind file c.in-Some.found.next end cs xs) (sym told)
          (subst (λ (gate : Gate). AreBehind file gate end cs (c.groups.told.items ++ next.first)) (sym next_is) next.left);
    }

-- At first none was read, and all are left.
pub groups-init : goal.groups-init
groups-init g c =
    let file = g.D.Disk.seen (disk_of c.args.log.now) in
    let end = gate_of c.args.log.now in
    let none = c.new-told.ensures.items in
    let front = c.first-gate.ensures in
    record {
      looks = record {
        disk = record { seen = refl; clean = λ h. h; usable = refl; crash = λ left may. may };
        same = refl;
        stays = refl;
      };
      within = let place = ap (λ (gate : Gate). gate.at) front in omega (arith, place);
      calm = λ reach. refl;
      entries = λ clean.
          subst (λ (gate : Gate). HasEntriesTo file gate (length c.new-told.result.items)) (sym front)
          (record { groups = []; laid = refl; count_is = ap length none });
      left = λ clean cs all.
          subst (λ (gate : Gate). AreBehind file gate end cs c.new-told.result.items) (sym front)
          (subst (λ (xs : List ContentParts). AreBehind file first_gate end cs xs) (sym none) (all_behind file end cs all));
    }

-- The walk stops where the groups end.
pub returns-clause-all : goal.returns-clause-all
returns-clause-all g c clean =
    let file = g.D.Disk.seen (disk_of c.args.log.now) in
    let looks = c.groups.invariant.looks in
    let same = ap (λ (gate : Gate). gate.at) looks.same in
    let place : c.groups.gate.at ≡ end_of c.args.log.now =
    omega (arith, c.groups-test.false, c.end.ensures, same, c.groups.invariant.within) in
    entries_all file c.groups.gate (end_of c.args.log.now) (length c.groups.told.items)
    (c.groups.invariant.entries clean) place

-- At the end no group is left.
pub returns-clause-told : goal.returns-clause-told
returns-clause-told g c clean cs all =
    let file = g.D.Disk.seen (disk_of c.args.log.now) in
    let end = gate_of c.args.log.now in
    let looks = c.groups.invariant.looks in
    let place = ap (λ (gate : Gate). gate.at) looks.same in
    none_behind file c.groups.gate end cs c.groups.told.items (c.groups.invariant.left clean cs all)
    (omega (arith, c.groups-test.false, c.end.ensures, place))
