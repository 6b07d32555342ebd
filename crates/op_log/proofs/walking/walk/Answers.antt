use Rattle.std.proofs.Common.{rules, Err, [], ◌<◌, ◌≡◌, List, ℕ, map, refl, subst, sym, ap, ◌∙◌, arith}
use Rattle.std.proofs.lemmas.List.Elements.{All-nil, All-same}
use Rattle.head_log.specs.declared.gate.Gate.{Gate}
use Rattle.head_log.specs.Groups.{IsGroupAt, first_gate, gate_after}
use Rattle.head_log.specs.Log.{disk_of, gate_of}
use Rattle.head_log.specs.declared.fault.HeadFault.TheVariants.{Damaged}
use Rattle.head_log.proofs.Walking.{one_group as one_text}
use Rattle.op_log.specs.Heads.{Head, group_text}
use Rattle.op_log.specs.Kept.{IsBelow}
use Rattle.op_log.specs.Walking.{AreLaid}
use Rattle.op_log.specs.declared.fault.LogFault.TheVariants.{DamagedHeads}
use Rattle.op_log.specs.Fault.{fault_of_heads}
use Rattle.op_log.proofs.Faults.{damaged_is, told_is}
use Rattle.op_log.proofs.Fitting.{fit_all}
use Rattle.op_log.proofs.Settling.{with_each}
use Rattle.op_log.proofs.Walks.{gate_is, looks_twice, next_in, reach_on, walked_more}
use Rattle.op_log.proofs.walking.walk.Goals as goal

-- What lies here of a file of heads that fit is a group of them.
pub returns-in_err-found-clause-damaged : goal.returns-in_err-found-clause-damaged
returns-in_err-found-clause-damaged g c n told clean them all =
    let file = g.H.Disk.seen (disk_of c.args.heads.now) in
    let end = gate_of c.args.heads.now in
    let looks = c.groups.invariant.looks in
    let same = ap (λ (gate : Gate). gate.at) looks.same in
    let fault = c.in_err-found.field-0.0 in
    let it = damaged_is fault n (told_is c.from_residual.result (fault_of_heads fault) (DamagedHeads n) c.from_residual.ensures.1 told) in
    let place = c.in_err-found.ensures.place n (ap Err it) in
    let low : c.groups.gate.at < end.at = omega (arith, place.1, same) in
    let next = next_in file c.groups.gate c.args.end end c.groups.places them
    (c.groups.invariant.laid (c.group.ensures.same.disk.clean clean)) all low in
    c.in_err-found.ensures.damaged (ap Err (it ∙ ap Damaged place.0)) clean (group_text next.heads) (omega (arith, next.within, same))
    (subst (λ (f : List ℕ). IsGroupAt f c.groups.gate (group_text next.heads)) (sym looks.disk.seen) next.here)

-- What was read of it is that group, whose heads fit: so none is found that does not.
pub returns-in_err-fill-clause-damaged : goal.returns-in_err-fill-clause-damaged
returns-in_err-fill-clause-damaged g c n told clean them all =
    let file = g.H.Disk.seen (disk_of c.args.heads.now) in
    let end = gate_of c.args.heads.now in
    let looks = c.groups.invariant.looks in
    let same = ap (λ (gate : Gate). gate.at) looks.same in
    let low : c.groups.gate.at < end.at = omega (arith, c.groups-test.true, c.end.ensures, same) in
    let next = next_in file c.groups.gate c.args.end end c.groups.places them
    (c.groups.invariant.laid (c.group.ensures.same.disk.clean clean)) all low in
    let here = (rw c.in-Some.is at c.in_ok-found.ensures.group) clean in
    let mine = subst (λ (f : List ℕ). IsGroupAt f c.groups.gate c.in-Some.found.group.items) looks.disk.seen here in
    let text = one_text file c.groups.gate c.in-Some.found.group.items (group_text next.heads) mine next.here in
    c.fill.ensures.damaged n (search rules) next.heads next.fit (c.deref.ensures.value ∙ text)

-- One group more was walked.
pub groups-preserved : goal.groups-preserved
groups-preserved g c =
    let file = g.H.Disk.seen (disk_of c.args.heads.now) in
    let looks = c.groups.invariant.looks in
    let same = ap (λ (gate : Gate). gate.at) looks.same in
    let taken = c.in_ok-fill.ensures.taken in
    let next = rw c.in-Some.is at c.in_ok-found.ensures.next in
    let before = rw c.in-Some.is at c.in_ok-found.ensures.before in
    record {
      looks = looks_twice g.H.Disk c.args.heads.now c.groups.heads c.group.new.self looks c.group.ensures.same;
      below = All-same (IsBelow c.args.end) c.fill.new.places _ taken.new_is
          (with_each (IsBelow c.args.end) c.groups.places taken.heads c.groups.invariant.below
          (fit_all (IsBelow c.args.end) c.args.end c.groups.places taken.heads (λ h hs it. it.below) taken.fit));
      within = omega (arith, before, same);
      calm = λ reach.
          c.in_ok-found.ensures.disk (reach_on g.H.Disk c.args.heads.now c.groups.heads looks reach) ∙ c.groups.invariant.calm reach;
      laid = λ clean.
          let here = (rw c.in-Some.is at c.in_ok-found.ensures.group) clean in
          let mine = subst (λ (f : List ℕ). IsGroupAt f c.groups.gate c.in-Some.found.group.items) looks.disk.seen here in
          walked_more file c.groups.gate c.args.end c.in-Some.found.next c.groups.places c.fill.new.places c.deref.result.now
          (c.groups.invariant.laid (c.group.ensures.same.disk.clean clean))
          (subst (λ (text : List ℕ). IsGroupAt file c.groups.gate text) (sym c.deref.ensures.value) mine)
          (next ∙ ap (gate_after c.groups.gate) (sym c.deref.ensures.value)) taken;
    }

-- At first none was walked.
pub groups-init : goal.groups-init
groups-init g c =
    let file = g.H.Disk.seen (disk_of c.args.heads.now) in
    let front = c.first-gate.ensures in
    let none = c.new-places.ensures in
    record {
      looks = record {
        disk = record { seen = refl; clean = λ h. h; usable = refl; crash = λ left may. may };
        same = refl;
        stays = refl;
      };
      below = All-same (IsBelow c.args.end) c.new-places.result [] none (All-nil (IsBelow c.args.end));
      within = let place = ap (λ (gate : Gate). gate.at) front in omega (arith, place);
      calm = λ reach. refl;
      laid = λ clean.
          subst (λ (gate : Gate). AreLaid file gate c.args.end c.new-places.result) (sym front)
          (subst (λ (hs : List Head). AreLaid file first_gate c.args.end hs) (sym none)
          (record { groups = []; are = refl; laid = refl; fit = tt }));
    }

-- The walk stops where the groups end.
pub returns-clause-laid : goal.returns-clause-laid
returns-clause-laid g c clean ends =
    let file = g.H.Disk.seen (disk_of c.args.heads.now) in
    let end = gate_of c.args.heads.now in
    let looks = c.groups.invariant.looks in
    let same = ap (λ (gate : Gate). gate.at) looks.same in
    let laid = c.groups.invariant.laid clean in
    let place : c.groups.gate.at ≡ end.at =
    omega (arith, c.groups-test.false, c.end.ensures, same, c.groups.invariant.within) in
    subst (λ (gate : Gate). AreLaid file gate c.args.end c.groups.places)
    (gate_is file c.groups.gate end (map group_text laid.groups) laid.laid ends place) laid
