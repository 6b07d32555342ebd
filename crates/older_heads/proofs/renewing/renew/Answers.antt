use Rattle.std.proofs.Common.{◌<◌, ◌++◌, ◌∷◌, [], Err, List, ℕ, length, subst, sym, ap, ◌∙◌, arith}
use Rattle.head_log.specs.declared.fault.HeadFault.TheVariants.{Damaged}
use Rattle.head_log.specs.Groups.{IsReady, Ready}
use Rattle.head_log.specs.Log.{disk_of as new_disk, gate_of}
use Rattle.older_heads.specs.Groups.{IsGroupAt}
use Rattle.older_heads.specs.Log.{disk_of, end_of}
use Rattle.older_heads.proofs.Copying.{AreBehind, group_here, looks_twice, none_behind, one_behind, fault_in}
use Rattle.older_heads.proofs.renewing.renew.Goals as goal

-- A group stands here of whatever groups lie in the file.
pub returns-in-Err-clause-damaged : goal.returns-in-Err-clause-damaged
returns-in-Err-clause-damaged g c n told clean groups laid =
    let file = g.O.Disk.seen (disk_of c.args.older.now) in
    let end = end_of c.args.older.now in
    let looks = c.groups.invariant.looks in
    let it = ap fault_in told in
    let place = c.in-Err.ensures.place n (ap Err it) in
    let low : c.groups.at < end = omega (arith, place.1, looks.same) in
    let was = c.groups.invariant.copied (c.group.ensures.same.disk.clean clean) groups laid in
    let here = group_here file c.groups.at end groups was.0 was.1 low in
    c.in-Err.ensures.damaged (ap Err (it ∙ ap Damaged place.0)) clean here.group
    (omega (arith, here.within, looks.same))
    (subst (λ (f : List ℕ). IsGroupAt f c.groups.at here.group) (sym looks.disk.seen) here.stands)

-- One group more was copied.
pub groups-preserved : goal.groups-preserved
groups-preserved g c =
    let file = g.O.Disk.seen (disk_of c.args.older.now) in
    let end = end_of c.args.older.now in
    let was = c.groups.invariant in
    let looks = was.looks in
    let group = c.in-Some.group.items in
    let next = rw c.in-Some.is at c.in-Ok.ensures.next in
    let low : c.groups.at < end = omega (arith, c.groups-test.true, c.end.ensures, looks.same) in
    let many = ap length looks.disk.seen in
    record {
      looks = looks_twice g.O.Disk c.args.older.now c.groups.older c.group.new.self looks c.group.ensures.same;
      calm = λ reach.
          c.in-Ok.ensures.disk (λ clean. omega (arith, looks.same, many, reach (looks.disk.clean clean)))
          ∙ was.calm reach;
      still = c.in_default-add.ensures.disk ∙ was.still;
      clean = λ h. was.clean (c.add.ensures.clean h);
      up = λ before. c.in_default-add.ensures.up;
      within = omega (arith, next.1, looks.same);
      copied = λ clean groups laid.
          let front = was.copied (c.group.ensures.same.disk.clean clean) groups laid in
          let more = front.0 ++ group ∷ [] in
          let here = (rw c.in-Some.is at c.in-Ok.ensures.group) clean in
          let mine = subst (λ (f : List ℕ). IsGroupAt f c.groups.at group) looks.disk.seen here in
          let behind = one_behind file c.groups.at end groups front.0 group front.1 low mine in (
            more,
            subst (λ (n : ℕ). AreBehind file n end groups more) (sym next.0) behind,
            λ ready.
                subst (λ (text : List ℕ). IsReady g.N.Disk (new_disk c.add.new.self) (gate_of c.add.new.self)
                (front.0 ++ text ∷ []))
                c.deref.ensures.value (c.in_default-add.ensures.added front.0 (front.2 ready)),
          );
    }

-- At the end no group is left.
pub returns-clause-all : goal.returns-clause-all
returns-clause-all g c clean groups laid ready left may =
    let file = g.O.Disk.seen (disk_of c.args.older.now) in
    let end = end_of c.args.older.now in
    let looks = c.groups.invariant.looks in
    let was = c.groups.invariant.copied clean groups laid in
    let same = none_behind file c.groups.at end groups was.0 was.1
    (omega (arith, c.groups-test.false, c.end.ensures, looks.same)) in
    subst (λ (gs : List (List ℕ)). Ready left (gate_of c.groups.log) gs) same (was.2 ready left may)
