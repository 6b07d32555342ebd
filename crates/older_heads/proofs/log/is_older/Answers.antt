use Rattle.std.proofs.Common.{◌≡◌, ◌<◌, List, ℕ, length, subst, sym, ◌∙◌, rules, arith}
use Rattle.sqlite_disk.specs.Disk.{Holds}
use Rattle.older_heads.proofs.Telling.{begins_so, none_if_short}
use Rattle.older_heads.proofs.log.is_older.Goals as goal

-- It is too short.
pub returns-then-branch-le8-clause-exact : goal.returns-then-branch-le8-clause-exact
returns-then-branch-le8-clause-exact g c clean =
    let file = g.D.Disk.seen c.args.disk.now in
    let many = c.in_ok-len.ensures.len clean in
    sym (none_if_short file (omega (arith, many, c.if-branch-le8.true)))

-- Its first eight bytes were read.
pub returns-clause-exact : goal.returns-clause-exact
returns-clause-exact g c clean =
    let file = g.D.Disk.seen c.args.disk.now in
    let front = c.read_at.new.buf in
    let wide : length front ≡ 8 = search rules in
    let many = c.in_ok-len.ensures.len (c.read_at.ensures.clean clean) in
    let long : 8 < length file = omega (arith, many, c.if-branch-le8.false) in
    let holds = subst (λ (f : List ℕ). Holds f 0 front) c.len.ensures.seen
    (c.in_ok-read_at.ensures.read clean (omega arith)) in
    c.begins_older.ensures ∙ sym (begins_so file front long wide holds)
