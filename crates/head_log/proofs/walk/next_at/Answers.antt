use Rattle.std.proofs.Common.{◌+◌, List, ℕ, subst, sym, ◌∙◌, arith}
use Rattle.std.specs.Int.{w64, to_le_bytes}
use Rattle.sqlite_disk.specs.Disk.{Holds}
use Rattle.head_log.proofs.Gates.{one_size}
use Rattle.head_log.proofs.walk.next_at.Goals as goal

-- The gate is not shut, and the file has no room for the length behind it.
pub returns-then-size-len-clause-damaged : goal.returns-then-size-len-clause-damaged
returns-then-size-len-clause-damaged g c told clean =
    let file = g.D.Disk.seen c.args.disk.now in
    let was = c.number_at.ensures.same.clean clean in
    let many = c.requires.whole (c.is_shut_at.ensures.same.clean was) in
    let says = subst (λ (f : List ℕ). Holds f (c.args.at + 8) (to_le_bytes w64 c.in_ok-size.size))
    c.is_shut_at.ensures.same.seen
    (c.in_ok-size.ensures.number clean) in
    record {
      no_gate = λ low. sym (c.in_ok-is_shut_at.ensures.gate was) ∙ c.if-branch.false;
      no_group = λ next it.
          let same = one_size file (c.args.at + 8) it.size c.in_ok-size.size it.fits c.in_ok-size.ensures.fits
          it.length_is says in
          absurd (omega (arith, it.within, it.place, same, many, c.if-size-len.true));
    }
