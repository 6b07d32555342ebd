use Rattle.std.proofs.Common.{rules, ◌≡◌, ◌+◌, ◌++◌, List, ℕ, Ok, None, true, arith, subst, sym}
use Rattle.sqlite_disk.specs.Disk.{Holds}
use Rattle.head_log.specs.Groups.{sum_of}
use Rattle.head_log.proofs.Texts.{said, made, summed}
use Rattle.head_log.proofs.reading.group_at.Goals as goal

-- A group that stands there has a lawful size, and there is room for it.
pub returns-then-not-is_lawful-clause-damaged : goal.returns-then-not-is_lawful-clause-damaged
returns-then-not-is_lawful-clause-damaged g c told clean group low it =
    let file = g.D.Disk.seen c.args.disk.now in
    let gate = c.args.gate.now in
    let size = (rw c.in-Some.is at c.in_ok-size.ensures.size) clean in
    let fits = rw c.in-Some.is at c.in_ok-size.ensures.fits in
    let many = said file gate.at c.in-Some.size gate.prior group fits it.short it.text size in
    let yes : c.is_lawful.result ≡ true =
    c.is_lawful.ensures.1 (omega (arith, many, it.some), omega (arith, many, it.short), omega (arith, many, low)) in
    let no = c.if-not-is_lawful.true in
    absurd cc

-- And it has its sum.
pub returns-in_default-2-clause-damaged : goal.returns-in_default-2-clause-damaged
returns-in_default-2-clause-damaged g c told clean group low it =
    let file = g.D.Disk.seen c.args.disk.now in
    let gate = c.args.gate.now in
    let was = c.tested_at.ensures.same.clean clean in
    let size = (rw c.in-Some.is at c.in_ok-size.ensures.size) was in
    let fits = rw c.in-Some.is at c.in_ok-size.ensures.fits in
    let many = said file gate.at c.in-Some.size gate.prior group fits it.short it.text size in
    let none : c.tested_at.result ≡ Ok None = search rules in
    let there = subst (λ (f : List ℕ). Holds f (gate.at + 16) (sum_of gate.prior group ++ group))
    (sym c.size_at.ensures.same.seen)
    (summed file gate.at gate.prior group it.text) in
    c.tested_at.ensures.other none clean group many there

-- Gate, length and sum are those of the bytes that were read.
pub returns-clause-group : goal.returns-clause-group
returns-clause-group g c clean =
    let file = g.D.Disk.seen c.args.disk.now in
    let gate = c.args.gate.now in
    let group = c.in-Some-2.found.group.items in
    let was = c.tested_at.ensures.same.clean clean in
    let gate_is = (rw c.in-Some.is at c.in_ok-size.ensures.not_shut) was in
    let size = (rw c.in-Some.is at c.in_ok-size.ensures.size) was in
    let held = (rw c.in-Some-2.is at c.in_ok-found.ensures.held) clean in
    let many = rw c.in-Some-2.is at c.in_ok-found.ensures.size in
    let lawful = c.is_lawful.ensures.0 c.if-not-is_lawful.false in
    let rest = subst (λ (f : List ℕ). Holds f (gate.at + 16) (sum_of gate.prior group ++ group))
    c.size_at.ensures.same.seen held in
    record {
      not_shut = gate_is;
      text = made file gate.at c.in-Some.size gate.prior group many size rest;
      some = omega (arith, lawful.0, many);
      short = omega (arith, lawful.1, many);
    }
