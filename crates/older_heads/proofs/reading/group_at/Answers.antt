use Rattle.std.proofs.Common.{rules, ◌≡◌, ◌+◌, ◌++◌, List, ℕ, Ok, None, true, arith, subst, sym}
use Rattle.sha2.specs.Sha256.{sha256}
use Rattle.sqlite_disk.specs.Disk.{Holds}
use Rattle.older_heads.proofs.Texts.{said, made, summed}
use Rattle.older_heads.proofs.reading.group_at.Goals as goal

-- A group that stands there has a lawful size, and there is room for it.
pub returns-then-not-is_lawful-clause-damaged : goal.returns-then-not-is_lawful-clause-damaged
returns-then-not-is_lawful-clause-damaged g c told clean group low it =
    let file = g.D.Disk.seen c.args.disk.now in
    let both = (rw c.in-Some.is at c.in_ok-size.ensures.some) clean in
    let fits = rw c.in-Some.is at c.in_ok-size.ensures.fits in
    let many = said file c.args.at c.in-Some.size group fits it.short it.text both.1 in
    let yes : c.is_lawful.result ≡ true = c.is_lawful.ensures.1
    (omega (arith, many, it.some), omega (arith, many, it.short), omega (arith, many, low)) in
    let no = c.if-not-is_lawful.true in
    absurd cc

-- And it has its sum.
pub returns-in_default-2-clause-damaged : goal.returns-in_default-2-clause-damaged
returns-in_default-2-clause-damaged g c told clean group low it =
    let file = g.D.Disk.seen c.args.disk.now in
    let was = c.tested_at.ensures.same.clean clean in
    let both = (rw c.in-Some.is at c.in_ok-size.ensures.some) was in
    let fits = rw c.in-Some.is at c.in_ok-size.ensures.fits in
    let many = said file c.args.at c.in-Some.size group fits it.short it.text both.1 in
    let none : c.tested_at.result ≡ Ok None = search rules in
    let there = subst (λ (f : List ℕ). Holds f (c.args.at + 9) (sha256 group ++ group))
    (sym c.size_at.ensures.same.seen) (summed file c.args.at group it.text) in
    c.tested_at.ensures.other none clean group many there

-- Gate, length and sum are those of the bytes that were read.
pub returns-clause-group : goal.returns-clause-group
returns-clause-group g c clean =
    let file = g.D.Disk.seen c.args.disk.now in
    let group = c.in-Some-2.group.items in
    let both = (rw c.in-Some.is at c.in_ok-size.ensures.some) (c.tested_at.ensures.same.clean clean) in
    let held = (rw c.in-Some-2.is at c.in_ok-group.ensures.held) clean in
    let many = rw c.in-Some-2.is at c.in_ok-group.ensures.size in
    let lawful = c.is_lawful.ensures.0 c.if-not-is_lawful.false in
    let rest = subst (λ (f : List ℕ). Holds f (c.args.at + 9) (sha256 group ++ group)) c.size_at.ensures.same.seen
    held in
    record {
      gate = both.0;
      text = made file c.args.at c.in-Some.size group many both.1 rest;
      some = omega (arith, lawful.0, many);
      short = omega (arith, lawful.1, many);
    }
