use Rattle.std.proofs.Common.{◌≡◌, ◌+◌, ◌++◌, List, ℕ, Ok, None, true, arith, subst, sym, refl, rules}
use Rattle.sha2.specs.Sha256.{sha256}
use Rattle.sqlite_disk.specs.Disk.{Holds}
use Rattle.older_heads.proofs.Texts.{long, made, said, summed}
use Rattle.older_heads.proofs.hiding.hides_at.Goals as goal

-- A group would reach past the end of the file.
pub returns-then-not-has_room-clause-hides : goal.returns-then-not-has_room-clause-hides
returns-then-not-has_room-clause-hides g c clean = (
  λ is. absurd cc,
  λ it.
      let many = c.requires.whole clean in
      let yes : c.has_room.result ≡ true = c.has_room.ensures.1 (omega (arith, many, it.text.within, long it.group)) in
      let no = c.if-not-has_room.true in
      absurd cc,
)

-- It would be as long as the file says.
pub returns-then-not-is_lawful-clause-hides : goal.returns-then-not-is_lawful-clause-hides
returns-then-not-is_lawful-clause-hides g c clean = (
  λ is. absurd cc,
  λ it.
      let file = g.D.Disk.seen c.args.disk.now in
      let many = c.requires.whole (c.number_at.ensures.same.clean clean) in
      let size = c.in_ok-size.ensures.number clean in
      let as_long = said file c.args.at c.in_ok-size.size it.group c.in_ok-size.ensures.fits it.short it.text size in
      let yes : c.is_lawful.result ≡ true =
      c.is_lawful.ensures.1 (
        omega (arith, as_long, it.some),
        omega (arith, as_long, it.short),
        omega (arith, as_long, many, it.text.within, long it.group),
      ) in
      let no = c.if-not-is_lawful.true in
      absurd cc,
)

-- It would have its sum.
pub returns-in_default-clause-hides : goal.returns-in_default-clause-hides
returns-in_default-clause-hides g c clean = (
  λ is. absurd cc,
  λ it.
      let file = g.D.Disk.seen c.args.disk.now in
      let at = c.args.at in
      let size = c.in_ok-size.ensures.number (c.tested_at.ensures.same.clean clean) in
      let as_long = said file at c.in_ok-size.size it.group c.in_ok-size.ensures.fits it.short it.text size in
      let none : c.tested_at.result ≡ Ok None = search rules in
      let there = subst (λ (f : List ℕ). Holds f (at + 9) (sha256 it.group ++ it.group))
      (sym c.number_at.ensures.same.seen)
      (summed file at it.group it.text) in
      absurd (c.tested_at.ensures.other none clean it.group as_long there),
)

-- Its length and its sum stand there.
pub returns-clause-hides : goal.returns-clause-hides
returns-clause-hides g c clean = (
  λ is.
      let file = g.D.Disk.seen c.args.disk.now in
      let at = c.args.at in
      let group = c.in-Some._group.items in
      let size = c.in_ok-size.ensures.number (c.tested_at.ensures.same.clean clean) in
      let held = (rw c.in-Some.is at c.in_ok-_group.ensures.held) clean in
      let many = rw c.in-Some.is at c.in_ok-_group.ensures.size in
      let lawful = c.is_lawful.ensures.0 c.if-not-is_lawful.false in
      let rest = subst (λ (f : List ℕ). Holds f (at + 9) (sha256 group ++ group)) c.number_at.ensures.same.seen held in
      record {
        group = group;
        text = made file at c.in_ok-size.size group many size rest;
        some = omega (arith, lawful.0, many);
        short = omega (arith, lawful.1, many);
      },
  λ it. refl,
)
