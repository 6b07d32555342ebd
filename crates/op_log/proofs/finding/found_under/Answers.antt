use Rattle.std.proofs.Common.{◌≡◌, ◌+◌, inl, inr, List, ℕ, None, Some, true, false, sym, subst, ap, ◌∙◌, arith}
use Rattle.std.proofs.lemmas.Option.{same_Some as some_is}
use Rattle.sqlite_disk.specs.Disk.{Holds}
use Rattle.body_log.specs.Log.{disk_of, end_of}
use Rattle.op_log.specs.Heads.{Head}
use Rattle.op_log.specs.Kept.{IsBelow}
use Rattle.op_log.specs.Places.{head_by}
use Rattle.op_log.specs.Puts.{LeadsTo}
use Rattle.op_log.proofs.Growing.{leads_from, reaches_less}
use Rattle.op_log.proofs.Lookups.{among}
use Rattle.op_log.proofs.finding.found_under.Goals as goal

-- The place lies below the end.
pub found_at-requires : goal.found_at-requires
found_at-requires g c =
    let old = c.args.bodies.now in
    let digest = c.args.spelled.now.digest.now in
    let h = head_by digest c.in-Some.place.now in
    let low = among (IsBelow (end_of old)) c.args.places.now digest h c.in-Some.ensures.found c.requires.below in
    record { reach = reaches_less g.B.Disk old (h.at + h.size) low c.requires.reach }

-- The operation lies where the first head with its digest says.
pub returns-in-Some-clause-these : goal.returns-in-Some-clause-these
returns-in-Some-clause-these g c told clean =
    let s = c.args.spelled.now in
    let place = c.in-Some.place.now in
    let parts = c.found_at.ensures.these told clean in
    let found = c.in-Some.ensures.found in
    let low = among (IsBelow (end_of c.args.bodies.now)) c.args.places.now s.digest.now (head_by s.digest.now place) found c.requires.below in (
      place.at,
      found ∙ λ i. Some (record { digest = s.digest.now; front = parts.front i; at = place.at; size = parts.size i }),
      λ some. (parts.held (omega (arith, some, parts.size)), omega (arith, low, parts.size, c.found_at.ensures.end)),
    )

-- What lies there is none of these parts, and it has the digest, or another front.
pub returns-in-Some-clause-others : goal.returns-in-Some-clause-others
returns-in-Some-clause-others g c told =
    let s = c.args.spelled.now in
    let old = c.args.bodies.now in
    let new = c.found_at.new.bodies in
    let place = c.in-Some.place.now in
    let h = head_by s.digest.now place in
    let found = c.in-Some.ensures.found in
    let low = among (IsBelow (end_of old)) c.args.places.now s.digest.now h found c.requires.below in (
      h,
      found,
      λ clean has.
          let (at, first, lies) = has in
          let same = some_is _ _ (sym found ∙ first) in
          let size = ap (λ (k : Head). k.size) same in
          c.found_at.ensures.others told clean (record {
            front = ap (λ (k : Head). k.front) same;
            size = size;
            held = λ some.
                subst (λ (f : List ℕ). Holds f place.at s.body.now) c.found_at.ensures.seen
                (subst (λ (n : ℕ). Holds (g.B.Disk.seen (disk_of new)) n s.body.now) (sym (ap (λ (k : Head). k.at) same))
                (lies (omega (arith, some, size))).0);
          }),
      elim (c.found_at.ensures.whole told) [
        | inl front ↦ inl front
        | inr whole ↦ inr (λ clean. leads_from g.B.Disk old new c.found_at.ensures.seen c.found_at.ensures.end h true low (whole clean))
      ],
    )

-- What lies there can't be read as the operation.
pub returns-in-Some-clause-unread : goal.returns-in-Some-clause-unread
returns-in-Some-clause-unread g c told k is =
    let s = c.args.spelled.now in
    let old = c.args.bodies.now in
    let new = c.found_at.new.bodies in
    let h = head_by s.digest.now c.in-Some.place.now in
    let found = c.in-Some.ensures.found in
    let low = among (IsBelow (end_of old)) c.args.places.now s.digest.now h found c.requires.below in
    let same : h ≡ k = some_is _ _ (sym found ∙ is) in (
      sym (ap (λ (x : Head). x.front) same) ∙ c.found_at.ensures.front told,
      λ clean.
          subst (λ (x : Head). LeadsTo g.B.Disk (disk_of new) (end_of new) x false) same
          (leads_from g.B.Disk old new c.found_at.ensures.seen c.found_at.ensures.end h false low (c.found_at.ensures.unreadable told clean)),
    )

-- No head has the digest.
pub returns-in-None-clause-unread : goal.returns-in-None-clause-unread
returns-in-None-clause-unread g c told k is =
    let none = c.find.ensures.none c.in-None.is in
    let both : None ≡ Some k = sym none ∙ is in
    absurd cc
