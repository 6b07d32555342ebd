use Rattle.std.proofs.Common.{◌≡◌, ◌+◌, ◌++◌, ◌≤◌, ◌∙◌, take, drop, length, sym, refl, arith}
use Rattle.std.proofs.lemmas.List.{length-take}
use Rattle.association_run.proofs.HandLaws.{grown, wants_still, resized, counted}
use Rattle.association_run.proofs.inbox.Inbox.read_on.Goals as goal

-- What was read stands behind what came before, and there is room for all that is wanted.
pub invariant_of-self-2 : goal.invariant_of-self-2
invariant_of-self-2 g c =
    let s = c.self.inside in
    let f = s.filled in
    let n = c.in_ok-count.count in
    let new = c.read_behind.new.bytes.items in
    let filled : take f c.resize.new.self.items ≡ take f s.bytes.items = rw c.in_ok-resize.ensures.items
    (resized f s.wanted s.bytes.items _ c.self.invariant.0 c.self.invariant.1) in
    let is = grown f n s.bytes.items c.resize.new.self.items new filled c.in_ok-count.ensures.front in
    let long : length new ≡ s.wanted = c.in_ok-count.ensures.long ∙ sym c.resize.new.self.ok.0
    ∙ c.in_ok-resize.ensures.len in
    let within : f + n ≤ length new = omega (arith, c.in_ok-count.ensures.count.1, c.in_ok-count.ensures.long) in
    let small : length (take f s.bytes.items ++ take n (drop f new)) ≤ s.wanted = rw (← is)
    (omega (arith, length-take (f + n) new, long)) in (
      within,
      omega (arith, long),
      rw is (wants_still (take f s.bytes.items) (take n (drop f new)) s.wanted small
          c.self.invariant.2),
    )

-- The bytes that the reader gave up are those behind what came before.
pub returns-clause-read : goal.returns-clause-read
returns-clause-read g c =
    let s = c.self.inside in
    let f = s.filled in
    let n = c.in_ok-count.count in
    let new = c.read_behind.new.bytes.items in
    let filled : take f c.resize.new.self.items ≡ take f s.bytes.items = rw c.in_ok-resize.ensures.items
    (resized f s.wanted s.bytes.items _ c.self.invariant.0 c.self.invariant.1) in
    rw (← c.self.view_is) (record {
      bytes = take n (drop f new);
      read = c.in_ok-count.ensures.read;
      counted = counted f n new (omega (arith, c.in_ok-count.ensures.count.1, c.in_ok-count.ensures.long));
      behind = grown f n s.bytes.items c.resize.new.self.items new filled c.in_ok-count.ensures.front;
      wanted = refl;
      few = c.in_ok-count.ensures.count.0;
      end = c.in_ok-count.ensures.end;
    })
