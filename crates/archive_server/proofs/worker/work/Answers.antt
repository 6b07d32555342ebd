use Rattle.std.proofs.Common.{rules, ◌≡◌, ◌+◌, refl, ap, ◌∙◌, inr}
use Rattle.archive_server.specs.Done.{Standing}
use Rattle.archive_server.proofs.OnwardLaws.{gone_self, gone_trans}
use Rattle.archive_server.proofs.CountLaws.{served_by_all, told_alone}
use Rattle.archive_server.proofs.worker.work.Goals as goal

-- A worker whose buffer was refused gives its pass back as it came, and tells it.
pub returns-in_default : goal.returns-in_default
returns-in_default g c = record {
  served = told_alone _ _ _ (ap (λ (s : Standing). s.pass) c.nothing.ensures.clerk) c.nothing.ensures.none.0
      c.nothing.ensures.fault;
}

-- Before the first accept nothing is used up.
pub loop-init : goal.loop-init
loop-init g c = (
  let none = c.nothing-done.ensures.none in rw (none.0, none.1) refl,
  inr (inr c.nothing-done.ensures.none.1),
  rw c.nothing-done.ensures.clerk (gone_self _),
)

-- Each accept uses up one, and one that fails is told.
pub loop-preserved : goal.loop-preserved
loop-preserved g c = (
  c.next-done.ensures.used ∙ ap (λ n. n + 1) c.loop.invariant.0,
  c.next-done.ensures.told c.loop.invariant.1,
  gone_trans _ _ _ c.loop.invariant.2 c.next-done.ensures.onward,
)

-- So all that may be accepted was, or a fault is told.
pub returns : goal.returns
returns g c =
    let ended : c.loop.counter ≡ c.args.hall.now.each = search rules in
    record {
      served = served_by_all _ _ (c.loop.invariant.0 ∙ ended) c.loop.invariant.1 c.loop.invariant.2.onward;
    }
