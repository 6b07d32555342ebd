use Rattle.std.proofs.Common.{◌+◌, refl, ap, ◌∙◌}
use Rattle.archive_server.proofs.OnwardLaws.{gone_self, gone_trans}
use Rattle.archive_server.proofs.exchanging.exchange_all.Goals as goal

-- Before the first accept of an exchange nothing is used up.
pub loop-init : goal.loop-init
loop-init g c = (
  let none = c.nothing-done.ensures.none in rw (none.0, none.1) refl,
  rw c.nothing-done.ensures.clerk (gone_self _),
)

-- Each accept uses up one.
pub loop-preserved : goal.loop-preserved
loop-preserved g c = (
  c.next_exchange-done.ensures.used ∙ ap (λ n. n + 1) c.loop.invariant.0,
  gone_trans _ _ _ c.loop.invariant.1 c.next_exchange-done.ensures.onward,
)
