use Rattle.std.proofs.Common.{◌∷◌, ◌++◌, []}
use Rattle.archive_server.proofs.PagingLaws.{only_trans, one_wait_more, the_last_wait}
use Rattle.archive_server.proofs.paging.accept_again.Goals as goal

-- The clerk looks from accept to accept.
pub returns-then-not-is_served_after-clause-looked : goal.returns-then-not-is_served_after-clause-looked
returns-then-not-is_served_after-clause-looked g c =
    rw (c.nothing.ensures.clerk, c.into_parts-clerk.ensures.clerk)
    (only_trans _ _ _ c.loop.invariant.1 c.accept_one-done.ensures.looked)

-- Behind the last accept nobody serves any more.
pub returns-then-not-is_served_after-clause-again : goal.returns-then-not-is_served_after-clause-again
returns-then-not-is_served_after-clause-again g c =
    let before = c.loop.invariant.0 in
    the_last_wait _ _ _ before.0 c.accept_one-done.result.1 c.is_served_after.result before.1
    c.is_served_after.ensures.turned c.if-not-is_served_after.true

-- Behind each other one somebody serves.
pub loop-preserved : goal.loop-preserved
loop-preserved g c =
    let before = c.loop.invariant.0 in (
      (
        before.0 ++ c.accept_one-done.result.1 ∷ [],
        one_wait_more _ _ _ before.0 c.accept_one-done.result.1 c.is_served_after.result before.1
            c.is_served_after.ensures.turned c.if-not-is_served_after.false,
      ),
      rw c.into_parts-clerk.ensures.clerk
          (only_trans _ _ _ c.loop.invariant.1 c.accept_one-done.ensures.looked),
    )
