use Rattle.std.proofs.Common.{◌∷◌, ◌++◌, [], refl, ◌∙◌}
use Rattle.archive_server.proofs.CallingLaws.{went_none}
use Rattle.archive_server.proofs.CorrectingLaws.{answered_on, answered_self}
use Rattle.archive_server.proofs.PagingLaws.{one_wait_more, the_last_wait}
use Rattle.archive_server.proofs.correcting.accept_again.Goals as goal

-- The desk answers from accept to accept.
pub returns-then-not-is_served_after-clause-answered : goal.returns-then-not-is_served_after-clause-answered
returns-then-not-is_served_after-clause-answered g c =
    answered_on g.H.HubName.opening c.args.correcting.names.now c.args.clerk c.loop.onward c.loop.onward
    c.accept_one-done.result.0.clerk c.nothing.result.clerk c.args.stamps c.loop.made
    c.accept_one-done.result.1 c.loop.invariant.1 refl
    c.accept_one-done.ensures.answered (c.nothing.ensures.clerk ∙ c.into_parts-clerk.ensures.clerk)

-- Behind the last accept nobody serves any more.
pub returns-then-not-is_served_after-clause-again : goal.returns-then-not-is_served_after-clause-again
returns-then-not-is_served_after-clause-again g c =
    let before = c.loop.invariant.0 in
    the_last_wait _ _ _ before.0 c.accept_one-done.result.2 c.is_served_after.result before.1
    c.is_served_after.ensures.turned c.if-not-is_served_after.true

-- Behind each other one somebody serves.
pub loop-preserved : goal.loop-preserved
loop-preserved g c =
    let before = c.loop.invariant.0 in (
      (
        before.0 ++ c.accept_one-done.result.2 ∷ [],
        one_wait_more _ _ _ before.0 c.accept_one-done.result.2 c.is_served_after.result before.1
            c.is_served_after.ensures.turned c.if-not-is_served_after.false,
      ),
      answered_on g.H.HubName.opening c.args.correcting.names.now c.args.clerk c.loop.onward c.loop.onward
          c.accept_one-done.result.0.clerk c.into_parts-clerk.result.0 c.args.stamps c.loop.made
          c.accept_one-done.result.1 c.loop.invariant.1 refl
          c.accept_one-done.ensures.answered c.into_parts-clerk.ensures.clerk,
    )

-- Nobody came yet.
pub loop-init : goal.loop-init
loop-init g c = (([], went_none (g.C.Pauses.turns c.args.pauses.now)), answered_self g.H.HubName.opening _)
