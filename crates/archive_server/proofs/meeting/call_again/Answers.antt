use Rattle.std.proofs.Common.{suc}
use Rattle.archive_server.proofs.CallingLaws.{went_none, one_more, the_last}
use Rattle.archive_server.proofs.OnwardLaws.{gone_self, gone_trans}
use Rattle.archive_server.proofs.meeting.call_again.Goals as goal

-- Before the first call nothing is done.
pub loop-init : goal.loop-init
loop-init g c = ((0, went_none _), gone_self _)

-- The clerk goes on from call to call.
pub returns-then-not-is_served_after-clause-onward : goal.returns-then-not-is_served_after-clause-onward
returns-then-not-is_served_after-clause-onward g c =
    gone_trans _ _ _ c.loop.invariant.1 c.meet-onward.ensures.onward

-- Behind the last call nobody serves any more.
pub returns-then-not-is_served_after-clause-again : goal.returns-then-not-is_served_after-clause-again
returns-then-not-is_served_after-clause-again g c =
    let before = c.loop.invariant.0 in
    the_last _ _ _ _ c.args.every before.0 c.is_served_after.result before.1 c.note.ensures.turned
    c.is_served_after.ensures.turned c.if-not-is_served_after.true

-- Behind each other one somebody serves.
pub loop-preserved : goal.loop-preserved
loop-preserved g c =
    let before = c.loop.invariant.0 in (
      (
        suc before.0,
        one_more _ _ _ _ c.args.every before.0 c.is_served_after.result before.1 c.note.ensures.turned
            c.is_served_after.ensures.turned c.if-not-is_served_after.false,
      ),
      gone_trans _ _ _ c.loop.invariant.1 c.meet-onward.ensures.onward,
    )
