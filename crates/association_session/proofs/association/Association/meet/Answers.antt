use Rattle.association_session.proofs.TurnLaws.{entered_is}
use Rattle.association_session.proofs.association.Association.meet.Goals as goal

-- The state, what was settled and agreed, and the values are those of the row.
pub returns-clause-next : goal.returns-clause-next
returns-clause-next c =
    entered_is c.args.titles.now.list c.args.self.now c.args.event c.in-Some.acceptor.state c.in-Some.acceptor.settled
    c.self.inside.link c.self.inside.sub c.self.inside.awaited c.self.inside.queue.items
    c.turn.new.acceptor.state c.turn.new.acceptor.settled c.turn.new.link c.from_vec.result.items
    (rw c.in-Some.is at c.self.view_is) c.in_ok-action.ensures.next c.in_ok-action.ensures.settled
    c.in_ok-action.ensures.link c.in_ok-action.ensures.stage
    (cc (c.from_vec.ensures.items, c.into_vec.ensures, c.in_ok-deeds.ensures.values, c.in_ok-action.ensures.action))
