use Rattle.exchange.proofs.round.Round.on_want.Goals as goal

-- The holder's answer is that of the round's own version.
pub returns : goal.returns
returns g c = rw (← c.self.view_is) c.held.ensures
