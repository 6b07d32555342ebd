use Rattle.std.proofs.Common.{inl, inr}
use Rattle.std.proofs.lemmas.Result.{err_from_is_err_and}
use Rattle.exchange.proofs.Holdings.{turned}
use Rattle.exchange.proofs.round.Round.on_have.Goals as goal

-- What the holder refuses is told.
pub returns-in_err-want-clause-want : goal.returns-in_err-want-clause-want
returns-in_err-want-clause-want g c = let p = err_from_is_err_and c.from_residual.result c.from_residual.ensures.1 in
    turned c.in_err-want.ensures (λ m e. rw (p.1, p.2) (inr e))

-- Where memory for what is asked is refused nothing is wanted.
pub returns-in_err-asked-clause-want : goal.returns-in_err-asked-clause-want
returns-in_err-asked-clause-want g c = let p = err_from_is_err_and c.from_residual-in_err-asked.result
    c.from_residual-in_err-asked.ensures.1 in turned c.in_ok-want.ensures (λ m e. rw p.1 (inl p.2))
