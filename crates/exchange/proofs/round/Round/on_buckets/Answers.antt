use Rattle.std.proofs.Common.{ap, ◌∙◌, inl, inr}
use Rattle.exchange.specs.Buckets.{unequal}
use Rattle.std.proofs.lemmas.Result.{err_from_is_err_and}
use Rattle.exchange.proofs.Holdings.{turned}
use Rattle.exchange.proofs.round.Round.on_buckets.Goals as goal

-- What the holder refuses is told.
pub returns-in_err-own : goal.returns-in_err-own
returns-in_err-own g c = let p = err_from_is_err_and c.from_residual.result c.from_residual.ensures.1 in
    turned c.in_err-own.ensures (λ m e. rw (p.1, p.2) (inr e))

-- Where memory for the places is refused no place is told.
pub returns-in_err-unequal : goal.returns-in_err-unequal
returns-in_err-unequal g c = let p = err_from_is_err_and c.from_residual-in_err-unequal.result
    c.from_residual-in_err-unequal.ensures.1 in turned c.in_ok-own.ensures (λ m e. rw p.1 (inl p.2))

-- The places are told of the buckets of that set.
pub returns : goal.returns
returns g c =
    rw (← c.self.view_is)
    (turned c.in_ok-own.ensures (λ m e. c.in_ok-unequal.ensures ∙ ap (λ own. unequal own c.args.buckets.now)
    (c.as_slice.ensures ∙ e)))
