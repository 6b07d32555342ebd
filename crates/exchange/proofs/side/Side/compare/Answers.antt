use Rattle.std.proofs.lemmas.Result.{err_from_is_err_and}
use Rattle.exchange.proofs.Holders.{idles_of, refused_or}
use Rattle.exchange.proofs.side.Side.compare.Goals as goal

-- A refusal leaves what the holder has.
pub returns-in_err-places-clause-did : goal.returns-in_err-places-clause-did
returns-in_err-places-clause-did g c = let p = err_from_is_err_and c.from_residual.result c.from_residual.ensures.1 in
    rw p.1 (idles_of c.in_err-places.ensures)

-- What the holder refused is told as that.
pub returns-in_err-places-clause-refused : goal.returns-in_err-places-clause-refused
returns-in_err-places-clause-refused g c = let p = err_from_is_err_and c.from_residual.result c.from_residual.ensures.1 in
    rw (p.1, p.2) (refused_or _ (g.H.Holder.refuses_look _ _) _ c.in_err-places.ensures.answers)

-- So it does where there is no room for a copy of the places.
pub returns-in_err-self-clause-did : goal.returns-in_err-self-clause-did
returns-in_err-self-clause-did g c =
    let p = err_from_is_err_and c.from_residual-in_err-self.result c.from_residual-in_err-self.ensures.1 in
    rw p.1 (idles_of c.in_ok-places.ensures)
