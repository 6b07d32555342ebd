use Rattle.std.proofs.lemmas.Result.{err_from_is_err_and}
use Rattle.exchange.proofs.Holders.{idles_of, refused_is}
use Rattle.exchange.proofs.side.Side.show.Goals as goal

-- A refusal leaves what the holder has.
pub returns-in_err-buckets-clause-did : goal.returns-in_err-buckets-clause-did
returns-in_err-buckets-clause-did g c = let p = err_from_is_err_and c.from_residual.result c.from_residual.ensures.1 in
    rw p.1 (idles_of c.in_err-buckets.ensures)

-- What the holder refused is told as that.
pub returns-in_err-buckets-clause-refused : goal.returns-in_err-buckets-clause-refused
returns-in_err-buckets-clause-refused g c = let p = err_from_is_err_and c.from_residual.result c.from_residual.ensures.1 in
    rw (p.1, p.2) (refused_is _ (g.H.Holder.refuses_look _ _) _ c.in_err-buckets.ensures.answers)
