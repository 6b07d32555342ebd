use Rattle.std.proofs.Common.{refl}
use Rattle.std.proofs.lemmas.Result.{err_from_is_err_and}
use Rattle.exchange.specs.Round.{refusal_of}
use Rattle.exchange.proofs.Holders.{untaken}
use Rattle.exchange.proofs.side.Side.take.Goals as goal

-- What was refused was not taken.
pub returns-in_err-taken-clause-did : goal.returns-in_err-taken-clause-did
returns-in_err-taken-clause-did g c =
    let p = err_from_is_err_and c.from_residual.result c.from_residual.ensures.1 in
    rw p.1 (untaken g.H.Holder.holds g.H.Holder.alone _ _ c.args.op c.args.self.now.round _
    (refusal_of c.args.self.now.round c.args.op) refl c.in_err-taken.ensures.untaken c.in_err-taken.ensures.taken)

-- What the holder refused is told as that.
pub returns-in_err-taken-clause-refused : goal.returns-in_err-taken-clause-refused
returns-in_err-taken-clause-refused g c =
    let p = err_from_is_err_and c.from_residual.result c.from_residual.ensures.1 in
    rw (p.1, p.2) (λ e. c.in_err-taken.ensures.refused cc)
