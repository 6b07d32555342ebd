use Rattle.std.proofs.Common.{ap, ◌∙◌, ℕ}
use Rattle.std.proofs.lemmas.Result.{err_from_is_err_and}
use Rattle.exchange.specs.declared.task.Awaited.{Awaited}
use Rattle.exchange.specs.Course.{next_after_gifts}
use Rattle.exchange.proofs.Gifts.{gives_loaded}
use Rattle.exchange.proofs.Holders.{idles_of, refused_is}
use Rattle.exchange.proofs.side.Side.give.Goals as goal

-- A refusal leaves what the holder has.
pub returns-in_err-held-clause-did : goal.returns-in_err-held-clause-did
returns-in_err-held-clause-did g c = let p = err_from_is_err_and c.from_residual.result c.from_residual.ensures.1 in
    rw p.1 (idles_of c.in_err-held.ensures)

-- What the holder refused is told as that.
pub returns-in_err-held-clause-refused : goal.returns-in_err-held-clause-refused
returns-in_err-held-clause-refused g c = let p = err_from_is_err_and c.from_residual.result c.from_residual.ensures.1 in
    rw (p.1, p.2) (refused_is _ (g.H.Holder.refuses_look _ _) _ c.in_err-held.ensures.answers)

-- What is held is given, and is held still.
pub returns-clause-did : goal.returns-clause-did
returns-clause-did g c = gives_loaded g.H.Holder.holds g.H.Holder.alone c.args.want.now c.args.self.now _ _ _ _
    c.in_ok-held.ensures (ap (λ (a : Awaited). record c.args.self.now { awaited = a; given = c.len.result })
    c.after_gifts-self.ensures
    ∙ ap (λ (n : ℕ). record c.args.self.now { awaited = next_after_gifts c.args.self.now.role; given = n })
    c.len.ensures)
