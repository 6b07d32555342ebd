use Rattle.std.proofs.Common.{sym, subst}
use Rattle.exchange.specs.Round.{IsFinished}
use Rattle.exchange.proofs.round.Round.finished.Goals as goal

-- What was asked for tells it.
pub returns : goal.returns
returns c = (
  λ all. subst IsFinished c.self.view_is (c.all_given.ensures.0 all),
  λ finished. c.all_given.ensures.1 (subst IsFinished (sym c.self.view_is) finished),
)
