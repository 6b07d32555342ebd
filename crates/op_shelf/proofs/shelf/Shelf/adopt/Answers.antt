use Rattle.std.proofs.Common.{Err, ap}
use Rattle.op_shelf.proofs.shelf.Shelf.adopt.Goals as goal

-- What is given up is what `make_ready` left.
pub returns-in-Err-clause-given_up : goal.returns-in-Err-clause-given_up
returns-in-Err-clause-given_up g c = (
  c.make_ready.new.database,
  record {
    kept = c.in-Err.ensures.refused;
    bad_row = λ clean is. c.in-Err.ensures.bad_row clean (ap (λ e. Err e) is);
    store = λ clean why is. c.in-Err.ensures.store clean why (ap (λ e. Err e) is);
    crash = c.make_ready.ensures.crash;
  },
)
