use Rattle.exchange.proofs.Parted.{fitting_tells}
use Rattle.exchange.proofs.laws.a_have_tells_what_fits.Goals as goal

-- It is cut where a place does not fit whole.
pub returns : goal.returns
returns c = fitting_tells
