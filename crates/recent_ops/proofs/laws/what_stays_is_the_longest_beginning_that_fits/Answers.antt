use Rattle.recent_ops.proofs.Fitting.{fits as stay_within, begins, longest as no_longer}
use Rattle.recent_ops.proofs.laws.what_stays_is_the_longest_beginning_that_fits.Goals as goal

-- what stays takes no more than there is room for
pub returns-clause-fits : goal.returns-clause-fits
returns-clause-fits c most held = stay_within most held

-- it is a beginning of what was there
pub returns-clause-beginning : goal.returns-clause-beginning
returns-clause-beginning c most held = begins most held

-- and each beginning that fits is no longer
pub returns-clause-longest : goal.returns-clause-longest
returns-clause-longest c most stay go low = no_longer most stay go low
