use Rattle.site_world.proofs.Rejected.{in_no_row, as_if_never_stored}
use Rattle.site_world.proofs.headline.what_is_rejected_is_in_no_row.Goals as goal

-- What a note names is in no row and no count where its title hides, whenever the note was taken.
pub returns-clause-nowhere : goal.returns-clause-nowhere
returns-clause-nowhere c = in_no_row

-- Where what it names is no note itself, all rows are as if it had never been stored.
pub returns-clause-as_if_never_stored : goal.returns-clause-as_if_never_stored
returns-clause-as_if_never_stored c = as_if_never_stored
