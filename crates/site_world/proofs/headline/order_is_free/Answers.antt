use Rattle.site_world.proofs.Alike.{same_maps, same_answers, time_is_free, taken_apart}
use Rattle.site_world.proofs.headline.order_is_free.Goals as goal

-- Sites at which the same operations were taken hold equal maps.
pub returns-clause-states : goal.returns-clause-states
returns-clause-states c = same_maps

-- Such sites answer every query in every view alike, and send the same of every selection.
pub returns-clause-answers : goal.returns-clause-answers
returns-clause-answers c = same_answers

-- An operation may be taken before, between or after the others: the sites answer alike.
pub returns-clause-times : goal.returns-clause-times
returns-clause-times c = time_is_free

-- Of unequal operations of one digest a site takes one alone.
pub returns-clause-apart : goal.returns-clause-apart
returns-clause-apart c = taken_apart
