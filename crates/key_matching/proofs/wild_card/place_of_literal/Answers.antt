use Rattle.key_matching.proofs.Runs.{found_first}
use Rattle.key_matching.proofs.wild_card.place_of_literal.Goals as goal

-- The first place of the bytes is the first at which the run matches.
pub returns-clause-first : goal.returns-clause-first
returns-clause-first c = found_first c.args.run.now c.args.value.now c.requires c.find.result c.find.ensures
