use Rattle.exchange_tree.proofs.Takings.{taken_in_place}
use Rattle.exchange_tree.proofs.laws.a_digest_is_taken_in_its_place.Goals as goal

-- It begins with the two bytes of no other place.
pub returns : goal.returns
returns c = taken_in_place
