use Rattle.exchange_tree.proofs.Steps.{step_finds}
use Rattle.exchange_tree.proofs.laws.a_step_finds_what_one_lacks.Goals as goal

-- Were the sums of that child equal, so were the digests beneath it.
pub returns : goal.returns
returns c = step_finds
