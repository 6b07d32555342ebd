use Rattle.dimse.specs.Messages.{fresh}
use Rattle.std.proofs.Common.{[], refl}
use Rattle.dimse.proofs.RunLaws.{run_ends}
use Rattle.dimse.proofs.laws.messages_are_those_spelled.Goals as goal

-- What is held after each answer is spelled by the fragments so far.
pub returns : goal.returns
returns c = λ contexts pdvs end answers run. run_ends (fresh contexts) [] pdvs answers end refl run
