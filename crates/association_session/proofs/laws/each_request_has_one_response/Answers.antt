use Rattle.std.proofs.Common.{None}
use Rattle.association_session.proofs.FinalLaws.{responded}
use Rattle.association_session.proofs.laws.each_request_has_one_response.Goals as goal

-- The lemma says it.
pub returns : goal.returns
returns c = λ titles w heard replies deeds talk. responded titles heard w None replies deeds tt talk
