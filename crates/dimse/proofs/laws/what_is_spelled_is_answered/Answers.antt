use Rattle.dimse.proofs.SpelledLaws.{spelled_is_answered}
use Rattle.dimse.proofs.laws.what_is_spelled_is_answered.Goals as goal

-- Each fragment that is spelled leads to one thing alone, and a cause is told.
pub returns : goal.returns
returns c = λ contexts pdvs end answers run memory spelled fault ends other. spelled_is_answered contexts pdvs end
    answers spelled fault run memory ends other
