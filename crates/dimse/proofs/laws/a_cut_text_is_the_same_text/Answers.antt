use Rattle.dimse.proofs.CutLaws.{texts_stay}
use Rattle.dimse.proofs.laws.a_cut_text_is_the_same_text.Goals as goal

-- The second part takes the first back before the text that it goes on.
pub returns : goal.returns
returns c = λ before behind first second goes_on context kind. texts_stay before behind first second goes_on context
    kind
